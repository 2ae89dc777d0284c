use Rattle.std.proofs.Common.{◌≡◌, ◌≤◌, false, eqb, length, get_or, Some, None, vec_items, sym, ap, ◌∙◌, append-nil, arith, rules}
use Rattle.std.proofs.lemmas.Bool.Decides.{nat_tests}
use Rattle.digits.specs.Digits.{digit_of, pair_of}
use Rattle.script.specs.Hex.{hex_bytes, consed}
use Rattle.script.proofs.Pairs.{joined, joined_more, past, space_front, pair_front, lone_front, nothing_left, consed_none}
use Rattle.script.proofs.hex.decode_hex.Goals as goal

pub returns-in_default-hex_pair : goal.returns-in_default-hex_pair
returns-in_default-hex_pair c =
    let left = c.loop-left.left.now in
    let long : 2 ≤ length left = search rules in
    let apart : eqb (get_or left 0 0) 0x20 ≡ false = grind (arith, nat_tests) in
    let none : pair_of (digit_of (get_or left 0 0)) (digit_of (get_or left 1 0)) ≡ None = sym c.hex_pair.ensures ∙ c.in_default-hex_pair.is in
    sym (c.loop-left.invariant ∙ ap (joined (vec_items c.loop-left.out)) (pair_front left long apart ∙ ap (λ o. consed o (hex_bytes (past 2 left))) none ∙ consed_none (hex_bytes (past 2 left))))

pub loop-left-preserved-in_default-left-2 : goal.loop-left-preserved-in_default-left-2
loop-left-preserved-in_default-left-2 c =
    let left = c.loop-left.left.now in
    let long : 2 ≤ length left = search rules in
    let apart : eqb (get_or left 0 0) 0x20 ≡ false = grind (arith, nat_tests) in
    c.loop-left.invariant
    ∙ ap (joined (vec_items c.loop-left.out)) (pair_front left long apart ∙ ap (λ o. consed o (hex_bytes (past 2 left))) (sym c.in-Some.ensures))
    ∙ joined_more _ _ _ ∙ ap (λ l. joined l (hex_bytes (past 2 left))) (sym c.in_ok-push-in-len2-up.ensures.items)

pub loop-left-preserved : goal.loop-left-preserved
loop-left-preserved c =
    let left = c.loop-left.left.now in
    let long : 1 ≤ length left = search rules in
    let space : get_or left 0 0 ≡ 0x20 = search rules in
    c.loop-left.invariant ∙ ap (joined (vec_items c.loop-left.out)) (space_front left long space)

pub returns-in_default : goal.returns-in_default
returns-in_default c =
    let left = c.loop-left.left.now in
    let some : 1 ≤ length left = grind (arith, nat_tests) in
    let one : length left ≡ 1 = grind (arith, nat_tests) in
    let apart : eqb (get_or left 0 0) 0x20 ≡ false = grind (arith, nat_tests) in
    sym (c.loop-left.invariant ∙ ap (joined (vec_items c.loop-left.out)) (lone_front left one apart))

pub returns : goal.returns
returns c =
    let left = c.loop-left.left.now in
    let none : length left ≡ 0 = grind (arith, nat_tests) in
    sym (c.loop-left.invariant ∙ ap (joined (vec_items c.loop-left.out)) (nothing_left left none) ∙ ap Some (append-nil (vec_items c.loop-left.out)))

use Rattle.std.proofs.Common.{◌≡◌, ◌-◌, eqb, not, length, drop, sym, ap, ◌∙◌, arith, rules, tests}
use Rattle.std.specs.List.{position_or_len}
use Rattle.std.proofs.lemmas.Bool.Decides.{nat_tests}
use Rattle.std.proofs.lemmas.List.{take_all, length-drop}
use Rattle.std.proofs.lemmas.List.Sums.{prefix_len-le-length}
use Rattle.std.proofs.lemmas.Iterator.{YieldsList-from_slice}
use Rattle.std.proofs.lemmas.Iterator.Search.{position_from_yields_List}
use Rattle.script.proofs.Cutting.{trimmed_is}
use Rattle.script.proofs.piece.trim.Goals as goal

pub returns : goal.returns
returns c =
    let text = c.args.text.now in
    let found = position_from_yields_List (λ b. not (eqb b 0x20)) _ _ c.position.result c.position.ensures.ran (YieldsList-from_slice text cc) (λ x b q k. search (rules, tests)) in
    let within = prefix_len-le-length (λ b. not (not (eqb b 0x20))) text in
    let place : c.unwrap_or-start.result ≡ position_or_len (λ b. not (eqb b 0x20)) text = grind (arith, nat_tests) in
    take_all (length text - c.unwrap_or-start.result) (drop c.unwrap_or-start.result text) (simp length-drop (omega arith))
    ∙ ap (λ n. drop n text) place ∙ sym (trimmed_is text)

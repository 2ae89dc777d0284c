use Rattle.std.proofs.Common.{◌≡◌, ◌+◌, ◌-◌, ◌≤◌, eqb, length, take, drop, sym, ap, ◌∙◌, arith, rules, tests}
use Rattle.std.specs.List.{position_or_len}
use Rattle.std.proofs.lemmas.Bool.Decides.{nat_tests}
use Rattle.std.proofs.lemmas.List.{take_all, drop_all, length-drop}
use Rattle.std.proofs.lemmas.Iterator.{YieldsList-from_slice}
use Rattle.std.proofs.lemmas.Iterator.Search.{position_from_yields_List}
use Rattle.script.proofs.Cutting.{until_is, after_is}
use Rattle.script.proofs.piece.cut_at.Goals as goal

pub returns-in-Some : goal.returns-in-Some
returns-in-Some c =
    let text = c.args.text.now in
    let found = position_from_yields_List (λ b. eqb b c.args.separator) _ _ c.position.result c.position.ensures.ran (YieldsList-from_slice text cc) (λ x b q k. search (rules, tests)) in
    let place : c.in-Some.at ≡ position_or_len (λ b. eqb b c.args.separator) text = grind (arith, nat_tests) in
    record {
      piece = ap (λ n. take n text) place ∙ sym (until_is c.args.separator text);
      rest = take_all (length text - (c.in-Some.at + 1)) (drop (c.in-Some.at + 1) text) (simp length-drop (omega arith))
          ∙ ap (λ n. drop (n + 1) text) place ∙ sym (after_is c.args.separator text);
    }

pub returns-in-None : goal.returns-in-None
returns-in-None c =
    let text = c.args.text.now in
    let found = position_from_yields_List (λ b. eqb b c.args.separator) _ _ c.position.result c.position.ensures.ran (YieldsList-from_slice text cc) (λ x b q k. search (rules, tests)) in
    let place : length text ≤ position_or_len (λ b. eqb b c.args.separator) text = grind (arith, nat_tests) in
    record {
      piece = sym (take_all _ text place) ∙ sym (until_is c.args.separator text);
      rest = sym (drop_all _ text (omega arith)) ∙ sym (after_is c.args.separator text);
    }

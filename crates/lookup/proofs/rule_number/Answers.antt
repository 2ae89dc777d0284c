use Rattle.std.proofs.Common.{rules, tests, map, sym, ◌∙◌}
use Rattle.std.proofs.lemmas.Iterator.{YieldsList-from_slice}
use Rattle.std.proofs.lemmas.Iterator.Search.{position_from_yields_List}
use Rattle.std.specs.Str.{bytes_eq}
use Rattle.term.specs.Tables.{head}
use Rattle.lookup.proofs.Views.{position_seen}
use Rattle.lookup.proofs.rule_number.Goals as goal

pub returns-clause-value : goal.returns-clause-value
returns-clause-value c =
    let w = c.args.name.now in
    let rules_seen = c.args.rules.now in
    position_from_yields_List (λ r. bytes_eq (head r).name w) _ _ _ c.position.ensures.ran (YieldsList-from_slice rules_seen cc) (λ x b q k. search (rules, tests))
    ∙ sym (position_seen (λ h. bytes_eq h.name w) head rules_seen) ∙ sym (position_seen (λ v. bytes_eq v w) (λ h. h.name) (map head rules_seen))

use Rattle.std.proofs.Common.{rules, tests, sym, ap, ◌∙◌}
use Rattle.std.proofs.lemmas.Iterator.{YieldsList-from_slice}
use Rattle.std.proofs.lemmas.Iterator.Search.{position_from_yields_List}
use Rattle.std.specs.Str.{bytes_eq}
use Rattle.std.proofs.Common.{map}
use Rattle.code.specs.Names.{letters}
use Rattle.lookup.specs.Lookup.{place_in}
use Rattle.lookup.proofs.Views.{position_seen}
use Rattle.slots.proofs.table.Slots.slot.Goals as goal

pub returns : goal.returns
returns c =
    let w = c.args.name.now in
    let names = c.held.result.now in
    position_from_yields_List (λ n. bytes_eq (letters n) w) _ _ _ c.position.ensures.ran (YieldsList-from_slice names cc) (λ x b q k. search (rules, tests))
    ∙ sym (position_seen (λ v. bytes_eq v w) letters names)
    ∙ ap (λ l. place_in (map letters l) w) c.held.ensures

use Rattle.std.proofs.Common.{map, sym, ap, ◌∙◌}
use Rattle.std.proofs.lemmas.List.{take-map}
use Rattle.arena.specs.Bounded.{stored}
use Rattle.code.specs.Pieces.{piece}
use Rattle.term.specs.Tables.{head, entry}
use Rattle.draft.proofs.Loaded.{same_tables}
use Rattle.draft.proofs.load.cut.Goals as goal

pub returns : goal.returns
returns c =
    let a = c.args.arenas.now in
    let n = c.args.lengths in
    same_tables (ap (map head) c.truncate.ensures ∙ sym (take-map head n.rules (stored a.rules))) c.truncate-2.ensures (ap (map entry) c.truncate-3.ensures ∙ sym (take-map entry n.terms (stored a.terms))) c.truncate-4.ensures (ap (map piece) c.truncate-5.ensures ∙ sym (take-map piece n.parts (stored a.code)))

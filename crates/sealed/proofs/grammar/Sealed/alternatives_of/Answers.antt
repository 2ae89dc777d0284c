use Rattle.std.proofs.Common.{map, length, vec_items, refl, ap, ◌∙◌, arith}
use Rattle.std.proofs.lemmas.Option.{slice_get_read, slice_get_past}
use Rattle.arena.specs.Parts.{part}
use Rattle.sealed.proofs.Grammars.{branch, rule_some, rule_none}
use Rattle.sealed.proofs.grammar.Sealed.alternatives_of.Goals as goal

pub returns-in-Some : goal.returns-in-Some
returns-in-Some c =
    let g = c.args.self.now in
    let s = c.in-Some.span.now in
    let xs = vec_items g.rules in
    let h = c.in-Some.ensures.lookup in
    ap (map (branch g)) (c.of.ensures ∙ ap (part s) c.as_slice.ensures.value)
    ∙ rule_some g c.args.rule s (slice_get_read xs (length xs) c.args.rule s refl (omega (arith, c.from.ensures, ap length c.deref.ensures.value)) (grind (arith)))

pub returns-in-None : goal.returns-in-None
returns-in-None c =
    let xs = vec_items c.args.self.now.rules in
    let h = c.in-None.ensures.lookup in
    rule_none c.args.self.now c.args.rule (slice_get_past xs c.args.rule (omega (arith, c.from.ensures, ap length c.deref.ensures.value)))

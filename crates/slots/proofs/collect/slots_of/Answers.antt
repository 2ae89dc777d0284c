use Rattle.std.proofs.Common.{◌≤◌, [], length, take, sym, ap, ◌∙◌, arith}
use Rattle.std.proofs.lemmas.List.{take_all}
use Rattle.std.specs.List.{fold}
use Rattle.arena.specs.Bounded.{stored}
use Rattle.arena.specs.Parts.{part}
use Rattle.term.specs.Tables.{entry}
use Rattle.names.specs.Stored.{sets_entry}
use Rattle.slots.specs.Tables.{listed, kept}
use Rattle.slots.proofs.Collected.{note_part, one_more, none_more, unset, collected_rule}
use Rattle.slots.proofs.collect.slots_of.Goals as goal
use Rattle.slots.proofs.collect.slots_of.Goals.{in-Attribute, in_default}

pub loop-term-preserved : goal.loop-term-preserved
loop-term-preserved c =
    let terms = c.of-term-items.result.now in
    let term = c.term-item.result in
    let seen = fold (note_part (stored c.args.arenas.now.terms)) [] (take c.loop-alternative.alternative-index c.of-alternatives.result.now) in
    let was = listed c.loop-term.slots in
    elim c.match-term.branch [
      | in-Attribute b ↦ ap listed b.slots-is ∙ one_more seen terms c.loop-term.term-index term was (omega arith) c.term-item.is c.loop-term.invariant _ (b.note.ensures ∙ ap (λ t. kept was (sets_entry (entry t))) (sym b.in-Attribute.is))
      | in_default b ↦ ap listed b.slots-is ∙ none_more seen terms c.loop-term.term-index term was (omega arith) c.term-item.is c.loop-term.invariant (unset term b.in_default.not-Attribute)
    ]

pub returns : goal.returns
returns c =
    let ts = stored c.args.arenas.now.terms in
    let all : length c.of-alternatives.result.now ≤ c.loop-alternative.alternative-index = omega arith in
    c.loop-alternative.invariant ∙ ap (λ l. take 9 (fold (note_part ts) [] l)) (take_all c.loop-alternative.alternative-index c.of-alternatives.result.now all)
    ∙ ap (λ l. take 9 (fold (note_part ts) [] l)) (c.of-alternatives.ensures ∙ ap (part c.args.rule.now.alternatives) c.as_slice.ensures)
    ∙ ap (take 9) (collected_rule c.args.arenas.now c.args.rule.now)

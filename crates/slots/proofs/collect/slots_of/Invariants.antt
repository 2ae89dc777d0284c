use Rattle.std.proofs.Common.{◌≡◌, [], take}
use Rattle.std.specs.List.{fold}
use Rattle.arena.specs.Bounded.{stored}
use Rattle.slots.specs.Tables.{listed}
use Rattle.slots.proofs.Collected.{note_one, note_part}
use Rattle.slots.proofs.collect.slots_of.Given as goal

abbrev pub invariant-loop-term : goal.invariant-loop-term
invariant-loop-term l = listed l.slots ≡ take 9 (fold note_one (fold (note_part (stored l.arenas.terms)) [] (take l.alternative-index l.alternatives)) (take l.term-index l.term-items))

abbrev pub invariant-loop-alternative : goal.invariant-loop-alternative
invariant-loop-alternative l = listed l.slots ≡ take 9 (fold (note_part (stored l.arenas.terms)) [] (take l.alternative-index l.alternatives))

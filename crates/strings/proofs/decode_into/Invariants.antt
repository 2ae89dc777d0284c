use Rattle.std.proofs.Common.{length}
use Rattle.arena.specs.Bounded.{stored}
use Rattle.strings.proofs.Rests.{Going}
use Rattle.strings.proofs.decode_into.Given as goal

abbrev pub invariant-loop-b : goal.invariant-loop-b
invariant-loop-b l = Going l.body l.rest (stored l.out) (stored l.initial.out)

abbrev pub decreases-loop-b : goal.decreases-loop-b
decreases-loop-b l = length l.rest

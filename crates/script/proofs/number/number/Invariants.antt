use Rattle.script.proofs.Counting.{Going}
use Rattle.script.proofs.number.number.Given as goal

abbrev pub invariant-loop-b : goal.invariant-loop-b
invariant-loop-b l = Going l.word l.b-index l.value

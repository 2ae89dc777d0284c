use Rattle.script.proofs.Counting.{goes_on}
use Rattle.script.proofs.number.number.Goals as goal

pub loop-b-preserved : goal.loop-b-preserved
loop-b-preserved c = goes_on c.args.word.now c.loop-b.b-index c.loop-b.value 0 c.loop-b-test.true c.loop-b.invariant c.in_ok-value.value c.in_ok-value.ensures

use Rattle.std.proofs.Common.{arith}
use Rattle.token.proofs.Sofar.{past_end}
use Rattle.token.proofs.next.Goals as goal

pub returns-then-at-text : goal.returns-then-at-text
returns-then-at-text c = past_end c.args.text.now c.args.at (omega arith)

use Rattle.std.proofs.Common.{arith}
use Rattle.token.proofs.Sofar.{bad_starts}
use Rattle.token.proofs.bad_token.Goals as goal

pub loop-to-init : goal.loop-to-init
loop-to-init c = (omega arith, bad_starts c.args.text.now)

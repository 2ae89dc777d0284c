use Rattle.std.proofs.Common.{length, arith}
use Rattle.token.proofs.Stand.{laid}
use Rattle.token.proofs.tokens_stand.Goals as goal

pub returns : goal.returns
returns c = λ bs. laid (length bs) 0 bs (omega arith)

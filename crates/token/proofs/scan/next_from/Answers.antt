use Rattle.std.proofs.Common.{sym, subst}
use Rattle.token.specs.Tokens.{NextIs}
use Rattle.token.proofs.Sofar.{next_is}
use Rattle.token.proofs.scan.next_from.Goals as goal

pub returns : goal.returns
returns c = subst (NextIs c.args.text.now c.args.at) (sym c.unwrap_or.ensures) (next_is c.args.text.now c.args.at c.scan.result c.scan.ensures.reads c.scan.ensures.moves)

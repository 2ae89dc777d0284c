use Rattle.std.proofs.Common.{ap}
use Rattle.token.specs.Ahead.{ahead}
use Rattle.token.proofs.Sofar.{within}
use Rattle.token.proofs.tokens.Tokens.starting_at.Goals as goal

pub returns-clause-stands : goal.returns-clause-stands
returns-clause-stands c = ap (ahead c.args.text.now) c.min-at.ensures

pub returns-clause-left : goal.returns-clause-left
returns-clause-left c = within c.args.text.now c.args.at c.min-at.result c.min-at.ensures

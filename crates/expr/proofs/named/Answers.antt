use Rattle.std.proofs.Common.{rules}
use Rattle.code.specs.Names.{letters}
use Rattle.expr.specs.Trees as tree
use Rattle.expr.proofs.named.Goals as goal

pub returns-in-Some-clause-told : goal.returns-in-Some-clause-told
returns-in-Some-clause-told c = (tree.field (letters c.args.name) (letters c.in-Some.attribute), search rules, c.emit.ensures)

pub returns-in-None-clause-told : goal.returns-in-None-clause-told
returns-in-None-clause-told c = (tree.name (letters c.args.name), search rules, c.emit-in-None.ensures)

use Rattle.std.proofs.Common.{length}
use Rattle.token.specs.Ahead.{AdvancesOrStays}
use Rattle.term.specs.Tables.{tables}
use Rattle.rule.proofs.Several.{Going}
use Rattle.rule.proofs.item.add_all.Given as goal

abbrev pub invariant-loop-last : goal.invariant-loop-last
invariant-loop-last g l = AdvancesOrStays l.fn.tokens l.tokens × Going (g.I.Item.form l.fn.tokens.end) g.I.Item.emit l.fn.tokens.left l.tokens.left (tables l.fn.out) (tables l.out)

abbrev pub decreases-loop-last : goal.decreases-loop-last
decreases-loop-last g l = length l.tokens.left

use Rattle.std.proofs.Common.{ℕ, ◌+◌, ◌*◌, length}
use Rattle.token.specs.Ahead.{Advances}
use Rattle.code.specs.Pieces.{codes}
use Rattle.expr.specs.declared.Level.{Level}
use Rattle.expr.specs.declared.Level.TheVariants as level
use Rattle.expr.specs.Reading.{operand_at}
use Rattle.expr.proofs.Turns.{Going}
use Rattle.expr.proofs.+expression.Given as goal

abbrev depth : Level → ℕ
depth level.Product = 1
depth level.Sum = 4
depth level.Compare = 7

abbrev pub decreases-part : goal.decreases-part
decreases-part l = 8 * length l.tokens.now.left

abbrev pub decreases-operand : goal.decreases-operand
decreases-operand l = 8 * length l.tokens.now.left + depth l.level

abbrev pub decreases-joined : goal.decreases-joined
decreases-joined l = 8 * length l.tokens.now.left + depth l.level + 1

abbrev pub decreases-product : goal.decreases-product
decreases-product l = 8 * length l.tokens.now.left + 3

abbrev pub decreases-sum : goal.decreases-sum
decreases-sum l = 8 * length l.tokens.now.left + 6

abbrev pub decreases-expression : goal.decreases-expression
decreases-expression l = 8 * length l.tokens.now.left + 7

abbrev pub invariant-joined-loop-op : goal.invariant-joined-loop-op
invariant-joined-loop-op l = Advances l.fn.tokens l.tokens × Going (operand_at l.level l.fn.tokens.end l.deeper) l.level l.fn.tokens.left l.tokens.left (codes l.initial.out) (codes l.out)

abbrev pub decreases-joined-loop-op : goal.decreases-joined-loop-op
decreases-joined-loop-op l = length l.tokens.left

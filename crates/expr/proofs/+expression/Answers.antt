use Rattle.std.proofs.Common.{◌≡◌, ◌≤◌, ◌-◌, length, Ok, Err, sym, ap, ◌∙◌, subst, arith, rules}
use Rattle.std.proofs.lemmas.List.{take_all}
use Rattle.std.proofs.lemmas.Result.{err_from_is_err_and}
use Rattle.token.specs.Tokens.{shown}
use Rattle.code.specs.Names.{letters}
use Rattle.code.specs.Pieces.{codes}
use Rattle.expr.specs.Trees as tree
use Rattle.expr.specs.Reading.{Wrote, mark_at, named_at, sum_at, part_at, operand_at, joined_at, expression_at}
use Rattle.token.specs.declared.Mark.TheVariants.{Close}
use Rattle.expr.proofs.Turns.{there, reads_there, refuses_there, begins, no_operator, item_refused, goes_on, alone, first_refused, second_refused, both_sides, forked, bracket_refused, bracket_open, bracket_closed}
use Rattle.expr.proofs.+expression.Goals as goal

pub expression-returns-in_err-sum-clause-told : goal.expression-returns-in_err-sum-clause-told
expression-returns-in_err-sum-clause-told t c =
    let p = err_from_is_err_and c.from_residual.result c.from_residual.ensures.1 in
    let a = c.fork-ahead.result in
    rw (p.1, p.2) (forked a c.args.tokens.now c.fork-ahead.ensures c.args.deeper (Err c.in_err-sum.field-0.0) c.sum.new.tokens.left (codes c.args.out.now) (codes c.sum.new.out) (first_refused (sum_at a.end c.args.deeper) a.left c.sum.new.tokens.left (codes c.args.out.now) (codes c.sum.new.out) c.in_err-sum.field-0.0 c.in_err-sum.ensures.told))

pub expression-returns-in_err-sum-2-clause-told : goal.expression-returns-in_err-sum-2-clause-told
expression-returns-in_err-sum-2-clause-told t c =
    let p = err_from_is_err_and c.from_residual-in_err-sum-2.result c.from_residual-in_err-sum-2.ensures.1 in
    let a = c.fork-ahead.result in
    let op = c.in-Some.ensures in
    let next = c.operator.new.tokens in
    let left = c.sum-in-Some.new.tokens.left in
    let same = op.0 ∙ c.in_ok-sum.ensures.moves.same_end in
    let told = there same (λ n. sum_at n c.args.deeper) next.left left (Err c.in_err-sum-2.field-0.0) (codes c.sum.new.out) (codes c.sum-in-Some.new.out) c.in_err-sum-2.ensures.told in
    rw (p.1, p.2) (forked a c.args.tokens.now c.fork-ahead.ensures c.args.deeper (Err c.in_err-sum-2.field-0.0) left (codes c.args.out.now) (codes c.sum-in-Some.new.out) (second_refused (sum_at a.end c.args.deeper) a.left c.sum.new.tokens.left (codes c.args.out.now) (codes c.sum.new.out) c.in_ok-sum.ensures.told op.1 next.left c.in-Some.op op.2 op.3 _ left (codes c.sum-in-Some.new.out) told))

pub expression-returns-in_ok-sum-2-clause-told : goal.expression-returns-in_ok-sum-2-clause-told
expression-returns-in_ok-sum-2-clause-told t c =
    let a = c.fork-ahead.result in
    let op = c.in-Some.ensures in
    let next = c.operator.new.tokens in
    let left = c.sum-in-Some.new.tokens.left in
    let same = op.0 ∙ c.in_ok-sum.ensures.moves.same_end in
    let told = there same (λ n. sum_at n c.args.deeper) next.left left (Ok tt) (codes c.sum.new.out) (codes c.sum-in-Some.new.out) c.in_ok-sum-2.ensures.told in
    forked a c.args.tokens.now c.fork-ahead.ensures c.args.deeper (Ok tt) left (codes c.args.out.now) (codes c.emit.new.out) (both_sides (sum_at a.end c.args.deeper) a.left c.sum.new.tokens.left (codes c.args.out.now) (codes c.sum.new.out) c.in_ok-sum.ensures.told op.1 next.left c.in-Some.op op.2 op.3 left (codes c.sum-in-Some.new.out) (codes c.emit.new.out) told c.emit.ensures)

pub expression-returns-in_default-clause-told : goal.expression-returns-in_default-clause-told
expression-returns-in_default-clause-told t c =
    let a = c.fork-ahead.result in
    let none = c.in_default.ensures in
    let told = alone (sum_at a.end c.args.deeper) a.left c.sum.new.tokens.left (codes c.args.out.now) (codes c.sum.new.out) c.in_ok-sum.ensures.told none.1 in
    forked a c.args.tokens.now c.fork-ahead.ensures c.args.deeper (Ok tt) c.operator.new.tokens.left (codes c.args.out.now) (codes c.sum.new.out) (subst (λ x. Wrote (Ok tt) (expression_at a.end c.args.deeper a.left) x.left (codes c.args.out.now) (codes c.sum.new.out)) (sym none.0) told)

pub joined-loop-op-init : goal.joined-loop-op-init
joined-loop-op-init t c =
    let now = c.args.tokens.now in
    let first = c.in_ok-operand.ensures in
    (first.moves, begins (operand_at c.args.level now.end c.args.deeper) c.args.level now.left c.operand.new.tokens.left (codes c.args.out.now) (codes c.operand.new.out) first.told)

pub joined-returns-in_err-operand-2-clause-told : goal.joined-returns-in_err-operand-2-clause-told
joined-returns-in_err-operand-2-clause-told t c =
    let p = err_from_is_err_and c.from_residual-in_err-operand-2.result c.from_residual-in_err-operand-2.ensures.1 in
    let now = c.args.tokens.now in
    let op = c.in-Some.ensures in
    let next = c.operator.new.tokens in
    let left = c.operand-in-Some.new.tokens.left in
    let same = op.0 ∙ c.loop-op.invariant.0.same_end in
    let told = there same (λ n. operand_at c.args.level n c.args.deeper) next.left left (Err c.in_err-operand-2.field-0.0) (codes c.loop-op.out) (codes c.operand-in-Some.new.out) c.in_err-operand-2.ensures.told in
    rw (p.1, p.2) (item_refused (operand_at c.args.level now.end c.args.deeper) c.args.level now.left c.operand.new.tokens.left (codes c.args.out.now) (codes c.operand.new.out) c.in_ok-operand.ensures.told c.loop-op.tokens.left (codes c.loop-op.out) c.loop-op.invariant.1 op.1 next.left c.in-Some.op op.2 op.3 _ left (codes c.operand-in-Some.new.out) told)

pub joined-loop-op-preserved : goal.joined-loop-op-preserved
joined-loop-op-preserved t c =
    let now = c.args.tokens.now in
    let op = c.in-Some.ensures in
    let next = c.operator.new.tokens in
    let left = c.operand-in-Some.new.tokens.left in
    let read = c.in_ok-operand-2.ensures in
    let before = c.loop-op.invariant.0 in
    let same = op.0 ∙ before.same_end in
    let told = there same (λ n. operand_at c.args.level n c.args.deeper) next.left left (Ok tt) (codes c.loop-op.out) (codes c.operand-in-Some.new.out) read.told in
    let long = ap length op.2 in
    (record { same_text = read.moves.same_text ∙ op.4 ∙ before.same_text; same_end = read.moves.same_end ∙ same; fewer = omega (arith, read.moves.fewer, long, before.fewer) }, goes_on (operand_at c.args.level now.end c.args.deeper) c.args.level now.left c.operand.new.tokens.left (codes c.args.out.now) (codes c.operand.new.out) c.in_ok-operand.ensures.told c.loop-op.tokens.left (codes c.loop-op.out) c.loop-op.invariant.1 op.1 next.left c.in-Some.op op.2 op.3 left (codes c.operand-in-Some.new.out) (codes c.emit.new.out) told read.moves.fewer c.emit.ensures)

pub joined-returns-clause-told : goal.joined-returns-clause-told
joined-returns-clause-told t c =
    let now = c.args.tokens.now in
    let none = c.in_default.ensures in
    let told = no_operator (operand_at c.args.level now.end c.args.deeper) c.args.level now.left c.operand.new.tokens.left (codes c.args.out.now) (codes c.operand.new.out) c.in_ok-operand.ensures.told c.loop-op.tokens.left (codes c.loop-op.out) c.loop-op.invariant.1 none.1 in
    subst (λ a. Wrote (Ok tt) (joined_at c.args.level now.end c.args.deeper now.left) a.left (codes c.args.out.now) (codes c.loop-op.out)) (sym none.0) told

pub part-returns-in_err-expression-in-Mark-Open-clause-told : goal.part-returns-in_err-expression-in-Mark-Open-clause-told
part-returns-in_err-expression-in-Mark-Open-clause-told t c =
    let p = err_from_is_err_and c.from_residual-in_err-expression-in-Mark-Open.result c.from_residual-in_err-expression-in-Mark-Open.ensures.1 in
    let now = c.args.tokens.now in
    let next = c.take.new.tokens in
    let first = c.in_ok-first.ensures in
    let told = there first.0 (λ n. expression_at n (c.args.deeper - 1)) next.left c.expression.new.tokens.left (Err c.in_err-expression-in-Mark-Open.field-0.0) (codes c.args.out.now) (codes c.expression.new.out) c.in_err-expression-in-Mark-Open.ensures.told in
    rw (p.1, p.2) (bracket_refused now.end c.args.deeper now.left next.left (shown c.in_ok-first.first) (omega arith) first.1 (search rules) (codes c.args.out.now) (codes c.expression.new.out) _ c.expression.new.tokens.left told)

pub part-returns-in_err-mark-in-Mark-Open-clause-told : goal.part-returns-in_err-mark-in-Mark-Open-clause-told
part-returns-in_err-mark-in-Mark-Open-clause-told t c =
    let p = err_from_is_err_and c.from_residual-in_err-mark-in-Mark-Open.result c.from_residual-in_err-mark-in-Mark-Open.ensures.1 in
    let now = c.args.tokens.now in
    let next = c.take.new.tokens in
    let first = c.in_ok-first.ensures in
    let inner = c.in_ok-expression-in-Mark-Open.ensures in
    let rest = c.expression.new.tokens in
    let told = there first.0 (λ n. expression_at n (c.args.deeper - 1)) next.left rest.left (Ok tt) (codes c.args.out.now) (codes c.expression.new.out) inner.told in
    let unshut = refuses_there (inner.moves.same_end ∙ first.0) (mark_at Close) rest.left c.in_err-mark-in-Mark-Open.field-0.0 c.in_err-mark-in-Mark-Open.ensures.told in
    rw (p.1, p.2) (bracket_open now.end c.args.deeper now.left next.left (shown c.in_ok-first.first) (omega arith) first.1 (search rules) (codes c.args.out.now) (codes c.expression.new.out) rest.left told _ c.mark.new.tokens.left unshut)

pub part-returns-in-Number-clause-told : goal.part-returns-in-Number-clause-told
part-returns-in-Number-clause-told t c = (tree.number c.in-Number.n, search rules, c.emit.ensures)

pub part-returns-in-Name-clause-told : goal.part-returns-in-Name-clause-told
part-returns-in-Name-clause-told t c =
    let now = c.args.tokens.now in
    let next = c.take.new.tokens in
    let first = c.in_ok-first.ensures in
    let w = c.in-Name.word.now in
    let short : length w ≤ 24 = search rules in
    let word : letters c.of.result ≡ w = c.of.ensures ∙ take_all 24 w short in
    let reads : part_at now.end c.args.deeper now.left ≡ named_at now.end w next.left = search rules in
    let same = ap (λ n. named_at n (letters c.of.result) next.left) first.0 ∙ ap (λ v. named_at now.end v next.left) word ∙ sym reads in
    subst (λ want. Wrote c.named.result want c.named.new.tokens.left (codes c.args.out.now) (codes c.named.new.out)) same c.named.ensures.told

pub part-returns-in_ok-mark-in-Mark-Open-clause-told : goal.part-returns-in_ok-mark-in-Mark-Open-clause-told
part-returns-in_ok-mark-in-Mark-Open-clause-told t c =
    let now = c.args.tokens.now in
    let next = c.take.new.tokens in
    let first = c.in_ok-first.ensures in
    let inner = c.in_ok-expression-in-Mark-Open.ensures in
    let rest = c.expression.new.tokens in
    let told = there first.0 (λ n. expression_at n (c.args.deeper - 1)) next.left rest.left (Ok tt) (codes c.args.out.now) (codes c.expression.new.out) inner.told in
    let shut = reads_there (inner.moves.same_end ∙ first.0) (mark_at Close) rest.left c.mark.new.tokens.left tt c.in_ok-mark-in-Mark-Open.ensures.told in
    bracket_closed now.end c.args.deeper now.left next.left (shown c.in_ok-first.first) (omega arith) first.1 (search rules) (codes c.args.out.now) (codes c.expression.new.out) rest.left told c.mark.new.tokens.left (codes c.emit-in-Mark-Open.new.out) shut c.emit-in-Mark-Open.ensures

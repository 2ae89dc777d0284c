use Rattle.std.proofs.Common.{◌≡◌, ap, ◌∙◌, rules}
use Rattle.std.proofs.lemmas.Result.{err_from_is_err_and}
use Rattle.token.specs.declared.Mark.TheVariants.{Comma, CloseSquare}
use Rattle.arena.specs.declared.span.Ends.{Ends}
use Rattle.code.specs.Pieces.{codes}
use Rattle.expr.specs.Reading.{mark_at}
use Rattle.expr.specs.Trees.{encode}
use Rattle.expr.proofs.Turns.{grew_by, grew_on, reads_there, refuses_there}
use Rattle.term.specs.Form.{expr_at}
use Rattle.term.specs.Tables.{code_after, span_of, ends_of}
use Rattle.term.proofs.range.Goals as goal

pub returns-in_err-left-clause-told : goal.returns-in_err-left-clause-told
returns-in_err-left-clause-told c =
    let p = err_from_is_err_and c.from_residual-in_err-left.result c.from_residual-in_err-left.ensures.1 in
    let bad = c.in_err-left.ensures.told in
    let refused = refuses_there c.in_ok-mark.ensures.moves.same_end expr_at c.mark.new.tokens.left c.in_err-left.field-0.0 bad.0 in
    rw (p.1, p.2) (search rules, bad.1)

pub returns-in_err-mark-2-clause-told : goal.returns-in_err-mark-2-clause-told
returns-in_err-mark-2-clause-told c =
    let p = err_from_is_err_and c.from_residual-in_err-mark-2.result c.from_residual-in_err-mark-2.ensures.1 in
    let left = c.in_ok-left.ensures in
    let a = left.told in
    let first = c.in_ok-mark.ensures.moves.same_end in
    let read = reads_there first expr_at c.mark.new.tokens.left c.value.new.tokens.left a.0 a.1 in
    let refused = refuses_there (left.moves.same_end ∙ first) (mark_at Comma) c.value.new.tokens.left c.in_err-mark-2.field-0.0 c.in_err-mark-2.ensures.told in
    rw (p.1, p.2) (search rules, grew_by (codes c.args.out.now) (codes c.value.new.out) (encode a.0) a.2)

pub returns-in_err-right-clause-told : goal.returns-in_err-right-clause-told
returns-in_err-right-clause-told c =
    let p = err_from_is_err_and c.from_residual-in_err-right.result c.from_residual-in_err-right.ensures.1 in
    let left = c.in_ok-left.ensures in
    let comma = c.in_ok-mark-2.ensures in
    let a = left.told in
    let bad = c.in_err-right.ensures.told in
    let first = c.in_ok-mark.ensures.moves.same_end in
    let second = left.moves.same_end ∙ first in
    let read = reads_there first expr_at c.mark.new.tokens.left c.value.new.tokens.left a.0 a.1 in
    let parted = reads_there second (mark_at Comma) c.value.new.tokens.left c.mark-2.new.tokens.left tt comma.told in
    let refused = refuses_there (comma.moves.same_end ∙ second) expr_at c.mark-2.new.tokens.left c.in_err-right.field-0.0 bad.0 in
    rw (p.1, p.2) (search rules, grew_on (codes c.args.out.now) (codes c.value.new.out) (codes c.value-2.new.out) (encode a.0) a.2 bad.1)

pub returns-in_err-mark-3-clause-told : goal.returns-in_err-mark-3-clause-told
returns-in_err-mark-3-clause-told c =
    let p = err_from_is_err_and c.from_residual-in_err-mark-3.result c.from_residual-in_err-mark-3.ensures.1 in
    let left = c.in_ok-left.ensures in
    let comma = c.in_ok-mark-2.ensures in
    let right = c.in_ok-right.ensures in
    let a = left.told in
    let b = right.told in
    let first = c.in_ok-mark.ensures.moves.same_end in
    let second = left.moves.same_end ∙ first in
    let third = comma.moves.same_end ∙ second in
    let read = reads_there first expr_at c.mark.new.tokens.left c.value.new.tokens.left a.0 a.1 in
    let parted = reads_there second (mark_at Comma) c.value.new.tokens.left c.mark-2.new.tokens.left tt comma.told in
    let read-right = reads_there third expr_at c.mark-2.new.tokens.left c.value-2.new.tokens.left b.0 b.1 in
    let refused = refuses_there (right.moves.same_end ∙ third) (mark_at CloseSquare) c.value-2.new.tokens.left c.in_err-mark-3.field-0.0 c.in_err-mark-3.ensures.told in
    rw (p.1, p.2) (search rules, grew_on (codes c.args.out.now) (codes c.value.new.out) (codes c.value-2.new.out) (encode a.0) a.2 (grew_by (codes c.value.new.out) (codes c.value-2.new.out) (encode b.0) b.2))

pub returns-clause-told : goal.returns-clause-told
returns-clause-told c =
    let left = c.in_ok-left.ensures in
    let comma = c.in_ok-mark-2.ensures in
    let right = c.in_ok-right.ensures in
    let a = left.told in
    let b = right.told in
    let first = c.in_ok-mark.ensures.moves.same_end in
    let second = left.moves.same_end ∙ first in
    let third = comma.moves.same_end ∙ second in
    let read = reads_there first expr_at c.mark.new.tokens.left c.value.new.tokens.left a.0 a.1 in
    let parted = reads_there second (mark_at Comma) c.value.new.tokens.left c.mark-2.new.tokens.left tt comma.told in
    let read-right = reads_there third expr_at c.mark-2.new.tokens.left c.value-2.new.tokens.left b.0 b.1 in
    let shut = reads_there (right.moves.same_end ∙ third) (mark_at CloseSquare) c.value-2.new.tokens.left c.mark-3.new.tokens.left tt c.in_ok-mark-3.ensures.told in
    let before = codes c.args.out.now in
    let is : ◌≡◌ {A = Ends} (record { left = c.in_ok-left.left; right = c.in_ok-right.right }) (ends_of before a.0 b.0) = cc (a.3, b.3 ∙ ap (λ l. span_of l b.0) a.2) in
    (a.0, b.0, search rules, b.2 ∙ ap (λ l. code_after l b.0) a.2, is)

use Rattle.std.proofs.Common.{refl, ap, ◌∙◌, rules}
use Rattle.std.proofs.lemmas.Result.{err_from_is_err_and}
use Rattle.token.specs.declared.Mark.TheVariants.{Close}
use Rattle.arena.specs.Bounded.{stored}
use Rattle.code.specs.Pieces.{codes}
use Rattle.expr.specs.Reading.{mark_at}
use Rattle.expr.specs.Trees.{encode}
use Rattle.expr.proofs.Turns.{grew_by, reads_there, refuses_there}
use Rattle.arena.specs.declared.term.Term.TheVariants as term
use Rattle.term.specs.Form as tree
use Rattle.term.specs.Form.{expr_at, equals_at}
use Rattle.term.specs.Tables as entry
use Rattle.term.specs.Tables.{tables, emit_term, span_of}
use Rattle.term.proofs.Puts.{kept_code, put_entry, same_tables}
use Rattle.term.proofs.guard.Goals as goal

pub returns-in_err-span-clause-told : goal.returns-in_err-span-clause-told
returns-in_err-span-clause-told c =
    let p = err_from_is_err_and c.from_residual-in_err-span.result c.from_residual-in_err-span.ensures.1 in
    let bad = c.in_err-span.ensures.told in
    let same = c.in_ok-mark.ensures.moves.same_end in
    let refused = refuses_there same expr_at c.mark.new.tokens.left c.in_err-span.field-0.0 bad.0 in
    rw (p.1, p.2) (search rules, kept_code (tables c.args.out.now) (codes c.value.new.out) bad.1)

pub returns-in_err-mark-2-clause-told : goal.returns-in_err-mark-2-clause-told
returns-in_err-mark-2-clause-told c =
    let p = err_from_is_err_and c.from_residual-in_err-mark-2.result c.from_residual-in_err-mark-2.ensures.1 in
    let v = c.in_ok-span.ensures in
    let same = c.in_ok-mark.ensures.moves.same_end in
    let read = reads_there same expr_at c.mark.new.tokens.left c.value.new.tokens.left v.told.0 v.told.1 in
    let refused = refuses_there (v.moves.same_end ∙ same) (mark_at Close) c.value.new.tokens.left c.in_err-mark-2.field-0.0 c.in_err-mark-2.ensures.told in
    rw (p.1, p.2) (search rules, kept_code (tables c.args.out.now) (codes c.value.new.out) (grew_by (codes c.args.out.now.code) (codes c.value.new.out) (encode v.told.0) v.told.2))

pub returns-clause-told : goal.returns-clause-told
unfolding emit_term
returns-clause-told c =
    let out = c.args.out.now in
    let v = c.in_ok-span.ensures in
    let e = v.told.0 in
    let same = c.in_ok-mark.ensures.moves.same_end in
    let read = reads_there same expr_at c.mark.new.tokens.left c.value.new.tokens.left e v.told.1 in
    let shut = reads_there (v.moves.same_end ∙ same) (mark_at Close) c.value.new.tokens.left c.mark-2.new.tokens.left tt c.in_ok-mark-2.ensures.told in
    let is = ap entry.guard v.told.3 in
    (tree.guard e, search rules, same_tables (put_entry (stored out.terms) (stored c.put.new.self) (term.Guard c.in_ok-span.span) (entry.guard (span_of (codes out.code) e)) c.put.ensures is) refl v.told.2)

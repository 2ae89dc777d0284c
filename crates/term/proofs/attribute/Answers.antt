use Rattle.std.proofs.Common.{refl, ap, ◌∙◌, rules}
use Rattle.std.proofs.lemmas.Result.{err_from_is_err_and}
use Rattle.token.specs.declared.Mark.TheVariants.{CloseCurly}
use Rattle.arena.specs.Bounded.{stored}
use Rattle.code.specs.Pieces.{codes}
use Rattle.expr.specs.Reading.{mark_at}
use Rattle.expr.specs.Trees.{encode}
use Rattle.expr.proofs.Turns.{grew_by, reads_there, refuses_there}
use Rattle.arena.specs.declared.term.Term.TheVariants as term
use Rattle.term.specs.Form as tree
use Rattle.term.specs.Form.{expr_at, equals_at}
use Rattle.term.specs.Tables as entry
use Rattle.term.specs.Tables.{tables, emit_term, span_of}
use Rattle.term.proofs.Puts.{kept_code, put_entry, same_tables}
use Rattle.code.specs.Names.{letters}
use Rattle.term.proofs.attribute.Goals as goal

pub returns-in_err-span-clause-told : goal.returns-in_err-span-clause-told
returns-in_err-span-clause-told c =
    let p = err_from_is_err_and c.from_residual-in_err-span.result c.from_residual-in_err-span.ensures.1 in
    let bad = c.in_err-span.ensures.told in
    let first = c.in_ok-called.ensures.moves.same_end in
    let second = c.in_ok-equals.ensures.moves.same_end ∙ first in
    let equal = reads_there first equals_at c.name.new.tokens.left c.equals.new.tokens.left tt c.in_ok-equals.ensures.told in
    let refused = refuses_there second expr_at c.equals.new.tokens.left c.in_err-span.field-0.0 bad.0 in
    rw (p.1, p.2) (search rules, kept_code (tables c.args.out.now) (codes c.value.new.out) bad.1)

pub returns-in_err-mark-clause-told : goal.returns-in_err-mark-clause-told
returns-in_err-mark-clause-told c =
    let p = err_from_is_err_and c.from_residual-in_err-mark.result c.from_residual-in_err-mark.ensures.1 in
    let v = c.in_ok-span.ensures in
    let first = c.in_ok-called.ensures.moves.same_end in
    let second = c.in_ok-equals.ensures.moves.same_end ∙ first in
    let equal = reads_there first equals_at c.name.new.tokens.left c.equals.new.tokens.left tt c.in_ok-equals.ensures.told in
    let read = reads_there second expr_at c.equals.new.tokens.left c.value.new.tokens.left v.told.0 v.told.1 in
    let refused = refuses_there (v.moves.same_end ∙ second) (mark_at CloseCurly) c.value.new.tokens.left c.in_err-mark.field-0.0 c.in_err-mark.ensures.told in
    rw (p.1, p.2) (search rules, kept_code (tables c.args.out.now) (codes c.value.new.out) (grew_by (codes c.args.out.now.code) (codes c.value.new.out) (encode v.told.0) v.told.2))

pub returns-clause-told : goal.returns-clause-told
unfolding emit_term
returns-clause-told c =
    let out = c.args.out.now in
    let v = c.in_ok-span.ensures in
    let e = v.told.0 in
    let w = letters c.in_ok-called.called.0 in
    let place = c.in_ok-called.called.1 in
    let first = c.in_ok-called.ensures.moves.same_end in
    let second = c.in_ok-equals.ensures.moves.same_end ∙ first in
    let equal = reads_there first equals_at c.name.new.tokens.left c.equals.new.tokens.left tt c.in_ok-equals.ensures.told in
    let read = reads_there second expr_at c.equals.new.tokens.left c.value.new.tokens.left e v.told.1 in
    let shut = reads_there (v.moves.same_end ∙ second) (mark_at CloseCurly) c.value.new.tokens.left c.mark.new.tokens.left tt c.in_ok-mark.ensures.told in
    let is = ap (entry.attribute place w) v.told.3 in
    (tree.attribute place w e, search rules, same_tables (put_entry (stored out.terms) (stored c.put.new.self) (term.Attribute c.in_ok-called.called c.in_ok-span.span) (entry.attribute place w (span_of (codes out.code) e)) c.put.ensures is) refl v.told.2)

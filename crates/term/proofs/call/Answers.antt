use Rattle.std.proofs.Common.{refl, ap, rules}
use Rattle.std.proofs.lemmas.Result.{err_from_is_err_and}
use Rattle.arena.specs.Bounded.{stored}
use Rattle.code.specs.Names.{letters}
use Rattle.code.specs.Pieces.{codes}
use Rattle.arena.specs.declared.term.Term.TheVariants as term
use Rattle.term.specs.Form as tree
use Rattle.term.specs.Tables as entry
use Rattle.term.specs.Tables.{tables, emit_term, between, bytes_after, span_of, ends_of}
use Rattle.term.proofs.Puts.{kept_code, put_entry, same_tables}
use Rattle.term.proofs.call.Goals as goal

pub returns-in_err-ends-clause-told : goal.returns-in_err-ends-clause-told
returns-in_err-ends-clause-told c =
    let p = err_from_is_err_and c.from_residual.result c.from_residual.ensures.1 in
    rw (p.1, p.2) (search rules, kept_code (tables c.args.out.now) (codes c.range.new.out) c.in_err-ends.ensures.told.1)

pub returns-clause-told : goal.returns-clause-told
unfolding emit_term
returns-clause-told c =
    let out = c.args.out.now in
    let r = c.in_ok-ends.ensures in
    let a = r.told.0 in
    let b = r.told.1 in
    let w = letters c.args.called in
    let is = ap (entry.call w) r.told.4 in
    (tree.call w a b, search rules, same_tables (put_entry (stored out.terms) (stored c.put.new.self) (term.Call c.args.called c.in_ok-ends.ends) (entry.call w (ends_of (codes out.code) a b)) c.put.ensures is) refl r.told.3)

use Rattle.std.proofs.Common.{Ok, Err, subst}
use Rattle.std.proofs.lemmas.Result.{err_from_is_err_and}
use Rattle.token.specs.Ahead.{Ahead}
use Rattle.term.specs.Reading.{Adds}
use Rattle.term.specs.Tables.{tables}
use Rattle.rule.specs.Emission.{emit_all, emit_rule}
use Rattle.rule.specs.Form.{rules_at}
use Rattle.rule.proofs.add_rules.Goals as goal

pub returns-in_err-add_all-clause-told : goal.returns-in_err-add_all-clause-told
unfolding rules_at
returns-in_err-add_all-clause-told c =
    let p = err_from_is_err_and c.from_residual.result c.from_residual.ensures.1 in
    rw (p.1, p.2) (subst (λ (a : Ahead). Adds (Err c.in_err-add_all.field-0.0) (rules_at a.end a.left) c.add_all.new.tokens.left (emit_all emit_rule) (tables c.args.out.now) (tables c.add_all.new.out)) c.fork-ahead.ensures c.in_err-add_all.ensures.told)

pub returns-clause-told : goal.returns-clause-told
unfolding rules_at
returns-clause-told c =
    subst (λ (a : Ahead). Adds (Ok tt) (rules_at a.end a.left) c.add_all.new.tokens.left (emit_all emit_rule) (tables c.args.out.now) (tables c.add_all.new.out)) c.fork-ahead.ensures c.in_ok-add_all.ensures.told

use Rattle.std.proofs.Common.{◌≡◌, sym, ◌∙◌, subst}
use Rattle.std.proofs.lemmas.List.{length-map}
use Rattle.std.proofs.lemmas.Result.{err_from_is_err_and}
use Rattle.arena.specs.Bounded.{stored}
use Rattle.arena.specs.declared.span.Span.{Span}
use Rattle.term.specs.Tables.{tables, entry, between}
use Rattle.expr.proofs.Turns.{refused_too}
use Rattle.rule.specs.Form.{branch_end, terms_at}
use Rattle.rule.specs.Reading.{Ends}
use Rattle.rule.proofs.Adding.{is_alternative, alternative_ends}
use Rattle.rule.proofs.items.AlternativesItem.add.Goals as goal

pub returns-in_err-add_all-clause-told : goal.returns-in_err-add_all-clause-told
unfolding terms_at
returns-in_err-add_all-clause-told c =
    let p = err_from_is_err_and c.from_residual.result c.from_residual.ensures.1 in
    let bad = c.in_err-add_all.ensures.told in
    rw (p.1, p.2) (refused_too c.in_err-add_all.field-0.0 (terms_at c.args.tokens.now.end c.args.tokens.now.left) _ bad.0, bad.1)

pub returns-clause-told : goal.returns-clause-told
unfolding terms_at
returns-clause-told c =
    let now = c.args.tokens.now in
    let rest = c.add_all.new.tokens in
    let before = c.args.out.now in
    let later = c.add_all.new.out in
    let read = c.in_ok-add_all.ensures in
    let from = c.len-from.ensures ∙ sym (length-map (stored before.terms) entry) in
    let to = c.len-to.ensures ∙ sym (length-map (stored later.terms) entry) in
    let span : ◌≡◌ {A = Span} (record { from = c.len-from.result; to = c.len-to.result }) (between (tables before).terms (tables later).terms) = cc (from, to) in
    let put = is_alternative (tables before) (tables later) read.told.0 (stored c.put.new.self) (record { from = c.len-from.result; to = c.len-to.result }) read.told.2 c.put.ensures span in
    let told = subst (λ n. Ends c.branch_end.result (branch_end n rest.left) c.branch_end.new.tokens.left) read.moves.same_end c.branch_end.ensures.told in
    alternative_ends now.end now.left rest.left c.branch_end.new.tokens.left (tables before) _ read.told.0 c.branch_end.result read.told.1 put told

use Rattle.std.proofs.Common.{◌≡◌, refl, ap, ◌∙◌, rules}
use Rattle.std.proofs.lemmas.Result.{err_from_is_err_and}
use Rattle.token.specs.declared.Mark.TheVariants.{Colon}
use Rattle.arena.specs.Bounded.{stored}
use Rattle.arena.specs.declared.span.Span.{Span}
use Rattle.code.specs.Names.{letters}
use Rattle.expr.specs.Reading.{ok, mark_at}
use Rattle.expr.proofs.Turns.{reads_there, refuses_there}
use Rattle.term.specs.Tables.{Head, tables, between}
use Rattle.rule.specs.Form.{RuleTree, alternatives_at, none_left}
use Rattle.rule.proofs.Adding.{is_rule, rule_reads, put_head}
use Rattle.rule.proofs.items.RulesItem.add.Goals as goal

pub returns-in_err-add_all-clause-told : goal.returns-in_err-add_all-clause-told
unfolding alternatives_at
returns-in_err-add_all-clause-told c =
    let p = err_from_is_err_and c.from_residual-in_err-add_all.result c.from_residual-in_err-add_all.ensures.1 in
    let bad = c.in_err-add_all.ensures.told in
    let first = c.in_ok-called.ensures.moves.same_end in
    let second = c.in_ok-mark.ensures.moves.same_end ∙ first in
    let marked = reads_there first (mark_at Colon) c.name.new.tokens.left c.mark.new.tokens.left tt c.in_ok-mark.ensures.told in
    let refused = refuses_there second alternatives_at c.mark.new.tokens.left c.in_err-add_all.field-0.0 bad.0 in
    rw (p.1, p.2) (search rules, bad.1)

pub returns-clause-told : goal.returns-clause-told
unfolding alternatives_at
returns-clause-told c =
    let now = c.args.tokens.now in
    let before = c.args.out.now in
    let later = c.add_all.new.out in
    let rest = c.add_all.new.tokens.left in
    let n = c.in_ok-called.ensures in
    let m = c.in_ok-mark.ensures in
    let read = c.in_ok-add_all.ensures in
    let w = letters c.in_ok-called.called in
    let place = c.in_ok-called.place in
    let r : RuleTree = record { place = place; name = w; alternatives = read.told.0 } in
    let span : ◌≡◌ {A = Span} (record { from = c.len-from.result; to = c.len-to.result }) (between (tables before).alternatives (tables later).alternatives) = cc (c.len-from.ensures, c.len-to.ensures) in
    let put = put_head (stored later.rules) (stored c.put.new.self) (record { name = c.in_ok-called.called; place = place; alternatives = record { from = c.len-from.result; to = c.len-to.result } }) (record { name = w; place = place; branches = record { from = c.len-from.result; to = c.len-to.result } }) c.put.ensures refl in
    let told : ◌≡◌ {A = Head} (record { name = w; place = place; branches = record { from = c.len-from.result; to = c.len-to.result } }) (record { name = w; place = place; branches = between (tables before).alternatives (tables later).alternatives }) = ap (λ s. record { name = w; place = place; branches = s }) span in
    let marked = reads_there n.moves.same_end (mark_at Colon) c.name.new.tokens.left c.mark.new.tokens.left tt m.told in
    let several = reads_there (m.moves.same_end ∙ n.moves.same_end) alternatives_at c.mark.new.tokens.left rest read.told.0 read.told.1 in
    let reads = rule_reads now.end now.left c.name.new.tokens.left c.mark.new.tokens.left rest (place, w) read.told.0 n.told marked several in
    let last : none_left rest ≡ c.is_none.result = search rules in
    (r, reads ∙ ap (λ b. ok (r, b) rest) last, is_rule (tables before) (tables later) r _ _ read.told.2 put told)

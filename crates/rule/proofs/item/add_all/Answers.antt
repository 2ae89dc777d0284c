use Rattle.std.proofs.Common.{◌<◌, true, false, length, Ok, Err, refl, ◌∙◌, subst, arith}
use Rattle.std.proofs.lemmas.Result.{err_from_is_err_and}
use Rattle.term.specs.Tables.{tables}
use Rattle.rule.specs.Reading.{AddsItem}
use Rattle.rule.proofs.Several.{begins, ends, refused, goes_on}
use Rattle.rule.proofs.item.add_all.Goals as goal

pub loop-last-init : goal.loop-last-init
loop-last-init g c =
    let now = c.args.tokens.now in
    (record { same_text = refl; same_end = refl; no_more = omega arith }, begins (g.I.Item.form now.end) g.I.Item.emit now.left (tables c.args.out.now))

pub returns-in_err-last-clause-told : goal.returns-in_err-last-clause-told
returns-in_err-last-clause-told g c =
    let p = err_from_is_err_and c.from_residual.result c.from_residual.ensures.1 in
    let now = c.args.tokens.now in
    let rest = c.loop-last.tokens in
    let left = c.add.new.tokens.left in
    let told = subst (λ n. AddsItem (Err c.in_err-last.field-0.0) (g.I.Item.form n rest.left) left g.I.Item.emit (tables c.loop-last.out) (tables c.add.new.out)) c.loop-last.invariant.0.same_end c.in_err-last.ensures.told in
    rw (p.1, p.2) (refused (g.I.Item.form now.end) g.I.Item.emit now.left (tables c.args.out.now) rest.left (tables c.loop-last.out) c.loop-last.invariant.1 g.met.I.Item.keeps _ left (tables c.add.new.out) told)

pub returns-then-last-clause-told : goal.returns-then-last-clause-told
returns-then-last-clause-told g c =
    let now = c.args.tokens.now in
    let rest = c.loop-last.tokens in
    let left = c.add.new.tokens.left in
    let last = subst (λ b. AddsItem (Ok b) (g.I.Item.form rest.end rest.left) left g.I.Item.emit (tables c.loop-last.out) (tables c.add.new.out)) c.if-last.true c.in_ok-last.ensures.told in
    let told = subst (λ n. AddsItem (Ok true) (g.I.Item.form n rest.left) left g.I.Item.emit (tables c.loop-last.out) (tables c.add.new.out)) c.loop-last.invariant.0.same_end last in
    ends (g.I.Item.form now.end) g.I.Item.emit now.left (tables c.args.out.now) rest.left (tables c.loop-last.out) c.loop-last.invariant.1 left (tables c.add.new.out) told

pub loop-last-preserved : goal.loop-last-preserved
loop-last-preserved g c =
    let now = c.args.tokens.now in
    let rest = c.loop-last.tokens in
    let left = c.add.new.tokens.left in
    let before = c.loop-last.invariant.0 in
    let moves = c.in_ok-last.ensures.moves in
    let more = subst (λ b. AddsItem (Ok b) (g.I.Item.form rest.end rest.left) left g.I.Item.emit (tables c.loop-last.out) (tables c.add.new.out)) c.if-last.false c.in_ok-last.ensures.told in
    let told = subst (λ n. AddsItem (Ok false) (g.I.Item.form n rest.left) left g.I.Item.emit (tables c.loop-last.out) (tables c.add.new.out)) before.same_end more in
    let fewer : length left < length rest.left = moves.fewer in
    (record { same_text = moves.same_text ∙ before.same_text; same_end = moves.same_end ∙ before.same_end; no_more = omega (arith, fewer, before.no_more) }, goes_on (g.I.Item.form now.end) g.I.Item.emit now.left (tables c.args.out.now) rest.left (tables c.loop-last.out) c.loop-last.invariant.1 left (tables c.add.new.out) told fewer)

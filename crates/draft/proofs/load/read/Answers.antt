use Rattle.std.proofs.Common.{◌≡◌, true, false, sym, ap, ◌∙◌}
use Rattle.token.specs.Ahead.{Ahead}
use Rattle.term.specs.Tables.{tables}
use Rattle.rule.specs.Form.{rules_at}
use Rattle.draft.specs.Limits.{few_enough}
use Rattle.draft.specs.Cutting.{sizes_of}
use Rattle.draft.proofs.Loaded.{taken, passed, read_kept}
use Rattle.draft.proofs.load.read.Goals as goal

pub returns-then-fit : goal.returns-then-fit
returns-then-fit c = λ whole.
    let told = c.in_ok-add_rules.ensures.told in
    let U = tables c.add_rules.new.out in
    let yes : few_enough (sizes_of U) ≡ true = ap few_enough (sym c.of.ensures) ∙ sym c.if-fit.ensures in
    let reads = ap (λ (a : Ahead). rules_at a.end a.left) (sym c.new.ensures) ∙ told.1 in
    taken (tables c.args.out.now) U told.0 whole told.2 yes _ _ reads

pub returns-else-fit : goal.returns-else-fit
returns-else-fit c = λ whole.
    let told = c.in_ok-add_rules.ensures.told in
    let T = tables c.args.out.now in
    let U = tables c.add_rules.new.out in
    let no : few_enough (sizes_of U) ≡ false = ap few_enough (sym c.of.ensures) ∙ sym c.if-fit.ensures in
    let reads = ap (λ (a : Ahead). rules_at a.end a.left) (sym c.new.ensures) ∙ told.1 in
    (passed T U told.0 whole told.2 no _ _ reads, read_kept T U told.0 whole told.2)

use Rattle.std.proofs.Common.{sym}
use Rattle.term.specs.Tables.{tables}
use Rattle.draft.proofs.Loaded.{cut_back}
use Rattle.draft.proofs.load.form.Goals as goal

pub returns-then-is_err : goal.returns-then-is_err
returns-then-is_err c =
    cut_back c.args.text.now c.read-answer.result (tables c.args.out.now) (tables c.read-answer.new.out) (tables c.cut.new.arenas) c.of-before.result (sym c.if-is_err.ensures.value) c.read-answer.ensures c.of-before.ensures c.cut.ensures

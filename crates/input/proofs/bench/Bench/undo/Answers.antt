use Rattle.std.proofs.Common.{◌-◌, take, sym, ap, ◌∙◌, arith}
use Rattle.input.specs.Benches.{errata}
use Rattle.input.proofs.Tables.{errata_length, errata_less}
use Rattle.input.proofs.bench.Bench.undo.Goals as goal

pub returns-clause-errata : goal.returns-clause-errata
returns-clause-errata g c =
    let b = c.args.self.now in
    let n = errata_length b.table b.count (omega (arith, b.few, b.whole)) in
    errata_less b.table (b.count - 1) b.count _ (omega arith) ∙ ap (λ k. take (k - 1) (errata b)) (sym n)

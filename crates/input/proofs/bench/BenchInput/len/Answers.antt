use Rattle.std.proofs.Common.{sym, ◌∙◌}
use Rattle.input.specs.Errata.{length_shows}
use Rattle.input.specs.Benches.{errata}
use Rattle.input.proofs.bench.BenchInput.len.Goals as goal

pub returns : goal.returns
returns g c = c.len.ensures ∙ sym (length_shows _ (errata c.args.self.now))

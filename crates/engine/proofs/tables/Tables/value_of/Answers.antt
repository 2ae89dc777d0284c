use Rattle.std.proofs.Common.{ap, ◌∙◌}
use Rattle.meaning.specs.Values.{value}
use Rattle.sealed.specs.Grammars.{expr_in}
use Rattle.engine.proofs.Frames.{so_is}
use Rattle.engine.proofs.tables.Tables.value_of.Goals as goal

pub returns : goal.returns
returns c =
    let t = c.args.self.now in
    c.value.ensures c.args.f.used ∙ ap (λ so. value c.args.f.what so (expr_in c.args.grammar.now c.args.e)) (so_is t.nodes.now c.args.f t.count _ c.requires t.few)

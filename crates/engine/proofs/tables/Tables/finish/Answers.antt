use Rattle.meaning.specs.Meaning.{tree}
use Rattle.stack.specs.Stacks.{held}
use Rattle.engine.proofs.Running.{finishes}
use Rattle.engine.proofs.tables.Tables.finish.Goals as goal

pub returns-clause-goes : goal.returns-clause-goes
unfolding tree
returns-clause-goes c = λ rules none read bytes sound.
    let t = c.args.self.now in
    finishes read rules t.limits bytes (held t.stack) t.nodes.now t.count t.state c.args.f sound _ _ none c.done.ensures

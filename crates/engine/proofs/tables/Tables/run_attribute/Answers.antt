use Rattle.stack.specs.Stacks.{held}
use Rattle.engine.proofs.Running.{attribute_none, attribute_goes}
use Rattle.engine.proofs.tables.Tables.run_attribute.Goals as goal

pub returns-in_default-clause-goes : goal.returns-in_default-clause-goes
returns-in_default-clause-goes g c = λ rules next read bytes sound.
    let t = c.args.self.now in
    attribute_none read rules t.limits bytes (held t.stack) t.nodes.now t.count t.state c.args.f sound c.args.k _ next _ c.next_try.ensures c.in_default.ensures

pub returns-clause-goes : goal.returns-clause-goes
returns-clause-goes g c = λ rules next read bytes sound.
    let t = c.args.self.now in
    attribute_goes read rules t.limits bytes (held t.stack) t.nodes.now t.count t.state c.args.f sound c.args.k _ next c.onward.result c.in-Some.v _ _ c.onward.ensures c.in-Some.ensures c.write_at.ensures

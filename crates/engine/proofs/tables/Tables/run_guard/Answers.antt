use Rattle.stack.specs.Stacks.{held}
use Rattle.engine.proofs.Running.{guard_none, guard_zero, guard_goes}
use Rattle.engine.proofs.tables.Tables.run_guard.Goals as goal

pub returns-in_default-clause-goes : goal.returns-in_default-clause-goes
returns-in_default-clause-goes g c = λ rules next read bytes sound.
    let t = c.args.self.now in
    let f = c.args.f in
    guard_none read rules t.limits bytes (held t.stack) t.nodes.now t.count t.state f sound _ next _ c.next_try.ensures c.in_default.ensures

pub returns-then-v-eq0-clause-goes : goal.returns-then-v-eq0-clause-goes
returns-then-v-eq0-clause-goes g c = λ rules next read bytes sound.
    let t = c.args.self.now in
    let f = c.args.f in
    guard_zero read rules t.limits bytes (held t.stack) t.nodes.now t.count t.state f sound _ next _ c.in-Some.v c.next_try-then-v-eq0.ensures c.in-Some.ensures c.if-v-eq0.true

pub returns-clause-goes : goal.returns-clause-goes
returns-clause-goes g c = λ rules next read bytes sound.
    let t = c.args.self.now in
    let f = c.args.f in
    guard_goes read rules t.limits bytes (held t.stack) t.nodes.now t.count t.state f sound _ next _ c.in-Some.v c.onward.ensures c.in-Some.ensures c.if-v-eq0.false

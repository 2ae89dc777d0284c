use Rattle.std.proofs.Common.{refl, ◌∙◌}
use Rattle.stack.specs.Stacks.{held, room}
use Rattle.evaluate.proofs.Pushing.{pushed_held}
use Rattle.engine.proofs.Running.{call_none, call_begins}
use Rattle.engine.proofs.tables.Tables.run_call.Goals as goal

pub returns-in_default-clause-goes : goal.returns-in_default-clause-goes
returns-in_default-clause-goes g c = λ rules next read bytes sound.
    let t = c.args.self.now in
    call_none read rules t.limits bytes (held t.stack) t.nodes.now t.count t.state c.args.f sound c.args.number _ _ next _ c.next_try.ensures c.in_default.ensures

pub returns-clause-goes : goal.returns-clause-goes
returns-clause-goes g c = λ rules next read bytes sound.
    let t = c.args.self.now in
    let f = c.onward.result in
    let pushed = c.push.ensures.held ∙ pushed_held (room t.stack) (held t.stack) f c.requires.stack in
    call_begins read rules t.limits bytes (held t.stack) t.nodes.now t.count t.state c.args.f sound c.args.number _ _ next (held c.push.new.self) f c.in-Some.window _ refl pushed c.onward.ensures c.in-Some.ensures

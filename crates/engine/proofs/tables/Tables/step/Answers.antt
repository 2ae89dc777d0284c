use Rattle.stack.specs.Stacks.{held}
use Rattle.sealed.proofs.Grammars.{few_terms}
use Rattle.engine.specs.Steps.{subject}
use Rattle.engine.proofs.Driving.{sound_at, moved, small_held, may_begin}
use Rattle.engine.proofs.tables.Tables.step.Goals as goal

pub begin-requires : goal.begin-requires
begin-requires g c =
    let q = subject g.I.Input.shown g.R.FieldReader.meaning c.args.setting.now in
    let t = c.args.self.now in
    let s = sound_at q.read q.grammar t.limits q.bytes (held t.stack) t.nodes.now t.count t.state c.args.mode _ c.in-Begins.is c.requires in
    let may = may_begin q.grammar q.bytes t.limits.frames (held t.stack) t.nodes.now t.count c.in-Begins.c s in
    record { node = may.0; window = may.1 }

pub give_up-requires : goal.give_up-requires
give_up-requires g c =
    let q = subject g.I.Input.shown g.R.FieldReader.meaning c.args.setting.now in
    let t = c.args.self.now in
    small_held q.grammar q.bytes t.limits.frames (held t.stack) t.nodes.now t.count c.in-GivesUp.me
    (sound_at q.read q.grammar t.limits q.bytes (held t.stack) t.nodes.now t.count t.state c.args.mode _ c.in-GivesUp.is c.requires)

pub returns-in-Begins-clause-goes : goal.returns-in-Begins-clause-goes
returns-in-Begins-clause-goes g c =
    let q = subject g.I.Input.shown g.R.FieldReader.meaning c.args.setting.now in
    let t = c.args.self.now in
    let s = sound_at q.read q.grammar t.limits q.bytes (held t.stack) t.nodes.now t.count t.state c.args.mode _ c.in-Begins.is c.requires in
    moved q.read q.grammar t.limits q.bytes (held t.stack) t.nodes.now t.count t.state c.args.mode _ _ _ _ _ _ c.in-Begins.is (c.begin.ensures.goes q.grammar (few_terms c.args.setting.now.grammar.now) s)

pub returns-in-Runs-clause-goes : goal.returns-in-Runs-clause-goes
returns-in-Runs-clause-goes g c =
    let q = subject g.I.Input.shown g.R.FieldReader.meaning c.args.setting.now in
    let t = c.args.self.now in
    moved q.read q.grammar t.limits q.bytes (held t.stack) t.nodes.now t.count t.state c.args.mode _ _ _ _ _ _ c.in-Runs.is (c.run_next.ensures.goes q.read)

pub returns-in-Tries-clause-goes : goal.returns-in-Tries-clause-goes
returns-in-Tries-clause-goes g c =
    let q = subject g.I.Input.shown g.R.FieldReader.meaning c.args.setting.now in
    let t = c.args.self.now in
    let s = sound_at q.read q.grammar t.limits q.bytes (held t.stack) t.nodes.now t.count t.state c.args.mode _ c.in-Tries.is c.requires in
    moved q.read q.grammar t.limits q.bytes (held t.stack) t.nodes.now t.count t.state c.args.mode _ _ _ _ _ _ c.in-Tries.is (c.try_next.ensures.goes q.read q.bytes s)

pub returns-in-Returns-clause-goes : goal.returns-in-Returns-clause-goes
returns-in-Returns-clause-goes g c =
    let q = subject g.I.Input.shown g.R.FieldReader.meaning c.args.setting.now in
    let t = c.args.self.now in
    let s = sound_at q.read q.grammar t.limits q.bytes (held t.stack) t.nodes.now t.count t.state c.args.mode _ c.in-Returns.is c.requires in
    moved q.read q.grammar t.limits q.bytes (held t.stack) t.nodes.now t.count t.state c.args.mode _ _ _ _ _ _ c.in-Returns.is (c.give_back.ensures.goes q.grammar q.read q.bytes s)

pub returns-in-GivesUp-clause-goes : goal.returns-in-GivesUp-clause-goes
returns-in-GivesUp-clause-goes g c =
    let q = subject g.I.Input.shown g.R.FieldReader.meaning c.args.setting.now in
    let t = c.args.self.now in
    let s = sound_at q.read q.grammar t.limits q.bytes (held t.stack) t.nodes.now t.count t.state c.args.mode _ c.in-GivesUp.is c.requires in
    moved q.read q.grammar t.limits q.bytes (held t.stack) t.nodes.now t.count t.state c.args.mode _ _ _ _ _ _ c.in-GivesUp.is (c.give_up.ensures.goes q.grammar q.read q.bytes s)

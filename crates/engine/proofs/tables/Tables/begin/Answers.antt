use Rattle.std.proofs.Common.{refl, arith}
use Rattle.stack.specs.Stacks.{held}
use Rattle.meaning.specs.Meaning.{read_of}
use Rattle.engine.specs.Configs.{Sound}
use Rattle.engine.proofs.Beginning.{no_budget, no_frame, no_node, begins_rule, begins_reader}
use Rattle.engine.proofs.Standing.{moves_as}
use Rattle.engine.proofs.tables.Tables.begin.Goals as goal

pub returns-then-self-clause-goes : goal.returns-then-self-clause-goes
returns-then-self-clause-goes g c = λ rules few sound.
    let read = read_of (g.R.FieldReader.meaning c.args.setting.now.readers.now) in
    let bs = (g.I.Input.shown c.args.setting.now.input.now).bytes in
    let t = c.args.self.now in
    no_budget read rules t.limits bs (held t.stack) t.nodes.now t.count t.state c.args.c t.count c.if-self.true

pub returns-then-self-depth-clause-goes : goal.returns-then-self-depth-clause-goes
returns-then-self-depth-clause-goes g c = λ rules few sound.
    let read = read_of (g.R.FieldReader.meaning c.args.setting.now.readers.now) in
    let bs = (g.I.Input.shown c.args.setting.now.input.now).bytes in
    let t = c.args.self.now in
    no_frame read rules t.limits bs (held t.stack) t.nodes.now t.count t.state c.args.c t.count c.if-self.false (omega arith)

pub returns-then-c-self-clause-goes : goal.returns-then-c-self-clause-goes
returns-then-c-self-clause-goes g c = λ rules few sound.
    let read = read_of (g.R.FieldReader.meaning c.args.setting.now.readers.now) in
    let bs = (g.I.Input.shown c.args.setting.now.input.now).bytes in
    let t = c.args.self.now in
    no_node read rules t.limits bs (held t.stack) t.nodes.now t.count t.state c.args.c c.if-self.false (omega arith) t.count c.if-c-self.true

pub returns-then-c-lt32-clause-goes : goal.returns-then-c-lt32-clause-goes
returns-then-c-lt32-clause-goes g c = λ rules few sound.
    let read = read_of (g.R.FieldReader.meaning c.args.setting.now.readers.now) in
    let bs = (g.I.Input.shown c.args.setting.now.input.now).bytes in
    let t = c.args.self.now in
    begins_rule read rules t.limits bs (held t.stack) t.nodes.now t.count t.state c.args.c c.if-self.false (omega arith) c.if-c-self.false t.all_nodes sound t.count few c.if-c-lt32.true

pub returns-else-c-lt32-clause-goes : goal.returns-else-c-lt32-clause-goes
unfolding Sound
returns-else-c-lt32-clause-goes g c = λ rules few sound.
    let read = read_of (g.R.FieldReader.meaning c.args.setting.now.readers.now) in
    let bs = (g.I.Input.shown c.args.setting.now.input.now).bytes in
    let t = c.args.self.now in
    let p = c.read_field.ensures in
    moves_as read rules t.limits bs _ _ _ _ _ _ _ _ _ _ p.stack refl refl refl
    (begins_reader read rules t.limits bs (held t.stack) t.nodes.now t.count t.state c.args.c c.if-self.false (omega arith) c.if-c-self.false t.all_nodes sound _ _ _ _ c.if-c-lt32.false (p.answers rules t.limits.frames (held t.stack) (omega arith) sound.4))

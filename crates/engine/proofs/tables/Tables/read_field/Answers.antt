use Rattle.std.proofs.Common.{arith}
use Rattle.meaning.specs.Meaning.{leaf, tree}
use Rattle.engine.proofs.Reading.{accepted, refused, reader_gave, reader_refused}
use Rattle.engine.proofs.tables.Tables.read_field.Goals as goal

pub returns-in-Some-clause-answers : goal.returns-in-Some-clause-answers
unfolding leaf tree
returns-in-Some-clause-answers g c = λ rules frames rs few stacked.
    let bs = (g.I.Input.shown c.args.setting.now.input.now).bytes in
    let t = c.args.self.now in
    let w = c.requires.window in
    let e = accepted (g.R.FieldReader.meaning c.args.setting.now.readers.now) c.args.c.number bs c.args.c.window w.0 w.1 t.state c.join-self.result c.in-Some.v c.in-Some.ensures c.join-self.ensures in
    rw c.done.ensures (reader_gave rules bs frames rs t.nodes.now c.args.c few stacked c.in-Some.v _ _ e c.requires.node)

pub returns-in-None-clause-answers : goal.returns-in-None-clause-answers
returns-in-None-clause-answers g c = λ rules frames rs few stacked.
    let bs = (g.I.Input.shown c.args.setting.now.input.now).bytes in
    let t = c.args.self.now in
    let w = c.requires.window in
    let e = refused (g.R.FieldReader.meaning c.args.setting.now.readers.now) c.args.c.number bs c.args.c.window w.0 w.1 t.state c.join-self-in-None.result c.in-None.ensures c.join-self-in-None.ensures in
    reader_refused rules bs frames rs t.nodes.now c.args.c few stacked t.count _ _ e (omega (arith, c.requires.node))

use Rattle.std.proofs.Common.{length, sym, ap, ◌∙◌, arith}
use Rattle.stack.specs.Stacks.{held}
use Rattle.engine.specs.Configs.{so_of}
use Rattle.engine.proofs.Running.{ends_within, literal_none, literal_other, literal_differs, literal_goes}
use Rattle.meaning.specs.Meaning.{same as alike}
use Rattle.meaning.specs.Windows.{bytes_in}
use Rattle.engine.proofs.tables.Tables.run_literal.Goals as goal

pub same_at-requires : goal.same_at-requires
same_at-requires g c =
    let t = c.args.self.now in
    let f = c.args.f in
    let inside = c.requires.window in
    let lies = ends_within f.what (so_of t.nodes.now t.count f) _ _ c.in-Some.w c.in-Some.ensures inside.0 in
    (omega (arith, lies.0, c.len.ensures, c.if-len-wanted.false), omega (arith, lies.1, inside.1))

pub returns-in_default-clause-goes : goal.returns-in_default-clause-goes
returns-in_default-clause-goes g c = λ read rules next sound.
    let bs = (g.I.Input.shown c.args.setting.now.input.now).bytes in
    let t = c.args.self.now in
    literal_none read rules t.limits bs (held t.stack) t.nodes.now t.count t.state c.args.f sound _ _ _ next _ c.next_try.ensures c.in_default.ensures

pub returns-then-len-wanted-clause-goes : goal.returns-then-len-wanted-clause-goes
returns-then-len-wanted-clause-goes g c = λ read rules next sound.
    let bs = (g.I.Input.shown c.args.setting.now.input.now).bytes in
    let t = c.args.self.now in
    literal_other read rules t.limits bs (held t.stack) t.nodes.now t.count t.state c.args.f sound _ _ _ next c.in-Some.w c.in-Some.ensures _ c.next_try-then-len-wanted.ensures
    (λ e. c.if-len-wanted.true (c.len.ensures ∙ e ∙ ap length (sym c.bytes_of-wanted.ensures)))

pub returns-then-not-same_at-clause-goes : goal.returns-then-not-same_at-clause-goes
returns-then-not-same_at-clause-goes g c = λ read rules next sound.
    let bs = (g.I.Input.shown c.args.setting.now.input.now).bytes in
    let t = c.args.self.now in
    let w = c.in-Some.w in
    let u = c.join-self.result in
    let long = sym c.len.ensures ∙ c.if-len-wanted.false ∙ ap length c.bytes_of-wanted.ensures in
    let other = sym c.if-not-same_at.true ∙ c.same_at.ensures ∙ ap (alike (bytes_in bs w)) c.bytes_of-wanted.ensures in
    literal_differs read rules t.limits bs (held t.stack) t.nodes.now t.count t.state c.args.f sound _ _ _ next w c.in-Some.ensures _ u c.next_try-then-not-same_at.ensures c.join-self.ensures long other

pub returns-clause-goes : goal.returns-clause-goes
returns-clause-goes g c = λ read rules next sound.
    let bs = (g.I.Input.shown c.args.setting.now.input.now).bytes in
    let t = c.args.self.now in
    let w = c.in-Some.w in
    let u = c.join-self.result in
    let long = sym c.len.ensures ∙ c.if-len-wanted.false ∙ ap length c.bytes_of-wanted.ensures in
    let equal = sym c.if-not-same_at.false ∙ c.same_at.ensures ∙ ap (alike (bytes_in bs w)) c.bytes_of-wanted.ensures in
    literal_goes read rules t.limits bs (held t.stack) t.nodes.now t.count t.state c.args.f sound _ _ _ next w c.in-Some.ensures c.onward.result u c.join.result c.onward.ensures c.join.ensures c.join-self.ensures long equal

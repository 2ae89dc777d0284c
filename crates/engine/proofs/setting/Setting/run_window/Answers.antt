use Rattle.std.proofs.Common.{rules, length, sym, ap, ◌∙◌}
use Rattle.input.specs.Bytes.{window_of}
use Rattle.stack.specs.Stacks.{held}
use Rattle.meaning.specs.Meaning.{read_of, parse}
use Rattle.meaning.specs.declared.run.Limits.{Limits}
use Rattle.sealed.specs.Grammars.{grammar_of}
use Rattle.engine.specs.Steps.{Subject}
use Rattle.engine.proofs.Outcomes.{first_sound, first_means, is_first}
use Rattle.engine.proofs.setting.Setting.run_window.Goals as goal

pub drive-end-requires : goal.drive-end-requires
drive-end-requires g c =
    let limits : Limits = record { budget = c.args.request.budget; frames = length c.args.frames.now; nodes = length c.args.nodes.now } in
    let v = c.new-view.result in
    first_sound (grammar_of c.args.self.now.grammar.now) limits (window_of (g.I.Input.shown v.below.now).bytes v.window.left v.window.right) (held c.new.result) c.args.nodes.now c.args.request.rule c.len.result c.new.ensures.held c.len.ensures c.root.result c.root.ensures

pub returns-clause-told : goal.returns-clause-told
returns-clause-told g c =
    let limits : Limits = record { budget = c.args.request.budget; frames = length c.args.frames.now; nodes = length c.args.nodes.now } in
    let rd = g.R.FieldReader.meaning c.args.self.now.readers.now in
    let gr = grammar_of c.args.self.now.grammar.now in
    let v = c.new-view.result in
    let q : Subject = record { read = read_of rd; grammar = gr; bytes = window_of (g.I.Input.shown v.below.now).bytes v.window.left v.window.right } in
    let d = c.drive-end.ensures in
    let s = c.default.ensures in
    let told-now = (c.conclude-outcome.ensures q _ d.ends d.sound).0
    ∙ first_means gr limits q.bytes (held c.new.result) c.args.nodes.now c.args.request.rule c.len.result c.new.ensures.held c.len.ensures c.root.result c.root.ensures rd c.default.result (is_first c.default.result s.0 s.1.0 s.1.1)
    ∙ ap (λ v. parse rd gr limits c.args.request.rule (window_of (g.I.Input.shown v.below.now).bytes v.window.left v.window.right)) c.new-view.ensures in
    let lent = sym d.nodes in
    search rules

pub returns-clause-count : goal.returns-clause-count
returns-clause-count g c =
    let rd = g.R.FieldReader.meaning c.args.self.now.readers.now in
    let v = c.new-view.result in
    let q : Subject = record { read = read_of rd; grammar = grammar_of c.args.self.now.grammar.now; bytes = window_of (g.I.Input.shown v.below.now).bytes v.window.left v.window.right } in
    let d = c.drive-end.ensures in
    let few = (c.conclude-outcome.ensures q _ d.ends d.sound).1 in
    let lent = sym d.nodes in
    search rules

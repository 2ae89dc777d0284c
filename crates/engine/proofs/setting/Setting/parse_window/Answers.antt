use Rattle.std.proofs.Common.{◌+◌, ◌≤◌, length, replicate, ap, ◌∙◌, arith}
use Rattle.input.specs.Bytes.{window_of}
use Rattle.input.proofs.Windows.{window_length}
use Rattle.meaning.specs.Meaning.{parse}
use Rattle.meaning.specs.declared.run.Limits.{Limits}
use Rattle.meaning.proofs.Shape.{shape}
use Rattle.sealed.specs.Grammars.{grammar_of}
use Rattle.engine.specs.Blanks.{blank_frame}
use Rattle.engine.proofs.Parsing.{nodes_move, reach_moves, settled, all_left}
use Rattle.engine.proofs.setting.Setting.parse_window.Goals as goal

pub move_nodes-requires : goal.move_nodes-requires
move_nodes-requires g c =
    let bs = g.I.Input.shown c.args.self.now.input.now in
    let rd = g.R.FieldReader.meaning c.args.self.now.readers.now in
    let gr = grammar_of c.args.self.now.grammar.now in
    let v = window_of bs.bytes c.args.request.window.left c.args.request.window.right in
    let limits : Limits = record { budget = c.args.request.budget; frames = length c.args.frames.now; nodes = length c.args.nodes.now } in
    let shaped = shape rd gr limits c.args.request.rule v in
    let near : length v + c.args.request.window.left ≤ 16777216 = omega (arith, window_length bs.bytes c.args.request.window.left c.args.request.window.right c.requires.0 c.requires.1, bs.short, c.requires.0, c.requires.1) in
    let o = parse rd gr limits c.args.request.rule v in
    nodes_move c.args.request.window.left (length v) near gr limits c.args.request.rule c.run_window-outcome.result c.run_window-outcome.new.nodes o c.run_window-outcome.ensures.told shaped

pub place-requires : goal.place-requires
place-requires g c =
    let bs = g.I.Input.shown c.args.self.now.input.now in
    let rd = g.R.FieldReader.meaning c.args.self.now.readers.now in
    let gr = grammar_of c.args.self.now.grammar.now in
    let v = window_of bs.bytes c.args.request.window.left c.args.request.window.right in
    let limits : Limits = record { budget = c.args.request.budget; frames = length c.args.frames.now; nodes = length c.args.nodes.now } in
    let shaped = shape rd gr limits c.args.request.rule v in
    let near : length v + c.args.request.window.left ≤ 16777216 = omega (arith, window_length bs.bytes c.args.request.window.left c.args.request.window.right c.requires.0 c.requires.1, bs.short, c.requires.0, c.requires.1) in
    let o = parse rd gr limits c.args.request.rule v in
    reach_moves c.args.request.window.left (length v) near gr limits c.args.request.rule c.run_window-outcome.result c.run_window-outcome.new.nodes o c.run_window-outcome.ensures.told shaped

pub returns : goal.returns
returns g c =
    let bs = g.I.Input.shown c.args.self.now.input.now in
    let rd = g.R.FieldReader.meaning c.args.self.now.readers.now in
    let gr = grammar_of c.args.self.now.grammar.now in
    let v = window_of bs.bytes c.args.request.window.left c.args.request.window.right in
    let limits : Limits = record { budget = c.args.request.budget; frames = length c.args.frames.now; nodes = length c.args.nodes.now } in
    let shaped = shape rd gr limits c.args.request.rule v in
    let near : length v + c.args.request.window.left ≤ 16777216 = omega (arith, window_length bs.bytes c.args.request.window.left c.args.request.window.right c.requires.0 c.requires.1, bs.short, c.requires.0, c.requires.1) in
    let o = parse rd gr limits c.args.request.rule v in
    let r = c.run_window-outcome.result in
    let ns = settled c.args.request.window.left r c.run_window-outcome.new.nodes c.move_nodes.new.nodes c.clear_rest.new.nodes o c.run_window-outcome.ensures.told c.run_window-outcome.ensures.count c.move_nodes.ensures c.clear_rest.ensures (length c.args.nodes.now) (omega arith) in
    all_left c.args.request.window.left r c.run_window-outcome.new.nodes c.move_nodes.new.nodes c.clear_rest.new.nodes o c.run_window-outcome.ensures.told c.run_window-outcome.ensures.count c.place.result c.clear.new.frames (length c.args.frames.now) (length c.args.nodes.now)
    c.place.ensures (c.clear.ensures ∙ ap (λ k. replicate k blank_frame) c.run_window-outcome.auto.frames) ns

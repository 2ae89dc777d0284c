use Rattle.std.proofs.Common.{ap, arith}
use Rattle.sealed.specs.Grammars.{grammar_of, term_in}
use Rattle.engine.proofs.Driving.{next_is, none_next, in_use, has_room, within, frame_fits}
use Rattle.engine.proofs.tables.Tables.run_next.Goals as goal

pub finish-requires : goal.finish-requires
finish-requires g c =
    let used = in_use _ _ _ _ _ _ _ c.requires in
    omega (arith, used.0, used.1)

pub returns-in_default-clause-goes : goal.returns-in_default-clause-goes
returns-in_default-clause-goes g c = λ read.
    let rules = grammar_of c.args.setting.now.grammar.now in
    let bs = (g.I.Input.shown c.args.setting.now.input.now).bytes in
    c.finish.ensures.goes rules (none_next rules c.args.f c.in_default.ensures) read bs c.requires

pub run_literal-requires : goal.run_literal-requires
run_literal-requires g c =
    let gm = c.args.setting.now.grammar.now in
    let next = next_is (grammar_of gm) c.args.f _ _ c.in-Some.ensures (ap (term_in gm) c.in-Literal.is) in
    record { table = (in_use _ _ _ _ _ _ _ c.requires).0; frame = frame_fits _ _ _ _ _ _ _ c.requires _ next; window = within _ _ _ _ _ _ _ c.requires }

pub returns-in-Literal-clause-goes : goal.returns-in-Literal-clause-goes
returns-in-Literal-clause-goes g c = λ read.
    let gm = c.args.setting.now.grammar.now in
    let next = next_is (grammar_of gm) c.args.f _ _ c.in-Some.ensures (ap (term_in gm) c.in-Literal.is) in
    c.run_literal.ensures.goes read (grammar_of gm) next c.requires

pub run_call-requires : goal.run_call-requires
run_call-requires g c =
    let gm = c.args.setting.now.grammar.now in
    let next = next_is (grammar_of gm) c.args.f _ _ c.in-Some.ensures (ap (term_in gm) c.in-Call.is) in
    let room = has_room _ _ _ _ _ _ _ c.requires in
    record { table = (in_use _ _ _ _ _ _ _ c.requires).0; frame = frame_fits _ _ _ _ _ _ _ c.requires _ next; stack = omega (arith, room, c.args.self.now.all_frames) }

pub returns-in-Call-clause-goes : goal.returns-in-Call-clause-goes
returns-in-Call-clause-goes g c = λ read.
    let bs = (g.I.Input.shown c.args.setting.now.input.now).bytes in
    let gm = c.args.setting.now.grammar.now in
    let next = next_is (grammar_of gm) c.args.f _ _ c.in-Some.ensures (ap (term_in gm) c.in-Call.is) in
    c.run_call.ensures.goes (grammar_of gm) next read bs c.requires

pub run_attribute-requires : goal.run_attribute-requires
run_attribute-requires g c =
    let gm = c.args.setting.now.grammar.now in
    let next = next_is (grammar_of gm) c.args.f _ _ c.in-Some.ensures (ap (term_in gm) c.in-Attribute.is) in
    record { table = (in_use _ _ _ _ _ _ _ c.requires).0; frame = frame_fits _ _ _ _ _ _ _ c.requires _ next }

pub returns-in-Attribute-clause-goes : goal.returns-in-Attribute-clause-goes
returns-in-Attribute-clause-goes g c = λ read.
    let bs = (g.I.Input.shown c.args.setting.now.input.now).bytes in
    let gm = c.args.setting.now.grammar.now in
    let next = next_is (grammar_of gm) c.args.f _ _ c.in-Some.ensures (ap (term_in gm) c.in-Attribute.is) in
    c.run_attribute.ensures.goes (grammar_of gm) next read bs c.requires

pub run_guard-requires : goal.run_guard-requires
run_guard-requires g c =
    let gm = c.args.setting.now.grammar.now in
    let next = next_is (grammar_of gm) c.args.f _ _ c.in-Some.ensures (ap (term_in gm) c.in-Guard.is) in
    record { table = (in_use _ _ _ _ _ _ _ c.requires).0; frame = frame_fits _ _ _ _ _ _ _ c.requires _ next }

pub returns-in-Guard-clause-goes : goal.returns-in-Guard-clause-goes
returns-in-Guard-clause-goes g c = λ read.
    let bs = (g.I.Input.shown c.args.setting.now.input.now).bytes in
    let gm = c.args.setting.now.grammar.now in
    let next = next_is (grammar_of gm) c.args.f _ _ c.in-Some.ensures (ap (term_in gm) c.in-Guard.is) in
    c.run_guard.ensures.goes (grammar_of gm) next read bs c.requires

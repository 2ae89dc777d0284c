use Rattle.std.proofs.Common.{length, sym, ap, ◌∙◌, arith, le-ltb, lt-ltb}
use Rattle.input.specs.Bytes.{in_order}
use Rattle.sealed.specs.Grammars.{grammar_of}
use Rattle.engine.specs.Parses.{parse_after}
use Rattle.engine.proofs.Parsing.{ordered_parts}
use Rattle.engine.proofs.setting.Setting.parse.Goals as goal

pub returns-then-from-rule_count : goal.returns-then-from-rule_count
unfolding parse_after
returns-then-from-rule_count g c = simp (le-ltb c.args.request.rule (length (grammar_of c.args.self.now.grammar.now)) (omega (arith, c.rule_count.ensures, c.from.ensures)))

pub returns-then-not-is_in : goal.returns-then-not-is_in
unfolding parse_after
returns-then-not-is_in g c =
    let w = c.args.request.window in
    let e = ap (in_order w.left w.right) (sym c.len.ensures) ∙ sym c.is_in.ensures ∙ c.if-not-is_in.true in
    simp (lt-ltb c.args.request.rule (length (grammar_of c.args.self.now.grammar.now)) (omega (arith, c.rule_count.ensures, c.from.ensures)), e)

pub returns-then-not-permitted : goal.returns-then-not-permitted
unfolding parse_after
returns-then-not-permitted g c =
    let w = c.args.request.window in
    let e = ap (in_order w.left w.right) (sym c.len.ensures) ∙ sym c.is_in.ensures ∙ c.if-not-is_in.false in
    let p = sym c.permitted.ensures ∙ c.if-not-permitted.true in
    simp (lt-ltb c.args.request.rule (length (grammar_of c.args.self.now.grammar.now)) (omega (arith, c.rule_count.ensures, c.from.ensures)), e, p)

pub parse_window-requires : goal.parse_window-requires
parse_window-requires g c =
    let w = c.args.request.window in
    ordered_parts _ _ _ (ap (in_order w.left w.right) (sym c.len.ensures) ∙ sym c.is_in.ensures ∙ c.if-not-is_in.false)

pub returns : goal.returns
unfolding parse_after
returns g c =
    let w = c.args.request.window in
    let e = ap (in_order w.left w.right) (sym c.len.ensures) ∙ sym c.is_in.ensures ∙ c.if-not-is_in.false in
    let p = sym c.permitted.ensures ∙ c.if-not-permitted.false in
    c.parse_window.ensures ∙ simp (lt-ltb c.args.request.rule (length (grammar_of c.args.self.now.grammar.now)) (omega (arith, c.rule_count.ensures, c.from.ensures)), e, p)

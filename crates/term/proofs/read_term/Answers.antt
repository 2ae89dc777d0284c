use Rattle.std.proofs.Common.{◌≡◌, ◌≤◌, length, sym, ap, ◌∙◌, subst, rules}
use Rattle.std.proofs.lemmas.List.{take_all}
use Rattle.code.specs.Names.{letters}
use Rattle.term.specs.Form.{call_at, term_at}
use Rattle.term.specs.Tables.{tables, emit_term}
use Rattle.term.specs.Reading.{Adds}
use Rattle.term.proofs.read_term.Goals as goal

pub returns-in-Name-clause-told : goal.returns-in-Name-clause-told
returns-in-Name-clause-told c =
    let now = c.args.tokens.now in
    let next = c.take.new.tokens in
    let first = c.in_ok-first.ensures in
    let w = c.in-Name.word.now in
    let short : length w ≤ 24 = search rules in
    let named : letters c.of.result ≡ w = c.of.ensures ∙ take_all 24 w short in
    let reads : term_at now.end now.left ≡ call_at w now.end next.left = search rules in
    let same = ap (λ n. call_at (letters c.of.result) n next.left) first.0 ∙ ap (λ l. call_at l now.end next.left) named ∙ sym reads in
    subst (λ want. Adds c.call.result want c.call.new.tokens.left emit_term (tables c.args.out.now) (tables c.call.new.out)) same c.call.ensures.told

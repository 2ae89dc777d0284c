use Rattle.std.proofs.Common.{◌≡◌, ◌≤◌, length, sym, ap, ◌∙◌, rules}
use Rattle.std.proofs.lemmas.List.{take_all}
use Rattle.code.specs.Names.{letters}
use Rattle.expr.specs.Reading.{ok, name_at}
use Rattle.expr.proofs.taking.name.Goals as goal

pub returns-in-Name-clause-told : goal.returns-in-Name-clause-told
returns-in-Name-clause-told c =
    let old = c.args.tokens.now in
    let w = c.in-Name.word.now in
    let short : length w ≤ 24 = search rules in
    let named : letters c.of.result ≡ w = c.of.ensures ∙ take_all 24 w short in
    let reads : name_at old.end old.left ≡ ok (c.in_ok-first.first.place, w) c.take.new.tokens.left = search rules in
    reads ∙ ap (λ l. ok (c.in_ok-first.first.place, l) c.take.new.tokens.left) (sym named)

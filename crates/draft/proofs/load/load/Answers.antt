use Rattle.std.proofs.Common.{◌≡◌, true, false, ltb, length, None, sym, subst, arith, rules}
use Rattle.std.proofs.lemmas.Bool.Decides.{nat_tests}
use Rattle.token.specs.Tokens.{bad_token}
use Rattle.term.specs.Tables.{tables}
use Rattle.draft.specs.Loading.{Taken}
use Rattle.draft.proofs.Loaded.{refused_long, refused_token, by_its_form}
use Rattle.draft.proofs.load.load.Goals as goal

pub returns-then-text-gt-TEXT_LIMIT : goal.returns-then-text-gt-TEXT_LIMIT
returns-then-text-gt-TEXT_LIMIT c = λ whole.
    let long : ltb 65536 (length c.args.text.now) ≡ true = grind (arith, nat_tests) in
    refused_long (tables c.args.out.now) c.args.text.now whole long

pub returns-in-Some : goal.returns-in-Some
returns-in-Some c = λ whole.
    let short : ltb 65536 (length c.args.text.now) ≡ false = grind (arith, nat_tests) in
    refused_token (tables c.args.out.now) c.args.text.now c.in-Some.place whole short (sym c.in-Some.ensures)

pub returns : goal.returns
returns c = λ whole.
    let T = tables c.args.out.now in
    let short : ltb 65536 (length c.args.text.now) ≡ false = grind (arith, nat_tests) in
    let none : bad_token c.args.text.now ≡ None = search rules in
    subst (λ a. Taken c.form.result a T (tables c.form.new.out)) (sym (by_its_form T c.args.text.now short none)) (c.form.ensures whole)

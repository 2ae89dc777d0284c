use Rattle.std.proofs.Common.{◌≡◌, ◌+◌, ◌*◌, ◌^◌, ◌<◌, ◌≤◌, false, refl, sym, ap, ◌∙◌, subst, arith, rules}
use Rattle.std.proofs.lemmas.Result.{err_from_is_err_and}
use Rattle.token.specs.Tokens.{refused, in_number, Standing}
use Rattle.token.proofs.Laws.{allowed_sized}
use Rattle.token.proofs.Turns.{inside, marked, operated, number_ends, number_long, text_unended}
use Rattle.token.proofs.scan.step.Goals as goal

pub returns-in-Between-Mark-clause-reads : goal.returns-in-Between-Mark-clause-reads
returns-in-Between-Mark-clause-reads c = rw c.made.ensures (marked c.args.text.now c.args.at _ c.in-Between-Mark.mark c.in-Between-Mark.is-0 c.in-Between-Mark.ensures)

pub returns-in-Between-Operator-clause-reads : goal.returns-in-Between-Operator-clause-reads
returns-in-Between-Operator-clause-reads c = rw c.made-in-Between-Operator.ensures (operated c.args.text.now c.args.at _ c.in-Between-Operator.op _ c.in-Between-Operator.is-0 c.in-Between-Operator.ensures c.width.ensures)

pub returns-in-InText-End-clause-reads : goal.returns-in-InText-End-clause-reads
returns-in-InText-End-clause-reads c = text_unended c.args.text.now c.args.at _ c.in-InText-End.from c.in-InText-End.is-0 c.in-InText-End.ensures

pub returns-in-InNumber-default : goal.returns-in-InNumber-default
returns-in-InNumber-default c =
    let s = c.in-InNumber-default in
    let stands = subst (λ s. Standing c.args.text.now s c.args.at) s.is-0 c.requires in
    let out-of-it : in_number c.class_of.result ≡ false = grind arith in
    let fits : s.n < 2 ^ 64 = search rules in
    record {
      reads = rw c.made-in-InNumber-default.ensures (number_ends c.args.text.now c.args.at _ s.from s.n s.is-0 _ c.class_of.ensures out-of-it fits);
      moves = rw (c.made-in-InNumber-default.ensures, s.is-0) (omega arith, stands.1, tt);
    }

pub returns-else-not-allowed-clause-moves : goal.returns-else-not-allowed-clause-moves
returns-else-not-allowed-clause-moves c =
    let s = c.in-InText-Quote in
    rw (c.made-in-InText-Quote.ensures, s.is-0) (omega arith, inside c.args.text.now c.args.at _ s.ensures refl, allowed_sized _ (sym c.if-not-allowed.ensures))

pub returns-in_err-n-in-InNumber-Digit-clause-reads : goal.returns-in_err-n-in-InNumber-Digit-clause-reads
returns-in_err-n-in-InNumber-Digit-clause-reads c =
    let s = c.in-InNumber-Digit in
    let p = err_from_is_err_and c.from_residual.result c.from_residual.ensures.1 in
    let e = c.in_err-n-in-InNumber-Digit.ensures in
    let many : 2 ^ 64 ≤ s.n * 10 + s.d = search rules in
    let here : s.from ≡ c.in_err-n-in-InNumber-Digit.field-0.0.place = grind (arith, e.value, e.ok_part) in
    rw (p.1, p.2) (number_long c.args.text.now c.args.at _ s.from s.n s.is-0 s.d s.ensures many ∙ ap refused here)

use Rattle.std.proofs.Common.{◌≡◌, ◌<◌, ◌≤◌, ◌∷◌, length, vec_items, ap, ◌∙◌, arith}
use Rattle.std.proofs.lemmas.List.{length-take-le}
use Rattle.stack.specs.Stacks.{held, room}
use Rattle.arena.proofs.Pieces.{part_short}
use Rattle.meaning.specs.Values.{value}
use Rattle.sealed.specs.Codes.{expr_of}
use Rattle.evaluate.specs.Reached.{progress}
use Rattle.evaluate.proofs.Numbers.{left_few}
use Rattle.evaluate.proofs.Pushing.{pushed_held, pushed_room}
use Rattle.evaluate.proofs.Worth.{worth_more, worth_none, worth_end, comes_to}
use Rattle.evaluate.proofs.Reached.value.Goals as goal

pub returns-in_err-v : goal.returns-in_err-v
returns-in_err-v c = λ used.
    let at = c.args.self.now.start in
    let so = progress c.args.self.now used in
    let cs = c.code_of-codes.result.now in
    let vs = held c.loop-code.stack in
    c.from_residual.ensures
    ∙ worth_none at so cs c.loop-code.code-index _ vs c.loop-code-test.true (c.in_err-v.ensures.answer used)
    ∙ c.loop-code.invariant.3 used
    ∙ comes_to at so cs
    ∙ ap (λ z. value at so (expr_of z)) c.code_of-codes.ensures

pub loop-code-preserved : goal.loop-code-preserved
loop-code-preserved c =
    let at = c.args.self.now.start in
    let cs = c.code_of-codes.result.now in
    let i = c.loop-code.code-index in
    let vs = held c.loop-code.stack in
    let inv = c.loop-code.invariant in
    let n = c.next_number.ensures.left in
    let p = c.push.ensures in
    let xs = held c.next_number.new.stack in
    let rs = room c.next_number.new.stack in
    let g = c.args.grammar.now in
    let v = c.in_ok-v.v in
    let room-is : length rs ≡ 1024 = ap length n.room ∙ inv.1 ∙ ap length c.new-stack.ensures.room ∙ length-take-le 1024 c.args.numbers.now (omega (arith, c.told-numbers)) in
    let few : length xs ≤ i = let l = left_few _ vs xs n.held in omega (arith, inv.2) in
    let here : i < 1024 = omega (arith, c.loop-code-test.true, ap length c.code_of-codes.ensures, part_short (vec_items g.code) c.args.span, g.code.ok.0, g.short_code) in
    let fits : length xs < length rs = omega arith in
    let after = p.held ∙ pushed_held rs xs v fits in (
      p.lender ∙ n.lender ∙ inv.0,
      ap length p.room ∙ pushed_room rs xs v fits ∙ ap length n.room ∙ inv.1,
      omega (arith, ap length after, few),
      λ used. let so = progress c.args.self.now used in worth_more at so cs i _ vs c.loop-code-test.true v (held c.push.new.self) (c.in_ok-v.ensures.answer used) (after ∙ ap (λ z. v ∷ z) n.held) ∙ inv.3 used,
    )

pub returns : goal.returns
returns c = λ used.
    let at = c.args.self.now.start in
    let so = progress c.args.self.now used in
    let cs = c.code_of-codes.result.now in
    let vs = held c.loop-code.stack in
    c.last_number.ensures.answer
    ∙ worth_end at so cs c.loop-code.code-index vs c.loop-code-test.false
    ∙ c.loop-code.invariant.3 used
    ∙ comes_to at so cs
    ∙ ap (λ z. value at so (expr_of z)) c.code_of-codes.ensures

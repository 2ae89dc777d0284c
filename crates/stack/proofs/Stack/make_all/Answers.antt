use Rattle.std.proofs.Common.{◌≡◌, ◌+◌, ◌≤◌, length, drop, sym, ap, ◌∙◌, arith}
use Rattle.std.proofs.lemmas.List.{at_drop_more, at_drop_all}
use Rattle.stack.specs.Runs.{Standing, standing, after_call, after_calls}
use Rattle.stack.specs.Stacks.{held, room}
use Rattle.stack.proofs.Held.{held_length}
use Rattle.stack.proofs.Pairs.{paired_keeps}
use Rattle.stack.proofs.Stack.make_all.Goals as goal

pub loop-call-preserved : goal.loop-call-preserved
loop-call-preserved g c =
    let calls = c.args.calls.now in
    let i = c.loop-call.call-index in
    let x = c.call-item.result in
    let s = standing c.loop-call.self in
    let m : after_calls s (drop i calls) ≡ after_calls (after_call s x) (drop (i + 1) calls) = at_drop_more (after_calls s) calls i x (omega arith) ∙ ap (λ y. after_calls (after_call s y) (drop (i + 1) calls)) (sym c.call-item.is) in
    (ap (λ t. after_calls t (drop (i + 1) calls)) c.make.ensures.after ∙ sym m ∙ c.loop-call.invariant.0, c.make.ensures.lender ∙ c.loop-call.invariant.1)

pub returns : goal.returns
returns g c =
    let calls = c.args.calls.now in
    let s₀ = c.args.self.now in
    let s = standing c.loop-call.self in
    let before = standing s₀ in
    let e : s ≡ after_calls before calls = sym (at_drop_all (after_calls s) calls c.loop-call.call-index (omega arith)) ∙ c.loop-call.invariant.0 in
    let few : length (held s₀) ≤ length (room s₀) = omega (arith, held_length s₀.slots.now s₀.len s₀.fits, s₀.fits) in
    record { after = e; paired = λ p. ap (λ (t : Standing g.row.T.Denot). t.held) e ∙ paired_keeps before calls few p; lender = c.loop-call.invariant.1 }

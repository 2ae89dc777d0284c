use Rattle.std.proofs.Common.{◌≡◌, ℕ, ◌+◌, ◌-◌, ◌*◌, ◌^◌, ◌<◌, ◌≤◌, take, drop, Some, sym, ap, ◌∙◌, arith, lit<}
use Rattle.input.specs.Bytes.{byte_at}
use Rattle.fields.specs.Readings.{little_endian}
use Rattle.fields.proofs.Bytewise.{small_more, small_fits, little_more, little_none}
use Rattle.fields.proofs.little.little.Given as given
use Rattle.fields.proofs.little.little.Goals as goal

pub loop-i-init : goal.loop-i-init
loop-i-init g c =
    let z : c.args.width - c.args.width ≡ 0 = omega arith in
    (sym (little_none _ c.args.left c.args.width), rw z (lit< tt))

grown : (v w i b : ℕ) → w ≤ 8 → i ≤ w → 0 < i → v < 256 ^ (w - i) → b < 256 → v * 256 + b < 256 ^ (w - (i - 1))
grown v w i b h l p s t = let z : w - (i - 1) ≡ w - i + 1 = omega arith in rw z (small_more v (w - i) b s t)

pub overflow_mul-value : goal.overflow_mul-value
overflow_mul-value g c =
    let s = grown c.loop-i.value c.args.width c.loop-i.i 0 c.requires.1 (omega arith) (omega arith) c.loop-i.invariant.1 (lit< tt) in
    let f = small_fits _ (c.args.width - (c.loop-i.i - 1)) (omega arith) s in
    omega arith

next_small : (g : given.Over) (c : goal.After-from g) → c.loop-i.value * 256 + c.from.result < 256 ^ (c.args.width - (c.loop-i.i - 1))
next_small g c =
    let t : c.from.result < 256 = omega arith in
    grown c.loop-i.value c.args.width c.loop-i.i c.from.result c.requires.1 (omega arith) (omega arith) c.loop-i.invariant.1 t

pub overflow_add-value : goal.overflow_add-value
overflow_add-value g c =
    let f = small_fits _ (c.args.width - (c.loop-i.i - 1)) (omega arith) (next_small g c) in
    omega arith

pub loop-i-preserved : goal.loop-i-preserved
loop-i-preserved g c =
    let bs = (g.I.Input.shown c.args.input.now).bytes in
    let e = c.in_ok-b.ensures in
    let s : Some c.from.result ≡ byte_at bs (c.args.left + (c.loop-i.i - 1)) = cc in
    (little_more bs c.args.left c.args.width c.loop-i.i c.from.result c.loop-i.value c.requires.0 (omega arith) (omega arith) s c.loop-i.invariant.0, next_small g c)

pub returns : goal.returns
returns g c =
    let z : c.loop-i.i ≡ 0 = omega arith in
    ap Some (c.loop-i.invariant.0 ∙ ap (λ i. little_endian (drop i (take c.args.width (drop c.args.left (g.I.Input.shown c.args.input.now).bytes)))) z)

-- A little_endian number, byte by byte from its highest.
use Rattle.std.proofs.Common.{◌≡◌, ℕ, ◌+◌, ◌-◌, ◌*◌, ◌^◌, ◌<◌, ◌≤◌, List, length, get_or, take, drop, Some, sym, ap, ◌∙◌, pow-suc, add-one, arith, lit<, length-drop, length-take}
use native.Mathlib.Nat.{pow-le-pow_right}
use Rattle.std.proofs.lemmas.List.{drop_more, drop_all, take-take, get_or-take, get_or-drop}
use Rattle.std.proofs.lemmas.Bool.Decides.{nat_tests}
use Rattle.input.specs.Bytes.{byte_at, window_of}
use Rattle.input.proofs.Windows.{window_is}
use Rattle.fields.specs.Readings.{little_endian}

pub small_more : (v k b : ℕ) → v < 256 ^ k → b < 256 → v * 256 + b < 256 ^ (k + 1)
small_more v k b h l = rw (add-one, pow-suc) (omega arith)

pub small_fits : (v k : ℕ) → k ≤ 8 → v < 256 ^ k → v < 18446744073709551616
small_fits v k h l = let m : 256 ^ k ≤ 256 ^ 8 = pow-le-pow_right {n = 256} (lit< tt) h in omega arith

-- the byte before the last that was read
pub little_more : (bs : List ℕ) (l k i b v : ℕ) → l + k ≤ length bs → i ≤ k → 0 < i → Some b ≡ byte_at bs (l + (i - 1)) → v ≡ little_endian (drop i (take k (drop l bs))) → v * 256 + b ≡ little_endian (drop (i - 1) (take k (drop l bs)))
little_more bs l k i b v fits h p s e =
    let w = take k (drop l bs) in
    let n : length w ≡ k = simp (length-take, length-drop) (omega arith) in
    let j : i - 1 < length w = omega arith in
    let j' : i - 1 < k = omega arith in
    let m : l + (i - 1) < length bs = omega arith in
    let z : i - 1 + 1 ≡ i = omega arith in
    let at : get_or w (i - 1) 0 ≡ b = get_or-take k (drop l bs) (i - 1) 0 j' ∙ get_or-drop l bs (i - 1) 0 ∙ grind (arith, nat_tests) in
    let d : little_endian (drop (i - 1) w) ≡ get_or w (i - 1) 0 + 256 * little_endian (drop (i - 1 + 1) w) = ap little_endian (drop_more w (i - 1) 0 j) in
    let d' : little_endian (drop (i - 1 + 1) w) ≡ v = ap (λ q. little_endian (drop q w)) z ∙ sym e in
    omega arith

pub little_none : (bs : List ℕ) (l k : ℕ) → little_endian (drop k (take k (drop l bs))) ≡ 0
little_none bs l k = ap little_endian (drop_all k (take k (drop l bs)) (simp length-take (omega arith)))

-- the front of a window
pub window_front : (bs : List ℕ) (l r k : ℕ) → l ≤ r → r ≤ length bs → k ≤ r - l → take k (window_of bs l r) ≡ take k (drop l bs)
window_front bs l r k h j m = ap (take k) (window_is bs l r h j) ∙ take-take k (r - l) (drop l bs) m

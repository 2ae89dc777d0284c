-- The bytes of a window.
use Rattle.std.proofs.Common.{◌≡◌, ℕ, ◌+◌, ◌-◌, ◌<◌, ◌≤◌, List, length, get_or, take, drop, ap, ◌∙◌, arith, length-drop, length-take}
use Rattle.std.proofs.lemmas.List.{get_or-take, get_or-drop}
use Rattle.std.proofs.lemmas.Bool.Decides.{nat_tests}
use Rattle.input.specs.Bytes.{byte_at, window_of}

-- a window that is in order and not past the end
pub window_is : (bs : List ℕ) (l r : ℕ) → l ≤ r → r ≤ length bs → window_of bs l r ≡ take (r - l) (drop l bs)
window_is bs l r h k = grind (arith, nat_tests)

pub window_length : (bs : List ℕ) (l r : ℕ) → l ≤ r → r ≤ length bs → length (window_of bs l r) ≡ r - l
window_length bs l r h k = ap length (window_is bs l r h k) ∙ simp (length-take, length-drop) (omega arith)

-- a window that holds something is in order and not past the end
pub window_some : (bs : List ℕ) (l r k : ℕ) → k < length (window_of bs l r) → (l ≤ r) × (r ≤ length bs)
window_some bs l r k h = grind (arith, nat_tests)

pub window_room : (bs : List ℕ) (l r k : ℕ) → k < length (window_of bs l r) → l + k < length bs
window_room bs l r k h =
    let s = window_some bs l r k h in
    omega (arith, s.0, s.1, window_length bs l r s.0 s.1)

pub window_byte : (bs : List ℕ) (l r k : ℕ) → k < length (window_of bs l r) → byte_at bs (l + k) ≡ byte_at (window_of bs l r) k
window_byte bs l r k h =
    let s = window_some bs l r k h in
    let n = window_length bs l r s.0 s.1 in
    let i : k < r - l = omega arith in
    let j : l + k < length bs = omega (arith, s.1) in
    let e : get_or (window_of bs l r) k 0 ≡ get_or bs (l + k) 0 =
    ap (λ xs. get_or xs k 0) (window_is bs l r s.0 s.1) ∙ get_or-take (r - l) (drop l bs) k 0 i ∙ get_or-drop l bs k 0 in
    grind (arith, nat_tests)

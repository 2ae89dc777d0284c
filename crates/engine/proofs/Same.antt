-- Two lists compared from the front.
use Rattle.std.proofs.Common.{◌≡◌, ℕ, ◌+◌, ◌<◌, ◌≤◌, nat_eq, ◌&&◌, List, [], ◌∷◌, length, get_or, drop, Some, sym, ap, ◌∙◌, arith, lt-ltb}
use Rattle.std.specs.List.{list_all, enumerate_from}
use Rattle.std.specs.Option.{option_eq}
use Rattle.std.proofs.lemmas.List.{drop_more, drop_all}
use Rattle.input.specs.Bytes.{byte_at, window_of}
use Rattle.input.proofs.Windows.{window_length, window_byte}
use Rattle.meaning.specs.Meaning.{same}

-- a byte of a window
shown_at : (bs : List ℕ) (l r i : ℕ) → l ≤ r → l + i < r → r ≤ length bs → byte_at bs (l + i) ≡ Some (get_or (window_of bs l r) i 0)
shown_at bs l r i o h k =
    let n = window_length bs l r o k in
    let here : i < length (window_of bs l r) = omega arith in
    window_byte bs l r i here ∙ simp (lt-ltb i (length (window_of bs l r)) here)

-- each of the bytes stands at its place of the window, from the i-th on
pub same_from : (bs ys : List ℕ) (l r i : ℕ) → l + (i + length ys) ≡ r → r ≤ length bs
    → list_all (λ p. option_eq nat_eq (byte_at bs (l + p.0)) (Some p.1)) (enumerate_from i ys) ≡ same (drop i (window_of bs l r)) ys
unfolding same
same_from bs [] l r i e k =
    let o : l ≤ r = omega arith in
    let n = window_length bs l r o k in
    sym (ap (λ z. same z []) (drop_all i (window_of bs l r) (omega arith)))
same_from bs (y ∷ ys) l r i e k =
    let xs = window_of bs l r in
    let o : l ≤ r = omega arith in
    let n = window_length bs l r o k in
    let rest = same_from bs ys l r (i + 1) (omega arith) k in
    ap (λ b. option_eq nat_eq b (Some y) && list_all (λ p. option_eq nat_eq (byte_at bs (l + p.0)) (Some p.1)) (enumerate_from (i + 1) ys)) (shown_at bs l r i o (omega arith) k)
    ∙ ap (λ t. nat_eq (get_or xs i 0) y && t) rest
    ∙ sym (ap (λ z. same z (y ∷ ys)) (drop_more xs i 0 (omega arith)))

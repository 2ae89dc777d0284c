-- Lists of bytes: their places, their windows, and what an input means.
use Rattle.std.specs.Prelude.{ℕ, ◌≤◌, Bool, true, false, cond, ◌&&◌, List, [], length, Some, None, Option, nat_le, nat_lt, slice_index, slice_range}
use Rattle.std.proofs.Common.{arith, lit≤, length-take, length-drop}
use Rattle.std.proofs.lemmas.Bool.{cond_both, leb-true}

-- the most bytes of an input: 2^24
abbrev pub longest : ℕ
longest = 16777216

-- what an input means: a list of bytes that is not too long
pub record Shown : Type 0 where
  pub bytes : List ℕ
  pub short : length bytes ≤ longest

-- the byte at a place, or none past the end
abbrev pub byte_at : List ℕ → ℕ → Option ℕ
byte_at bytes place = cond (nat_lt place (length bytes)) (Some (slice_index bytes place)) None

-- what a slice input shows of the caller's bytes: all, or none where they are too many
abbrev pub slice_of : List ℕ → List ℕ
slice_of bytes = cond (nat_le (length bytes) longest) bytes []

-- a slice that is shown is not too long
pub slice_short : (bytes : List ℕ) → length (slice_of bytes) ≤ longest
slice_short bytes =
    cond_both (nat_le (length bytes) longest) bytes [] (λ shown. length shown ≤ longest) (λ t. leb-true (length bytes) longest t) (λ f. lit≤ tt)

-- what a slice input shows
abbrev pub slice_shown : List ℕ → Shown
slice_shown bytes = record { bytes = slice_of bytes; short = slice_short bytes }

-- whether a window l r of n bytes is in order and not past the end
abbrev pub in_order : ℕ → ℕ → ℕ → Bool
in_order l r n = nat_le l r && nat_le r n

-- the bytes from place l up to but not including r; none if the ends are out of order or past the end
abbrev pub window_of : List ℕ → ℕ → ℕ → List ℕ
window_of bytes l r = cond (in_order l r (length bytes)) (slice_range bytes l r) []

-- a window is no longer than its list
pub window_short : (bytes : List ℕ) (l r : ℕ) → length bytes ≤ longest → length (window_of bytes l r) ≤ longest
window_short bytes l r h =
    elim (in_order l r (length bytes)) as (λ t. length (cond t (slice_range bytes l r) []) ≤ longest)
    [ true ↦ simp (length-take, length-drop) (omega arith) | false ↦ lit≤ tt ]

-- what a window layer shows, by what its input shows
abbrev pub window_shown : Shown → ℕ → ℕ → Shown
window_shown s l r = record { bytes = window_of s.bytes l r; short = window_short s.bytes l r s.short }

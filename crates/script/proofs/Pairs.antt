-- Digit pairs decoded so far, and what is left.
use Rattle.std.proofs.Common.{◌≡◌, ℕ, ◌-◌, ◌≤◌, false, eqb, List, [], ◌∷◌, ◌++◌, length, get_or, take, drop, Some, None, Option, sym, refl, ap, append_assoc, arith}
use Rattle.std.proofs.lemmas.List.{take_all}
use Rattle.digits.specs.Digits.{digit_of, pair_of}
use Rattle.script.specs.Hex.{consed, hex_bytes}

abbrev pub joined : List ℕ → Option (List ℕ) → Option (List ℕ)
joined vs (Some ws) = Some (vs ++ ws)
joined vs None = None

pub joined_none : (o : Option (List ℕ)) → o ≡ joined [] o
joined_none (Some ws) = refl
joined_none None = refl

pub joined_more : (vs : List ℕ) (v : ℕ) (o : Option (List ℕ)) → joined vs (consed (Some v) o) ≡ joined (vs ++ v ∷ []) o
joined_more vs v (Some ws) = ap Some (sym (append_assoc vs (v ∷ []) ws))
joined_more vs v None = refl

-- the bytes past the first n, as a slice pattern gives them
abbrev pub past : ℕ → List ℕ → List ℕ
past n bs = take (length bs - n) (drop n bs)

pub space_front : (bs : List ℕ) → 1 ≤ length bs → get_or bs 0 0 ≡ 0x20 → hex_bytes bs ≡ hex_bytes (past 1 bs)
unfolding hex_bytes
space_front [] h e = absurd (omega arith)
space_front (a ∷ []) h e = rw e refl
space_front (a ∷ b ∷ bs) h e = rw (e, take_all (length (a ∷ b ∷ bs) - 1) (b ∷ bs) (omega arith)) refl

pub pair_front : (bs : List ℕ) → 2 ≤ length bs → eqb (get_or bs 0 0) 0x20 ≡ false → hex_bytes bs ≡ consed (pair_of (digit_of (get_or bs 0 0)) (digit_of (get_or bs 1 0))) (hex_bytes (past 2 bs))
unfolding hex_bytes
pair_front [] h e = absurd (omega arith)
pair_front (a ∷ []) h e = absurd (omega arith)
pair_front (a ∷ b ∷ bs) h e = rw (e, take_all (length (a ∷ b ∷ bs) - 2) bs (omega arith)) refl

pub lone_front : (bs : List ℕ) → length bs ≡ 1 → eqb (get_or bs 0 0) 0x20 ≡ false → hex_bytes bs ≡ None
unfolding hex_bytes
lone_front [] h e = absurd (omega arith)
lone_front (a ∷ []) h e = rw e refl
lone_front (a ∷ b ∷ bs) h e = absurd (omega arith)

pub nothing_left : (bs : List ℕ) → length bs ≡ 0 → hex_bytes bs ≡ Some []
unfolding hex_bytes
nothing_left [] h = refl
nothing_left (a ∷ bs) h = absurd (omega arith)

-- without a byte, no bytes
pub consed_none : (o : Option (List ℕ)) → consed None o ≡ None
consed_none (Some vs) = refl
consed_none None = refl

-- What the body of a string, the bytes between its quotes, stands for.
use Rattle.std.specs.Prelude.{◌≡◌, ℕ, ◌<◌, Bool, cond, not, ◌&&◌, List, [], ◌∷◌, length, Some, None, Option, ◌==◌}
use Rattle.std.specs.Borrow.{Bor}
use Rattle.digits.specs.Digits.{between, digit_of, pair_of}

-- a byte that stands for itself: not a quote (22), not a backslash (5C)
abbrev pub plain : ℕ → Bool
plain b = between 0x20 0x7E b && not (b == 0x22) && not (b == 0x5C)

abbrev pub itself : ℕ → Option ℕ
itself b = cond (plain b) (Some b) None

-- a byte and what follows it, where both are allowed
abbrev pub consed : Option ℕ → Option (List ℕ) → Option (List ℕ)
consed (Some v) (Some vs) = Some (v ∷ vs)
consed (Some v) None = None
consed None (Some vs) = None
consed None None = None

-- `\x` and two digits stand for one byte, plain bytes for themselves; nothing else is allowed
abbrev pub decode : List ℕ → Option (List ℕ)
decode [] = Some []
decode (a ∷ []) = consed (itself a) (Some [])
decode (a ∷ b ∷ []) = consed (itself a) (decode (b ∷ []))
decode (a ∷ b ∷ c ∷ []) = consed (itself a) (decode (b ∷ c ∷ []))
decode (a ∷ b ∷ c ∷ d ∷ bs) = cond (a == 0x5C && b == 0x78) (consed (pair_of (digit_of c) (digit_of d)) (decode bs)) (consed (itself a) (decode (b ∷ c ∷ d ∷ bs)))

abbrev pub decoded_length : Option (List ℕ) → Option ℕ
decoded_length (Some vs) = Some (length vs)
decoded_length None = None

abbrev pub or_empty : Option (List ℕ) → List ℕ
or_empty (Some vs) = vs
or_empty None = []

-- the bytes of a body that is allowed
unfoldable pub bytes_of : List ℕ → List ℕ
bytes_of bs = or_empty (decode bs)

-- what `first` tells: the first byte and the rest of the body, or, of a body with bytes, that it is not allowed
abbrev pub First : List ℕ → Option (ℕ × Bor (List ℕ)) → Type 0
First bs (Some x) = (decode bs ≡ consed (Some x.0) (decode x.1.now)) × (length x.1.now < length bs)
First bs None = 0 < length bs → decode bs ≡ None

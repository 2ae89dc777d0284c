-- Bytes written as pairs of hexadecimal digits.
use Rattle.std.specs.Prelude.{ℕ, cond, List, [], ◌∷◌, Some, None, vec_items, Option, Vec, ◌==◌}
use Rattle.digits.specs.Digits.{digit_of, pair_of}
use Rattle.std.specs.declared.alloc.Global.{Global}

abbrev pub consed : Option ℕ → Option (List ℕ) → Option (List ℕ)
consed (Some v) (Some vs) = Some (v ∷ vs)
consed (Some v) None = None
consed None (Some vs) = None
consed None None = None

-- the bytes of digit pairs with spaces between them, or none where the text has another form
unfoldable pub hex_bytes : List ℕ → Option (List ℕ)
hex_bytes [] = Some []
hex_bytes (a ∷ []) = cond (a == 0x20) (Some []) None
hex_bytes (a ∷ b ∷ bs) = cond (a == 0x20) (hex_bytes (b ∷ bs)) (consed (pair_of (digit_of a) (digit_of b)) (hex_bytes bs))

-- what a vector holds, if there is one
abbrev pub items_of : Option (Vec ℕ Global) → Option (List ℕ)
items_of (Some v) = Some (vec_items v)
items_of None = None

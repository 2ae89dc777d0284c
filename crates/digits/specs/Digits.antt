-- The values of digits.
use Rattle.std.specs.Prelude.{ℕ, ◌+◌, ◌-◌, ◌*◌, Bool, cond, ◌&&◌, Some, None, Option, nat_le}

-- within two bounds, both included
abbrev pub between : ℕ → ℕ → ℕ → Bool
between low high b = nat_le low b && nat_le b high

-- the value of a decimal digit
abbrev pub decimal_of : ℕ → Option ℕ
decimal_of b = cond (between 48 57 b) (Some (b - 48)) None

-- the value of a hexadecimal digit: 0 to 9, A to F, a to f
abbrev pub digit_of : ℕ → Option ℕ
digit_of b =
    cond (between 48 57 b) (Some (b - 48))
    (cond (between 65 70 b) (Some (b - 65 + 10))
    (cond (between 97 102 b) (Some (b - 97 + 10)) None))

-- two digits, the high one first
abbrev pub pair_of : Option ℕ → Option ℕ → Option ℕ
pair_of (Some h) (Some l) = Some (h * 16 + l)
pair_of (Some h) None = None
pair_of None (Some l) = None
pair_of None None = None

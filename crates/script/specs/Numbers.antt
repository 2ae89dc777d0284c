-- The value of a decimal number.
use Rattle.std.specs.Prelude.{ℕ, ◌+◌, ◌-◌, ◌*◌, ◌^◌, Bool, true, cond, not, ◌&&◌, List, [], ◌∷◌, length, Some, None, Option, ◌==◌, nat_le, nat_lt}

unfoldable pub digits : List ℕ → Bool
digits [] = true
digits (b ∷ bs) = nat_le 48 b && nat_le b 57 && digits bs

-- the value of digits that follow others of value v
unfoldable pub decimal : (v : ℕ) → List ℕ → ℕ
decimal v [] = v
decimal v (b ∷ bs) = decimal (v * 10 + (b - 48)) bs

-- one digit or more, and nothing else, of a value below 2^64
unfoldable pub number_of : List ℕ → Option ℕ
number_of w = cond (not (length w == 0) && digits w && nat_lt (decimal 0 w) (2 ^ 64)) (Some (decimal 0 w)) None

-- one digit more after a value, or none where it is no digit or the value passes the numbers
unfoldable pub appended : ℕ → ℕ → Option ℕ
appended v b = cond (nat_le 48 b && nat_le b 57 && nat_lt (v * 10 + (b - 48)) (2 ^ 64)) (Some (v * 10 + (b - 48))) None

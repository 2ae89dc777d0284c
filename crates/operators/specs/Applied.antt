-- What an operator makes of two numbers. None is the missing value.
use Rattle.std.specs.Prelude.{ℕ, ◌+◌, ◌-◌, ◌*◌, ◌/◌, ◌%◌, ◌^◌, cond, Some, None, Option, ◌==◌, nat_le, nat_lt}
use Rattle.operators.specs.declared.Op.{Op}
use Rattle.operators.specs.declared.Op.TheVariants.{Plus, Minus, Times, Divide, Remainder, Shift, Equal, Less}

-- a number, if it is below 2^64
unfoldable pub in_range : ℕ → Option ℕ
in_range n = cond (nat_lt n (2 ^ 64)) (Some n) None

-- two numbers joined by an operator. A quotient drops to the whole one; a comparison gives 1 or 0
unfoldable pub applied : Op → ℕ → ℕ → Option ℕ
applied Plus p q = in_range (p + q)
applied Minus p q = cond (nat_le q p) (Some (p - q)) None
applied Times p q = in_range (p * q)
applied Divide p q = cond (q == 0) None (Some (p / q))
applied Remainder p q = cond (q == 0) None (Some (p % q))
applied Shift p q = cond (nat_lt q 64) (in_range (p * 2 ^ q)) None
applied Equal p q = cond (p == q) (Some 1) (Some 0)
applied Less p q = cond (nat_lt p q) (Some 1) (Some 0)

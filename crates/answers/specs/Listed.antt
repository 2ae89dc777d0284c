-- The number of an answer.
use Rattle.std.specs.Prelude.{ℕ, Ok, Err, Result}

-- that of what a call gives, or that of its refusal
abbrev pub listed_of : {T E : Type 0} → (T → ℕ) → (E → ℕ) → Result T E → ℕ
listed_of given refusal (Ok t) = given t
listed_of given refusal (Err e) = refusal e

-- What a field reader means.
use Rattle.std.specs.Prelude.{◌≡◌, ℕ, ◌≤◌, Bool, cond, List, length, take, Some, None, Option}
use Rattle.input.specs.Bytes.{in_order, window_of}
use Rattle.fields.specs.declared.reading.Reading.{Reading}

-- the numbers that a reader owns, and for each a function from a window's bytes to a refusal (none) or a value and a used count
pub record Fields : Type 0 where
  pub owned : ℕ → Bool
  pub reads : ℕ → List ℕ → Option Reading
  -- the count is from 1 to the window's length
  pub counted : (n : ℕ) (w : List ℕ) (v : Reading) → reads n w ≡ Some v → (1 ≤ v.used) × (v.used ≤ length w)
  -- a window of equal length with the same used bytes at its front gets the same answer
  pub front : (n : ℕ) (w z : List ℕ) (v : Reading) → reads n w ≡ Some v → length z ≡ length w → take v.used z ≡ take v.used w → reads n z ≡ Some v

-- what a function makes of the window l r of some bytes; a window out of order or past the end is refused
abbrev pub on_window : (List ℕ → Option Reading) → List ℕ → ℕ → ℕ → Option Reading
on_window f bytes l r = cond (in_order l r (length bytes)) (f (window_of bytes l r)) None

-- what a reader answers for a number on the window l r of some bytes; a number not its own is refused
abbrev pub read_on : Fields → ℕ → List ℕ → ℕ → ℕ → Option Reading
read_on fields n bytes l r = cond (fields.owned n) (on_window (fields.reads n) bytes l r) None

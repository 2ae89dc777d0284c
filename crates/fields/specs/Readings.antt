-- What readers answer for a window's bytes.
use Rattle.std.specs.Prelude.{ℕ, ◌+◌, ◌*◌, cond, List, [], ◌∷◌, length, take, Some, None, Option, ◌==◌, nat_le}
use Rattle.fields.specs.Fields.{Fields}
use Rattle.fields.specs.declared.reading.Reading.{Reading}

-- a value with a used count
abbrev pub reading : ℕ → ℕ → Option Reading
reading value used = Some (record { value = value; used = used })

-- the first k bytes, of which a function gives the value; a shorter window is refused
abbrev pub fixed_reading : ℕ → (List ℕ → ℕ) → List ℕ → Option Reading
fixed_reading k value w = cond (nat_le k (length w)) (reading (value (take k w)) k) None

-- the number that bytes stand for, the lowest first
abbrev pub little_endian : List ℕ → ℕ
little_endian [] = 0
little_endian (b ∷ bs) = b + 256 * little_endian bs

-- k bytes from the front as one number, the lowest first
abbrev pub little_reading : ℕ → List ℕ → Option Reading
little_reading k w = fixed_reading k little_endian w

-- the whole window, of which the value is its length; an empty one is refused
abbrev pub raw_reading : List ℕ → Option Reading
raw_reading w = cond (length w == 0) None (reading (length w) (length w))

-- of two readers, the left one answers for the numbers that it owns, also if it refuses
abbrev pub either_reads : Fields → Fields → ℕ → List ℕ → Option Reading
either_reads f g n w = cond (f.owned n) (f.reads n w) (g.reads n w)

-- What each built-in reader reads, in plain words.
use Rattle.std.specs.Prelude.{◌≡◌, ℕ, ◌+◌, ◌*◌, ◌<◌, List, [], ◌∷◌, length, is_some, None}
use Rattle.fields.specs.Names.{reader_table, name_in}
use Rattle.fields.specs.Numbers.{builtin_fields}
use Rattle.fields.specs.Readings.{reading}

pub record BuiltinReads : Type 0 where
  -- the numbers that are owned are those of the table
  pub table : (n : ℕ) → builtin_fields.owned n ≡ is_some (name_in reader_table n)
  -- u8: the first byte, and 1 is used
  pub byte : (a : ℕ) (rest : List ℕ) → builtin_fields.reads 32 (a ∷ rest) ≡ reading a 1
  -- u16le: two bytes, the lowest first
  pub two : (a b : ℕ) (rest : List ℕ) → builtin_fields.reads 33 (a ∷ (b ∷ rest)) ≡ reading (a + 256 * b) 2
  -- u32le: four bytes
  pub four : (a b c d : ℕ) (rest : List ℕ) → builtin_fields.reads 35 (a ∷ (b ∷ (c ∷ (d ∷ rest)))) ≡ reading (a + 256 * b + 65536 * c + 16777216 * d) 4
  -- u64le: eight bytes, as a number of the first four and a number of the last four
  pub eight : (a b c d e f g h : ℕ) (rest : List ℕ) →
      builtin_fields.reads 37 (a ∷ (b ∷ (c ∷ (d ∷ (e ∷ (f ∷ (g ∷ (h ∷ rest))))))))
      ≡ reading (a + 256 * b + 65536 * c + 16777216 * d + 4294967296 * (e + 256 * f + 65536 * g + 16777216 * h)) 8
  -- each refuses a window that is shorter than what it reads
  pub byte_short : builtin_fields.reads 32 [] ≡ None
  pub two_short : (w : List ℕ) → length w < 2 → builtin_fields.reads 33 w ≡ None
  pub four_short : (w : List ℕ) → length w < 4 → builtin_fields.reads 35 w ≡ None
  pub eight_short : (w : List ℕ) → length w < 8 → builtin_fields.reads 37 w ≡ None
  -- raw: the whole window, of which the value is the length; an empty one is refused
  pub raw : (a : ℕ) (rest : List ℕ) → builtin_fields.reads 40 (a ∷ rest) ≡ reading (1 + length rest) (1 + length rest)
  pub raw_short : builtin_fields.reads 40 [] ≡ None

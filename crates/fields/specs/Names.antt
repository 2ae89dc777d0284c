-- The table of the built-in readers' numbers and names.
use Rattle.std.specs.Prelude.{◌≡◌, ℕ, cond, List, [], ◌∷◌, Some, None, codes, Option, ◌==◌}
use Rattle.std.specs.Str.{bytes_eq}

-- a reader's number, and the bytes of its name
pub record Named : Type 0 where
  pub number : ℕ
  pub name : List ℕ

abbrev pub reader_table : List Named
reader_table =
    record { number = 32; name = codes "u8" }
    ∷ (record { number = 33; name = codes "u16le" }
    ∷ (record { number = 35; name = codes "u32le" }
    ∷ (record { number = 37; name = codes "u64le" }
    ∷ (record { number = 40; name = codes "raw" } ∷ []))))

-- the number under a name
abbrev pub number_in : List Named → List ℕ → Option ℕ
number_in [] name = None
number_in (e ∷ es) name = cond (bytes_eq e.name name) (Some e.number) (number_in es name)

-- the name of a number
abbrev pub name_in : List Named → ℕ → Option (List ℕ)
name_in [] n = None
name_in (e ∷ es) n = cond (n == e.number) (Some e.name) (name_in es n)

-- the table goes both ways: a number has at most one name, and a name at most one number
pub record TableAgrees : Type 0 where
  pub by_number : (n : ℕ) (name : List ℕ) → name_in reader_table n ≡ Some name → number_in reader_table name ≡ Some n
  pub by_name : (n : ℕ) (name : List ℕ) → number_in reader_table name ≡ Some n → name_in reader_table n ≡ Some name

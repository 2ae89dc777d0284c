-- A length in three bytes.
use Rattle.std.specs.Prelude.{ℕ, List, reverse}
use Rattle.std.proofs.Common.{lit≤}
use Rattle.fields.specs.Fields.{Fields}
use Rattle.fields.specs.Numbers.{fixed_fields}
use Rattle.fields.specs.Readings.{little_endian}

-- the number that bytes stand for, the highest first
abbrev pub big_endian : List ℕ → ℕ
big_endian bytes = little_endian (reverse bytes)

-- three bytes by the number n
abbrev pub length24_fields : ℕ → Fields
length24_fields n = fixed_fields n 3 (lit≤ tt) big_endian

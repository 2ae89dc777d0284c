-- The meanings of the built-in readers, and of two readers joined.
use Rattle.std.specs.Prelude.{ℕ, ◌≤◌, ◌||◌, List, ◌==◌}
use Rattle.std.proofs.Common.{lit≤}
use Rattle.fields.specs.Fields.{Fields}
use Rattle.fields.specs.Lawful.{fixed_counted, fixed_front, raw_counted, raw_front, either_counted, either_front}
use Rattle.fields.specs.Readings.{little_endian, fixed_reading, raw_reading, either_reads}

-- the reader, by the number n, of k bytes, of which a function gives the value
abbrev pub fixed_fields : ℕ → (k : ℕ) → 1 ≤ k → (List ℕ → ℕ) → Fields
fixed_fields n k h value = record {
  owned = λ m. (m == n);
  reads = λ m w. fixed_reading k value w;
  counted = λ m w v e. fixed_counted k value h w v e;
  front = λ m w z v e q t. fixed_front k value w z v e q t;
}

-- the reader, by the number n, of k bytes as one number, the lowest byte first
abbrev pub little_fields : ℕ → (k : ℕ) → 1 ≤ k → Fields
little_fields n k h = fixed_fields n k h little_endian

-- the reader, by the number n, of a whole window
abbrev pub raw_fields : ℕ → Fields
raw_fields n = record {
  owned = λ m. (m == n);
  reads = λ m w. raw_reading w;
  counted = λ m w v e. raw_counted w v e;
  front = λ m w z v e q t. raw_front w z v e q t;
}

-- two readers joined: the numbers of both
abbrev pub joined_fields : Fields → Fields → Fields
joined_fields f g = record {
  owned = λ n. f.owned n || g.owned n;
  reads = either_reads f g;
  counted = either_counted f g;
  front = either_front f g;
}

-- 32 reads 1 byte, 33 reads 2, 35 reads 4, 37 reads 8, and 40 all of its window
abbrev pub builtin_fields : Fields
builtin_fields =
    joined_fields (little_fields 32 1 (lit≤ tt)) (joined_fields (little_fields 33 2 (lit≤ tt)) (joined_fields (little_fields 35 4 (lit≤ tt)) (joined_fields (little_fields 37 8 (lit≤ tt)) (raw_fields 40))))

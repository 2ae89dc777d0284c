-- The built-in readers in plain words, from their definitions.
use Rattle.std.proofs.Common.{◌≡◌, ℕ, ◌+◌, ◌*◌, ◌<◌, ◌≤◌, List, ◌∷◌, length, take, is_some, None, refl, ap, arith}
use Rattle.std.proofs.lemmas.Bool.Decides.{nat_tests}
use Rattle.fields.specs.Names.{reader_table, name_in}
use Rattle.fields.specs.Numbers.{builtin_fields}
use Rattle.fields.specs.Plain.{BuiltinReads}
use Rattle.fields.specs.Readings.{reading, little_endian, little_reading}

-- a window that is long enough
long : (k : ℕ) (w : List ℕ) (v : ℕ) → k ≤ length w → little_endian (take k w) ≡ v → little_reading k w ≡ reading v k
long k w v h e = let s : reading (little_endian (take k w)) k ≡ reading v k = ap (λ x. reading x k) e in grind (arith, nat_tests)

-- one that is too short
brief : (k : ℕ) (w : List ℕ) → length w < k → little_reading k w ≡ None
brief k w h = grind (arith, nat_tests)

table : (n : ℕ) → builtin_fields.owned n ≡ is_some (name_in reader_table n)
table n = grind (arith, nat_tests)

pub builtin_reads : BuiltinReads
builtin_reads = record {
  table = table;
  byte = λ a rest. long 1 (a ∷ rest) a (omega arith) (omega arith);
  two = λ a b rest. long 2 (a ∷ (b ∷ rest)) (a + 256 * b) (omega arith) (omega arith);
  four = λ a b c d rest. long 4 (a ∷ (b ∷ (c ∷ (d ∷ rest)))) (a + 256 * b + 65536 * c + 16777216 * d) (omega arith) (omega arith);
  eight = λ a b c d e f g h rest. long 8 (a ∷ (b ∷ (c ∷ (d ∷ (e ∷ (f ∷ (g ∷ (h ∷ rest)))))))) (a + 256 * b + 65536 * c + 16777216 * d + 4294967296 * (e + 256 * f + 65536 * g + 16777216 * h)) (omega arith) (omega arith);
  byte_short = refl;
  two_short = λ w h. brief 2 w h;
  four_short = λ w h. brief 4 w h;
  eight_short = λ w h. brief 8 w h;
  raw = λ a rest. grind (arith, nat_tests);
  raw_short = refl;
}

-- What readers answer keeps their laws, also for numbers that they do not own.
use Rattle.std.proofs.Common.{◌≡◌, ℕ, ◌≤◌, true, false, cond, List, length, take, Some, None, arith}
use Rattle.fields.specs.Fields.{Fields}
use Rattle.fields.specs.declared.reading.Reading.{Reading}
use Rattle.meaning.specs.Meaning.{read_of}

module _ (fields : Fields) (n : ℕ) (w : List ℕ) (v : Reading) where
  pub used_counted : read_of fields n w ≡ Some v → (1 ≤ v.used) × (v.used ≤ length w)
  unfolding read_of
  used_counted =
      elim (fields.owned n) as (λ t. cond t (fields.reads n w) None ≡ Some v → (1 ≤ v.used) × (v.used ≤ length w))
      [ true ↦ fields.counted n w v | false ↦ λ e. absurd (let z : ◌≡◌ {A = ℕ} 0 1 = cc in omega arith) ]

  pub same_front : (z : List ℕ) → read_of fields n w ≡ Some v → length z ≡ length w → take v.used z ≡ take v.used w → read_of fields n z ≡ Some v
  unfolding read_of
  same_front z =
      elim (fields.owned n) as (λ t. cond t (fields.reads n w) None ≡ Some v → length z ≡ length w → take v.used z ≡ take v.used w → cond t (fields.reads n z) None ≡ Some v)
      [ true ↦ fields.front n w z v | false ↦ λ e l t. e ]

-- The laws of a reader, for the answers of `Readings`.
use Rattle.std.specs.Prelude.{◌≡◌, ℕ, ◌≤◌, true, false, cond, List, length, take, Some, None, ◌==◌, nat_le}
use Rattle.std.proofs.Common.{ap, ◌∙◌, arith}
use Rattle.std.proofs.lemmas.Bool.{cond_both, leb-true, eqb-false}
use Rattle.fields.specs.Fields.{Fields}
use Rattle.fields.specs.Readings.{reading, fixed_reading, raw_reading, either_reads}
use Rattle.fields.specs.declared.reading.Reading.{Reading}

-- a refusal is no reading
none_some : (v : Reading) (P : Type 0) → None ≡ Some v → P
none_some v P e = absurd (let z : ◌≡◌ {A = ℕ} 0 1 = cc in omega arith)

used_is : (x n : ℕ) (v : Reading) → reading x n ≡ Some v → n ≡ v.used
used_is x n v e = let q : ◌≡◌ {A = Reading} (record { value = x; used = n }) v = cc in ap (λ (r : Reading). r.used) q

fixed_used : (k : ℕ) (value : List ℕ → ℕ) (w : List ℕ) (v : Reading) → fixed_reading k value w ≡ Some v → (k ≡ v.used) × (k ≤ length w)
fixed_used k value w v =
    cond_both (nat_le k (length w)) (reading (value (take k w)) k) None (λ o. o ≡ Some v → (k ≡ v.used) × (k ≤ length w))
    (λ t e. (used_is (value (take k w)) k v e, leb-true k (length w) t))
    (λ f e. none_some v ((k ≡ v.used) × (k ≤ length w)) e)

pub fixed_counted : (k : ℕ) (value : List ℕ → ℕ) → 1 ≤ k → (w : List ℕ) (v : Reading) → fixed_reading k value w ≡ Some v → (1 ≤ v.used) × (v.used ≤ length w)
fixed_counted k value h w v e = let u = fixed_used k value w v e in (omega (arith, u.0), omega (arith, u.0, u.1))

pub fixed_front : (k : ℕ) (value : List ℕ → ℕ) (w z : List ℕ) (v : Reading) → fixed_reading k value w ≡ Some v → length z ≡ length w → take v.used z ≡ take v.used w → fixed_reading k value z ≡ Some v
fixed_front k value w z v e n t =
    let u : k ≡ v.used = (fixed_used k value w v e).0 in
    let t' : take k z ≡ take k w = cc in
    let same : fixed_reading k value z ≡ fixed_reading k value w = cc in
    same ∙ e

pub raw_counted : (w : List ℕ) (v : Reading) → raw_reading w ≡ Some v → (1 ≤ v.used) × (v.used ≤ length w)
raw_counted w v =
    cond_both (length w == 0) None (reading (length w) (length w)) (λ o. o ≡ Some v → (1 ≤ v.used) × (v.used ≤ length w))
    (λ t e. none_some v ((1 ≤ v.used) × (v.used ≤ length w)) e)
    (λ f e. let u = used_is (length w) (length w) v e in (omega (arith, eqb-false (length w) 0 f), omega arith))

pub raw_front : (w z : List ℕ) (v : Reading) → raw_reading w ≡ Some v → length z ≡ length w → take v.used z ≡ take v.used w → raw_reading z ≡ Some v
raw_front w z v e n t = let same : raw_reading z ≡ raw_reading w = cc in same ∙ e

pub either_counted : (f g : Fields) (n : ℕ) (w : List ℕ) (v : Reading) → either_reads f g n w ≡ Some v → (1 ≤ v.used) × (v.used ≤ length w)
either_counted f g n w v =
    elim (f.owned n) as (λ t. cond t (f.reads n w) (g.reads n w) ≡ Some v → (1 ≤ v.used) × (v.used ≤ length w))
    [ true ↦ f.counted n w v | false ↦ g.counted n w v ]

pub either_front : (f g : Fields) (n : ℕ) (w z : List ℕ) (v : Reading) → either_reads f g n w ≡ Some v → length z ≡ length w → take v.used z ≡ take v.used w → either_reads f g n z ≡ Some v
either_front f g n w z v =
    elim (f.owned n) as (λ t. cond t (f.reads n w) (g.reads n w) ≡ Some v → length z ≡ length w → take v.used z ≡ take v.used w → cond t (f.reads n z) (g.reads n z) ≡ Some v)
    [ true ↦ f.front n w z v | false ↦ g.front n w z v ]

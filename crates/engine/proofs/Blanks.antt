-- What a derived default makes is blank.
use Rattle.std.proofs.Common.{◌≡◌, ℕ, List, [], ◌∷◌, replicate, refl, arith}
use Rattle.std.specs.Array.{AllOfLen}

abbrev IsZero : ℕ → Type 0
IsZero n = n ≡ 0

pub zeros : (xs : List ℕ) → AllOfLen IsZero xs 8 → xs ≡ replicate 8 0
zeros (a ∷ b ∷ c ∷ d ∷ e ∷ f ∷ g ∷ h ∷ []) all =
    let q = all.at in
    let a0 : a ≡ 0 = q 0 0 (omega arith) in
    let b0 : b ≡ 0 = q 1 0 (omega arith) in
    let c0 : c ≡ 0 = q 2 0 (omega arith) in
    let d0 : d ≡ 0 = q 3 0 (omega arith) in
    let e0 : e ≡ 0 = q 4 0 (omega arith) in
    let f0 : f ≡ 0 = q 5 0 (omega arith) in
    let g0 : g ≡ 0 = q 6 0 (omega arith) in
    let h0 : h ≡ 0 = q 7 0 (omega arith) in
    rw (a0, b0, c0, d0, e0, f0, g0, h0) refl
zeros [] all = absurd (omega (arith, all.long))
zeros (a ∷ []) all = absurd (omega (arith, all.long))
zeros (a ∷ b ∷ []) all = absurd (omega (arith, all.long))
zeros (a ∷ b ∷ c ∷ []) all = absurd (omega (arith, all.long))
zeros (a ∷ b ∷ c ∷ d ∷ []) all = absurd (omega (arith, all.long))
zeros (a ∷ b ∷ c ∷ d ∷ e ∷ []) all = absurd (omega (arith, all.long))
zeros (a ∷ b ∷ c ∷ d ∷ e ∷ f ∷ []) all = absurd (omega (arith, all.long))
zeros (a ∷ b ∷ c ∷ d ∷ e ∷ f ∷ g ∷ []) all = absurd (omega (arith, all.long))
zeros (a ∷ b ∷ c ∷ d ∷ e ∷ f ∷ g ∷ h ∷ i ∷ xs) all = absurd (omega (arith, all.long))

-- A text cut at a separator, in the words of the library.
use Rattle.std.proofs.Common.{◌≡◌, ℕ, suc, ◌+◌, ◌<◌, ◌≤◌, true, false, cond, not, eqb, List, [], ◌∷◌, length, drop, sym, refl, ap, ◌∙◌, arith}
use Rattle.std.specs.List.{position_or_len, before_first, after_first}
use Rattle.std.proofs.lemmas.Bool.{cond_both}
use Rattle.std.proofs.lemmas.List.Sums.{take_while-cons}
use Rattle.script.specs.Pieces.{until, after, trimmed}

drop_past : (n : ℕ) (b : ℕ) (bs : List ℕ) → drop (1 + n) (b ∷ bs) ≡ drop n bs
drop_past n b bs =
    let one_more : 1 + n ≡ suc n = omega arith in
    ap (λ k. drop k (b ∷ bs)) one_more

pub until_is : (s : ℕ) (xs : List ℕ) → until s xs ≡ before_first (λ b. eqb b s) xs
unfolding until
until_is s [] = refl
until_is s (b ∷ bs) =
    let step : cond (eqb b s) [] (b ∷ until s bs) ≡ cond (not (eqb b s)) (b ∷ until s bs) [] = elim (eqb b s) as (λ t. cond t [] (b ∷ until s bs) ≡ cond (not t) (b ∷ until s bs) []) [ true ↦ refl | false ↦ refl ] in
    step ∙ ap (λ z. cond (not (eqb b s)) (b ∷ z) []) (until_is s bs) ∙ sym (take_while-cons (λ x. not (eqb x s)) b bs)

pub after_is : (s : ℕ) (xs : List ℕ) → after s xs ≡ after_first (λ b. eqb b s) xs
unfolding after
after_is s [] = refl
after_is s (b ∷ bs) =
    let n = position_or_len (λ x. eqb x s) bs in
    let more : 1 + n + 1 ≡ 1 + (n + 1) = omega arith in
    let rest : after s bs ≡ drop (1 + n + 1) (b ∷ bs) = after_is s bs ∙ sym (ap (λ k. drop k (b ∷ bs)) more ∙ drop_past (n + 1) b bs) in
    elim (eqb b s) as (λ t. cond t bs (after s bs) ≡ drop (cond (not t) (1 + n) 0 + 1) (b ∷ bs)) [ true ↦ refl | false ↦ rest ]

pub trimmed_is : (xs : List ℕ) → trimmed xs ≡ drop (position_or_len (λ b. not (eqb b 0x20)) xs) xs
unfolding trimmed
trimmed_is [] = refl
trimmed_is (b ∷ bs) =
    let n = position_or_len (λ x. not (eqb x 0x20)) bs in
    let rest : trimmed bs ≡ drop (1 + n) (b ∷ bs) = trimmed_is bs ∙ sym (drop_past n b bs) in
    elim (eqb b 0x20) as (λ t. cond t (trimmed bs) (b ∷ bs) ≡ drop (cond (not (not t)) (1 + n) 0) (b ∷ bs)) [ true ↦ rest | false ↦ refl ]

after_within : (s : ℕ) (xs : List ℕ) → length (after s xs) ≤ length xs
unfolding after
after_within s [] = omega arith
after_within s (b ∷ bs) =
    cond_both (eqb b s) bs (after s bs) (λ z. length z ≤ length (b ∷ bs)) (λ t. omega arith) (λ f. omega (arith, after_within s bs))

-- a text that is not empty gets shorter with each line
pub after_shorter : (s : ℕ) (xs : List ℕ) → 0 < length xs → length (after s xs) < length xs
unfolding after
after_shorter s [] h = absurd (omega arith)
after_shorter s (b ∷ bs) h =
    cond_both (eqb b s) bs (after s bs) (λ z. length z < length (b ∷ bs)) (λ t. omega arith) (λ f. omega (arith, after_within s bs))

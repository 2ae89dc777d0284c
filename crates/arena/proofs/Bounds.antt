-- Laws of lists that stop growing at a bound.
use Rattle.std.proofs.Common.{◌≡◌, ℕ, zero, suc, ◌+◌, ◌-◌, ◌<◌, ◌≤◌, min, List, [], ◌∷◌, ◌++◌, map, length, take, sym, refl, ap, ◌∙◌, append_assoc, append-nil, arith, length-append, length-take}
use lib.Seq.{take-append_seam}
use Rattle.std.proofs.lemmas.List.{take_all, map-append, length-map}
use Rattle.arena.specs.Bounded.{upto}

module _ {X : Type 0} where
  take_none : (n : ℕ) → take {A = X} n [] ≡ []
  take_none zero = refl
  take_none (suc n) = refl

  -- there is room
  pub fits : (n : ℕ) (xs ys : List X) → length xs + length ys ≤ n → upto n xs ys ≡ xs ++ ys
  fits n xs ys h = ap (λ l. xs ++ l) (take_all (n - length xs) ys (omega arith))

  -- there is none
  pub full : (n : ℕ) (xs ys : List X) → length xs ≡ n → upto n xs ys ≡ xs
  full n xs ys h =
      let none : n - length xs ≡ 0 = omega arith in
      ap (λ k. xs ++ take k ys) none ∙ append-nil xs

  -- growing twice is growing once by both
  pub twice : (n : ℕ) (xs ys zs : List X) → upto n (upto n xs ys) zs ≡ upto n xs (ys ++ zs)
  twice n xs ys zs =
      let left : n - length (xs ++ take (n - length xs) ys) ≡ n - length xs - length (take (n - length xs) ys) = simp length-append (omega arith) in
      ap (λ k. (xs ++ take (n - length xs) ys) ++ take k zs) left ∙ append_assoc xs (take (n - length xs) ys) _ ∙ ap (λ l. xs ++ l) (go (n - length xs) ys)
    where
      go : (m : ℕ) (vs : List X) → take m vs ++ take (m - length (take m vs)) zs ≡ take m (vs ++ zs)
      go zero vs = refl
      go (suc m) [] = let all : suc m - 0 ≡ suc m = omega arith in ap (λ k. take k zs) all
      go (suc m) (v ∷ vs) =
          let same : suc m - length (v ∷ take m vs) ≡ m - length (take m vs) = omega arith in
          ap (λ l. v ∷ l) (ap (λ k. take m vs ++ take k zs) same ∙ go m vs)

  pub by_none : (n : ℕ) (xs : List X) → upto n xs [] ≡ xs
  by_none n xs = ap (λ l. xs ++ l) (take_none (n - length xs)) ∙ append-nil xs

  -- what stood before still stands
  pub cut_back : (n : ℕ) (xs ys : List X) → take (length xs) (upto n xs ys) ≡ xs
  cut_back n xs ys = take-append_seam xs (take (n - length xs) ys)

  -- short of the bound nothing was dropped
  pub whole : (n : ℕ) (xs ys : List X) → length (upto n xs ys) < n → upto n xs ys ≡ xs ++ ys
  whole n xs ys h =
      let size = length-append xs (take (n - length xs) ys) in
      ap (λ l. xs ++ l) (go (n - length xs) ys (omega arith))
    where
      go : (m : ℕ) (l : List X) → length (take m l) < m → take m l ≡ l
      go zero l h = absurd (omega arith)
      go (suc m) [] h = refl
      go (suc m) (x ∷ l) h = ap (λ r. x ∷ r) (go m l (omega arith))

  -- how many items stand then
  pub size : (n : ℕ) (xs ys : List X) → length (upto n xs ys) ≡ length xs + min (n - length xs) (length ys)
  size n xs ys = length-append xs (take (n - length xs) ys) ∙ ap (λ k. length xs + k) (length-take (n - length xs) ys)

-- a view of each item
pub seen : {X Y : Type 0} (f : X → Y) (n : ℕ) (xs ys : List X) → map f (upto n xs ys) ≡ upto n (map f xs) (map f ys)
seen f n xs ys =
    let same = length-map xs f in
    map-append f xs (take (n - length xs) ys) ∙ ap (λ l. map f xs ++ l) (go (n - length xs) ys ∙ ap (λ k. take (n - k) (map f ys)) (sym same))
  where
    go : (m : ℕ) (l : List _) → map f (take m l) ≡ take m (map f l)
    go zero l = refl
    go (suc m) [] = refl
    go (suc m) (x ∷ l) = ap (λ r. f x ∷ r) (go m l)

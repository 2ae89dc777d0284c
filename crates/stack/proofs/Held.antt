-- The entries of a stack as its slice holds them.
use Rattle.std.proofs.Common.{◌≡◌, ℕ, ◌+◌, ◌-◌, ◌<◌, ◌≤◌, List, [], ◌∷◌, reverse, length, get_or, take, set, ap, ◌∙◌, arith}
use Rattle.std.proofs.lemmas.List.{length-reverse, length-take, take_more_set, take_more, reverse-append}

module _ {X : Type 0} where
  -- as many are held as slots are counted
  pub held_length : (xs : List X) (n : ℕ) → n ≤ length xs → length (reverse (take n xs)) ≡ n
  held_length xs n h = simp (length-reverse, length-take) (omega arith)

  -- one slot more, written: one entry more at the front
  pub held_push : (xs : List X) (n : ℕ) (x : X) → n < length xs → reverse (take (n + 1) (set xs n x)) ≡ x ∷ reverse (take n xs)
  held_push xs n x h = ap reverse (take_more_set xs n x h) ∙ reverse-append (take n xs) (x ∷ [])

  -- the front entry stands in the last slot that is counted
  pub held_pop : (xs : List X) (n : ℕ) (d : X) → 0 < n → n ≤ length xs → reverse (take n xs) ≡ get_or xs (n - 1) d ∷ reverse (take (n - 1) xs)
  held_pop xs n d p h =
      let e : n ≡ (n - 1) + 1 = omega arith in
      let i : n - 1 < length xs = omega arith in
      ap (λ m. reverse (take m xs)) e ∙ ap reverse (take_more xs (n - 1) d i) ∙ reverse-append (take (n - 1) xs) (get_or xs (n - 1) d ∷ [])

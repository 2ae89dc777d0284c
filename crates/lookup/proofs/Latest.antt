-- The latest place of a name.
use Rattle.std.proofs.Common.{◌≡◌, ℕ, zero, suc, ◌<◌, true, false, List, [], ◌∷◌, map, length, get_or, Some, None, Option, IfSome, IfNone, sym, refl, arith}
use Rattle.names.specs.Stored.{is_name}
use Rattle.lookup.specs.Lookup.{latest_in}

module _ {X : Type 0} (name : X → Option (List ℕ)) (w : List ℕ) where
  pub latest_none : (xs : List X) → ((k : ℕ) (d : X) → k < length xs → is_name (name (get_or xs k d)) w ≡ false) → latest_in (map name xs) w ≡ None
  latest_none [] h = refl
  latest_none (x ∷ xs) h =
      let rest : latest_in (map name xs) w ≡ None = latest_none xs (λ k d b. h (suc k) d (omega arith)) in
      let first : is_name (name x) w ≡ false = h 0 x (omega arith) in
      simp (rest, first)

  pub latest_some : (xs : List X) (i : ℕ) → i < length xs → ((d : X) → is_name (name (get_or xs i d)) w ≡ true) → ((k : ℕ) (d : X) → i < k → k < length xs → is_name (name (get_or xs k d)) w ≡ false) → latest_in (map name xs) w ≡ Some i
  latest_some [] i b h g = absurd (omega arith)
  latest_some (x ∷ xs) zero b h g =
      let rest : latest_in (map name xs) w ≡ None = latest_none xs (λ k d b. g (suc k) d (omega arith) (omega arith)) in
      let first : is_name (name x) w ≡ true = h x in
      simp (rest, first)
  latest_some (x ∷ xs) (suc i) b h g =
      let rest : latest_in (map name xs) w ≡ Some i = latest_some xs i (omega arith) h (λ k d b c. g (suc k) d (omega arith) (omega arith)) in
      simp rest

  -- what a search from the end tells
  pub latest_is : (xs : List X) (r : Option ℕ) → IfSome r (λ i. i < length xs) → IfSome r (λ i. (d : X) → is_name (name (get_or xs i d)) w ≡ true)
      → IfSome r (λ i. (k : ℕ) (d : X) → i < k → k < length xs → is_name (name (get_or xs k d)) w ≡ false)
      → IfNone r ((k : ℕ) (d : X) → k < length xs → is_name (name (get_or xs k d)) w ≡ false) → r ≡ latest_in (map name xs) w
  latest_is xs None b h g n = sym (latest_none xs n)
  latest_is xs (Some i) b h g n = sym (latest_some xs i b h g)

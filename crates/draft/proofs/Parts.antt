-- How far the parts of tables reach that grow.
use Rattle.std.proofs.Common.{◌≡◌, ℕ, ◌≤◌, List, [], ◌∷◌, ◌++◌, map, refl, ap, ◌∙◌, arith}
use Rattle.draft.specs.Reach.{most}

-- the end of the part that was appended, where nothing was dropped
pub most_append : {X : Type 0} (f : X → ℕ) (xs ys : List X) (n : ℕ) → most f xs ≤ n → most f ys ≤ n → most f (xs ++ ys) ≤ n
most_append f [] ys n h k = k
most_append f (x ∷ xs) ys n h k = let r = most_append f xs ys n (omega arith) k in omega arith

-- what is told of each item by parts that reach no further than m stays
pub map_kept : {X Y : Type 0} (f g : X → Y) (end : X → ℕ) (m : ℕ) → ((x : X) → end x ≤ m → f x ≡ g x) → (xs : List X) → most end xs ≤ m → map f xs ≡ map g xs
map_kept f g end m same [] h = refl
map_kept f g end m same (x ∷ xs) h = ap (λ y. y ∷ map f xs) (same x (omega arith)) ∙ ap (λ l. g x ∷ l) (map_kept f g end m same xs (omega arith))

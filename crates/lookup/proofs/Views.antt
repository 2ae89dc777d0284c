-- Searches in a list of views.
use Rattle.std.proofs.Common.{◌≡◌, Bool, ◌||◌, List, [], ◌∷◌, map, refl, ap}
use Rattle.std.proofs.lemmas.List.{length-map}
use Rattle.std.specs.List.{list_any, position, position_or_len}

module _ {X Y : Type 0} (p : Y → Bool) (view : X → Y) where
  pub any_seen : (xs : List X) → list_any p (map view xs) ≡ list_any (λ x. p (view x)) xs
  any_seen [] = refl
  any_seen (x ∷ xs) = ap (λ b. p (view x) || b) (any_seen xs)

  front_seen : (xs : List X) → position_or_len p (map view xs) ≡ position_or_len (λ x. p (view x)) xs
  front_seen [] = refl
  front_seen (x ∷ xs) = simp (front_seen xs)

  pub position_seen : (xs : List X) → position p (map view xs) ≡ position (λ x. p (view x)) xs
  position_seen xs = simp (front_seen xs, length-map xs view)

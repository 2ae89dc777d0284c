-- Stored terms and rules have the names of the trees that they show.
use Rattle.std.proofs.Common.{◌≡◌, ℕ, List, [], ◌∷◌, map, refl, ap, ◌∙◌}
use Rattle.code.specs.Pieces.{Piece}
use Rattle.term.specs.Tables.{Tables, Entry}
use Rattle.term.specs.Tables as entry
use Rattle.draft.specs.Shown.{shown_term, shown_rule, alternatives_of, rules_of}
use Rattle.lookup.specs.Lookup.{called, sets, rule_names}
use Rattle.names.specs.Stored.{head_names, called_entry, sets_entry}

pub called_agrees : (code : List Piece) (bytes : List ℕ) (x : Entry) → called (shown_term code bytes x) ≡ called_entry x
called_agrees code bytes (entry.literal s e) = refl
called_agrees code bytes (entry.call w e) = refl
called_agrees code bytes (entry.attribute p w s) = refl
called_agrees code bytes (entry.guard s) = refl

pub sets_agrees : (code : List Piece) (bytes : List ℕ) (x : Entry) → sets (shown_term code bytes x) ≡ sets_entry x
sets_agrees code bytes (entry.literal s e) = refl
sets_agrees code bytes (entry.call w e) = refl
sets_agrees code bytes (entry.attribute p w s) = refl
sets_agrees code bytes (entry.guard s) = refl

pub map_agrees : {X Y Z : Type 0} (f : Y → Z) (g : X → Y) (h : X → Z) → ((x : X) → f (g x) ≡ h x) → (xs : List X) → map f (map g xs) ≡ map h xs
map_agrees f g h e [] = refl
map_agrees f g h e (x ∷ xs) = ap (λ y. y ∷ map f (map g xs)) (e x) ∙ ap (λ l. h x ∷ l) (map_agrees f g h e xs)

pub all_called : (code : List Piece) (bytes : List ℕ) (xs : List Entry) → map called (map (shown_term code bytes) xs) ≡ map called_entry xs
all_called code bytes xs = map_agrees called (shown_term code bytes) called_entry (called_agrees code bytes) xs

pub all_set : (code : List Piece) (bytes : List ℕ) (xs : List Entry) → map sets (map (shown_term code bytes) xs) ≡ map sets_entry xs
all_set code bytes xs = map_agrees sets (shown_term code bytes) sets_entry (sets_agrees code bytes) xs

pub names_agree : (T : Tables) → rule_names (rules_of T) ≡ head_names T.rules
names_agree T = map_agrees (λ r. r.name) (shown_rule (alternatives_of T)) (λ h. h.name) (λ h. refl) T.rules

-- The names that stored rules and terms have.
use Rattle.std.specs.Prelude.{ℕ, Bool, false, List, map, Some, None, Option}
use Rattle.std.specs.Str.{bytes_eq}
use Rattle.term.specs.Tables.{Head, Entry}
use Rattle.term.specs.Tables as entry

abbrev pub head_names : List Head → List (List ℕ)
head_names hs = map (λ h. h.name) hs

-- the name that a stored term calls
abbrev pub called_entry : Entry → Option (List ℕ)
called_entry (entry.call w e) = Some w
called_entry _ = None

-- the name of the attribute that a stored term sets
abbrev pub sets_entry : Entry → Option (List ℕ)
sets_entry (entry.attribute p w s) = Some w
sets_entry _ = None

-- whether there is a name, and it is w
abbrev pub is_name : Option (List ℕ) → List ℕ → Bool
is_name None w = false
is_name (Some v) w = bytes_eq v w

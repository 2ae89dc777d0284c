-- The names of a table, and the rule's slots as far as a table goes.
use Rattle.std.specs.Prelude.{ℕ, List, map, take, Option}
use Rattle.code.specs.Names.{letters}
use Rattle.lookup.specs.Lookup.{noted}
use Rattle.slots.specs.declared.table.Slots.{Slots}

abbrev pub listed : Slots → List (List ℕ)
listed s = map letters (take s.len s.names)

-- a name more, nine at most
abbrev pub kept : List (List ℕ) → Option (List ℕ) → List (List ℕ)
kept seen v = take 9 (noted seen v)

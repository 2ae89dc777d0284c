-- Names that may not stand where they do.
use Rattle.std.specs.Prelude.{ℕ, Bool, ◌||◌, List, codes}
use Rattle.std.specs.Str.{bytes_eq}
use Rattle.term.specs.Tables.{Head, Entry}
use Rattle.names.specs.Stored.{is_name, sets_entry}

abbrev pub rule_is : List ℕ → Head → Bool
rule_is w h = bytes_eq h.name w

abbrev pub attribute_is : List ℕ → Entry → Bool
attribute_is w x = is_name (sets_entry x) w

-- no attribute is called like an end of a call
abbrev pub reserved : List ℕ → Bool
reserved w = bytes_eq w (codes "start") || bytes_eq w (codes "end")

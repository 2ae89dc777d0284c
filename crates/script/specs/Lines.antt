-- How the lines of a text come one by one.
use Rattle.std.specs.Prelude.{◌≡◌, ℕ, ◌<◌, List, [], length, Some, None, Option}
use Rattle.script.specs.Pieces.{until, after}
use Rattle.script.specs.declared.piece.Cut.{Cut}

-- the first line of a text that is not empty comes, with what follows it, and that is left
abbrev pub TakesLine : List ℕ → Option Cut → List ℕ → Type 0
TakesLine text (Some c) left = (0 < length text) × (c.piece.now ≡ until 0x0A text) × (c.rest.now ≡ after 0x0A text) × (left ≡ c.rest.now)
TakesLine text None left = (text ≡ []) × (left ≡ [])

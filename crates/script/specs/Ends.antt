-- The two numbers of a window.
use Rattle.std.specs.Prelude.{ℕ, Some, None, Option}
use Rattle.input.specs.declared.window.Window.{Window}

abbrev pub ends_of : Option Window → Option (ℕ × ℕ)
ends_of (Some w) = Some (w.left, w.right)
ends_of None = None

-- What held bytes show.
use Rattle.std.specs.Prelude.{ℕ, List, Some, None, Option}
use Rattle.input.specs.Bytes.{Shown, slice_shown, window_shown}
use Rattle.input.specs.declared.window.Window.{Window}

-- the bytes as a slice, or a window of that slice
abbrev pub source_shown : List ℕ → Option Window → Shown
source_shown bytes None = slice_shown bytes
source_shown bytes (Some w) = window_shown (slice_shown bytes) w.left w.right

-- Windows of a list of bytes.
use Rattle.std.specs.Prelude.{ℕ, List}
use Rattle.input.specs.Bytes.{window_of}
use Rattle.input.specs.declared.window.Window.{Window}

-- a window's left end twice: what stands for nothing used, and for nothing read
abbrev pub left_end : Window → Window
left_end w = record { left = w.left; right = w.left }

-- the bytes in a window
unfoldable pub bytes_in : List ℕ → Window → List ℕ
bytes_in bytes w = window_of bytes w.left w.right

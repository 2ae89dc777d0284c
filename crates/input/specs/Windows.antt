-- Windows of a list of bytes.
use Rattle.std.specs.Prelude.{ℕ, ◌-◌, min, max, cond, nat_le}
use Rattle.input.specs.declared.window.Window.{Window}

-- how many places a window covers
abbrev pub size : Window → ℕ
size w = w.right - w.left

-- the smallest window over two; an empty one counts for nothing
unfoldable pub cover : Window → Window → Window
cover v w =
    cond (nat_le w.right w.left) v
    (cond (nat_le v.right v.left) w
    (record { left = min v.left w.left; right = max v.right w.right }))

-- Places of the input, from places that count from the left end of a window.
use Rattle.std.specs.Prelude.{ℕ, ◌+◌, ◌<◌}
use Rattle.meaning.specs.declared.node.Node.{Node}
use Rattle.input.specs.declared.window.Window.{Window}

abbrev pub placed : (left : ℕ) → Window → Window
placed left w = record { left = w.left + left; right = w.right + left }

abbrev pub absolute : (left : ℕ) → Node → Node
absolute left n = record {
  number = n.number;
  alternative = n.alternative;
  parent = n.parent;
  term = n.term;
  window = placed left n.window;
  used = placed left n.used;
  slots = n.slots;
}

-- places that stay numbers when the left end is added
abbrev pub FitAt : (left : ℕ) → Window → Type 0
FitAt left w = (w.left + left < 18446744073709551616) × (w.right + left < 18446744073709551616)

abbrev pub NodeFits : (left : ℕ) → Node → Type 0
NodeFits left n = FitAt left n.window × FitAt left n.used

use Rattle.std.proofs.Common.{◌≡◌, length, vec_items}
use Rattle.script.specs.Hex.{hex_bytes}
use Rattle.script.proofs.Pairs.{joined}
use Rattle.script.proofs.hex.decode_hex.Given as goal

abbrev pub invariant-loop-left : goal.invariant-loop-left
invariant-loop-left l = hex_bytes l.text ≡ joined (vec_items l.out) (hex_bytes l.left)

abbrev pub decreases-loop-left : goal.decreases-loop-left
decreases-loop-left l = length l.left

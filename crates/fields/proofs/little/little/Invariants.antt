use Rattle.std.proofs.Common.{◌≡◌, ◌-◌, ◌^◌, ◌<◌, take, drop}
use Rattle.fields.specs.Readings.{little_endian}
use Rattle.fields.proofs.little.little.Given as goal

abbrev pub invariant-loop-i : goal.invariant-loop-i
invariant-loop-i g l =
    (l.value ≡ little_endian (drop l.i (take l.width (drop l.left (g.I.Input.shown l.input).bytes)))) × (l.value < 256 ^ (l.width - l.i))

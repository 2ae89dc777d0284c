use Rattle.std.proofs.Common.{◌≡◌, length}
use Rattle.input.specs.Benches.{errata}
use Rattle.replay.proofs.Replaying.{Going}
use Rattle.replay.proofs.replay.Given as goal

abbrev pub invariant-loop-i : goal.invariant-loop-i
invariant-loop-i g l =
    (l.bench.below ≡ l.initial.bench.below)
    × Going (length (g.I.Input.shown l.initial.bench.below).bytes) l.calls l.initial.answers l.i (errata l.bench) l.answers

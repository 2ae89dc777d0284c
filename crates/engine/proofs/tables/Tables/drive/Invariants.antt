use Rattle.std.proofs.Common.{◌≡◌}
use Rattle.machine.specs.Machine.{next_means}
use Rattle.machine.specs.Work.{to_do}
use Rattle.engine.specs.Steps.{subject, stands_at, SoundAt, Kept}
use Rattle.engine.proofs.tables.Tables.drive.Given as goal

abbrev pub invariant-loop-self : goal.invariant-loop-self
invariant-loop-self g l =
    let q = subject g.I.Input.shown g.R.FieldReader.meaning l.setting in
    SoundAt q l.self l.mode
    × (next_means q.read q.grammar l.initial.self.limits q.bytes (stands_at q.grammar l.self l.mode) ≡ next_means q.read q.grammar l.initial.self.limits q.bytes (stands_at q.grammar l.initial.self l.initial.mode))
    × Kept l.initial.self l.self

abbrev pub decreases-loop-self : goal.decreases-loop-self
decreases-loop-self g l =
    let q = subject g.I.Input.shown g.R.FieldReader.meaning l.setting in
    to_do q.grammar l.self.limits (stands_at q.grammar l.self l.mode)

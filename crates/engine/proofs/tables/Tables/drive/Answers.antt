use Rattle.std.proofs.Common.{sym, ap, ◌∙◌}
use Rattle.machine.specs.Machine.Next.{over}
use Rattle.engine.specs.Steps.{subject}
use Rattle.engine.proofs.Turning.{falls, sound_on, means_on, kept_on, ended_at}
use Rattle.engine.proofs.tables.Tables.drive.Goals as goal

pub loop-self-smaller : goal.loop-self-smaller
loop-self-smaller g c =
    let q = subject g.I.Input.shown g.R.FieldReader.meaning c.args.setting.now in
    let p = c.step-mode.ensures in
    falls q c.loop-self.self _ c.loop-self.mode _ p.goes p.kept (sym c.goes_on.ensures ∙ c.loop-self-test.true)

pub loop-self-preserved : goal.loop-self-preserved
loop-self-preserved g c =
    let q = subject g.I.Input.shown g.R.FieldReader.meaning c.args.setting.now in
    let p = c.step-mode.ensures in
    let t = c.loop-self.self in
    let m = c.loop-self.mode in
    let kept = c.loop-self.invariant.2 in
    (sound_on q t _ m _ p.goes p.kept, means_on q t _ m _ p.goes p.kept _ kept ∙ c.loop-self.invariant.1, kept_on q t _ m _ p.goes p.kept _ kept)

pub returns-clause-ends : goal.returns-clause-ends
returns-clause-ends g c =
    let q = subject g.I.Input.shown g.R.FieldReader.meaning c.args.setting.now in
    ended_at q c.args.self.now c.loop-self.self c.loop-self.mode c.loop-self.invariant.2 (sym c.goes_on.ensures ∙ c.loop-self-test.false) ∙ ap over c.loop-self.invariant.1

use Rattle.engine.proofs.Moving.{back, out}
use Rattle.engine.proofs.tables.Tables.give_back.Goals as goal

pub returns-in-Ok-clause-goes : goal.returns-in-Ok-clause-goes
returns-in-Ok-clause-goes c = λ rules read bytes sound.
    let p = c.in-Ok.ensures in
    back read rules _ bytes _ _ _ _ _ _ c.in-Ok.f _ _ c.requires p.answer p.held c.join.ensures sound

pub returns-in-Err-clause-goes : goal.returns-in-Err-clause-goes
returns-in-Err-clause-goes c = λ rules read bytes sound.
    let p = c.in-Err.ensures in
    out read rules _ bytes _ _ _ _ _ _ _ p.answer p.held sound

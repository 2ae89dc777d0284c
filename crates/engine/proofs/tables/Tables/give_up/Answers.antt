use Rattle.engine.proofs.Moving.{up, none_up, small_top}
use Rattle.engine.proofs.Standing.{moves_to}
use Rattle.engine.proofs.tables.Tables.give_up.Goals as goal

pub next_try-requires : goal.next_try-requires
next_try-requires c = small_top _ c.in-Ok.f c.in-Ok.ensures.answer c.requires

pub returns-in-Ok-clause-goes : goal.returns-in-Ok-clause-goes
returns-in-Ok-clause-goes c = λ rules read bytes sound.
    let p = c.in-Ok.ensures in
    moves_to read rules _ bytes _ _ _ _ _ _ _ c.next_try.ensures (up read rules _ bytes _ _ _ _ _ _ c.in-Ok.f p.answer p.held sound)

pub returns-in-Err-clause-goes : goal.returns-in-Err-clause-goes
returns-in-Err-clause-goes c = λ rules read bytes sound.
    let p = c.in-Err.ensures in
    none_up read rules _ bytes _ _ _ _ _ _ _ p.answer p.held sound

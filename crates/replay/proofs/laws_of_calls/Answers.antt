use Rattle.replay.proofs.Laws.{call_by_call, undo_takes_back}
use Rattle.replay.proofs.laws_of_calls.Goals as goal

pub returns : goal.returns
returns c = record { more = call_by_call; back = undo_takes_back }

use Rattle.machine.proofs.Machine.{steps_keep, steps_fall, computes}
use Rattle.machine.proofs.machine_computes.Goals as goal

pub returns : goal.returns
returns c = record { keep = steps_keep; fall = steps_fall; computes = computes }

use Rattle.form_laws.proofs.Texts.{refusals_are_first}
use Rattle.form_laws.proofs.refusals_are_first.Goals as goal

pub returns : goal.returns
returns c = refusals_are_first

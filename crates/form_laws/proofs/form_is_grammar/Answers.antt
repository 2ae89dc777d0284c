use Rattle.form_laws.proofs.Texts.{form_is_grammar}
use Rattle.form_laws.proofs.form_is_grammar.Goals as goal

pub returns : goal.returns
returns c = form_is_grammar

use Rattle.fields.proofs.Tables.{table_agrees}
use Rattle.fields.proofs.laws.table_agrees.Goals as goal

pub returns : goal.returns
returns c = table_agrees

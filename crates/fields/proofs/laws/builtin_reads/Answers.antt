use Rattle.fields.proofs.PlainReads.{builtin_reads}
use Rattle.fields.proofs.laws.builtin_reads.Goals as goal

pub returns : goal.returns
returns c = builtin_reads

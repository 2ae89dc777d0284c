use Rattle.std.proofs.Common.{◌≡◌, ◌-◌, length}
use Rattle.std.specs.Iterator.Adapters.{enumerate_source, enumerate_count}
use Rattle.script.proofs.Blocks.{Going}
use Rattle.script.proofs.block.cut_block.Given as goal

abbrev pub invariant-loop-count : goal.invariant-loop-count
invariant-loop-count l =
    (goal.iterator-loop-count).can_next l.count-iterator ×
    (goal.iterator-loop-count).is_finite l.count-iterator ×
    (l.len ≡ length l.script - length (enumerate_source l.count-iterator).rest.now) ×
    Going l.script (enumerate_source l.count-iterator).rest.now (enumerate_count l.count-iterator)

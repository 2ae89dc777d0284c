use Rattle.std.proofs.Common.{◌≡◌, ◌+◌, ◌≤◌, length}
use Rattle.strings.specs.Decoding.{decode, decoded_length}
use Rattle.strings.proofs.Rests.{counted}
use Rattle.strings.proofs.decoded_len.Given as goal

abbrev pub invariant-loop-rest : goal.invariant-loop-rest
invariant-loop-rest l = (l.n + length l.rest ≤ length l.body) × (decoded_length (decode l.body) ≡ counted l.n (decode l.rest))

abbrev pub decreases-loop-rest : goal.decreases-loop-rest
decreases-loop-rest l = length l.rest

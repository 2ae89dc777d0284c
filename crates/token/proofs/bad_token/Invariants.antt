use Rattle.std.proofs.Common.{◌≡◌, ◌-◌, ◌≤◌, length, drop}
use Rattle.token.specs.Tokens.{first_bad, bad_token, lexed}
use Rattle.token.proofs.bad_token.Given as goal

abbrev pub invariant-loop-to : goal.invariant-loop-to
invariant-loop-to l = (l.at ≤ length l.text) × (bad_token l.text ≡ first_bad (lexed l.at (drop l.at l.text)))

abbrev pub decreases-loop-to : goal.decreases-loop-to
decreases-loop-to l = length l.text - l.at

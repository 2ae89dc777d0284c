use Rattle.std.proofs.Common.{◌≡◌, ◌+◌, ◌-◌, ◌*◌, ◌≤◌, length, drop}
use Rattle.token.specs.Tokens.{lexed, resumed, Standing, busy}
use Rattle.token.proofs.scan.scan.Given as goal

abbrev pub invariant-loop-next : goal.invariant-loop-next
invariant-loop-next l = Standing l.text l.state l.at × (l.from + busy l.state ≤ l.at) × (lexed l.from (drop l.from l.text) ≡ resumed l.text l.state l.at)

abbrev pub decreases-loop-next : goal.decreases-loop-next
decreases-loop-next l = 2 * (length l.text - l.at) + busy l.state

use Rattle.std.proofs.Common.{◌≡◌, drop}
use Rattle.stack.specs.Runs.{standing, after_calls}
use Rattle.stack.proofs.Stack.make_all.Given as goal

-- the calls that are left come to what all of them come to
abbrev pub invariant-loop-call : goal.invariant-loop-call
invariant-loop-call g l =
    (after_calls (standing l.self) (drop l.call-index l.calls) ≡ after_calls (standing l.initial.self) l.calls)
    × (l.self.slots.ghost_name ≡ l.initial.self.slots.ghost_name)

use Rattle.std.proofs.Common.{◌≡◌, ◌≤◌, [], length, drop}
use Rattle.input.specs.declared.window.Window.{Window}
use Rattle.stack.specs.Stacks.{held, room}
use Rattle.evaluate.specs.Reached.{progress}
use Rattle.evaluate.proofs.Worth.{worth}
use Rattle.evaluate.proofs.Reached.value.Given as goal

abbrev pub invariant-loop-code : goal.invariant-loop-code
invariant-loop-code l =
    (l.stack.slots.ghost_name ≡ l.initial.stack.slots.ghost_name)
    × (length (room l.stack) ≡ length (room l.initial.stack))
    × (length (held l.stack) ≤ l.code-index)
    × ((used : Window) → worth l.self.start (progress l.self used) (drop l.code-index l.codes) (held l.stack) ≡ worth l.self.start (progress l.self used) l.codes [])

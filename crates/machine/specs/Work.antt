-- How much a machine has left to do: a number that falls with each step.
use Rattle.std.specs.Prelude.{ℕ, suc, ◌+◌, ◌-◌, ◌*◌, ◌≤◌, List, [], ◌∷◌, length}
use Rattle.meaning.specs.Syntax.{Alternative, Grammar}
use Rattle.meaning.specs.declared.run.Limits.{Limits}
use Rattle.meaning.specs.declared.run.State.{State}
use Rattle.machine.specs.Machine.{Frame, Mode, Next}
use Rattle.machine.specs.Machine.Mode.{begins, runs, tries, returns, gives_up}
use Rattle.machine.specs.Machine.Next.{on, over}

-- steps for some alternatives, from the first on
unfoldable pub alts : List Alternative → ℕ
alts [] = 1
alts (a ∷ more) = 2 * length a + alts more + 2

-- for the frames
unfoldable pub stack_work : List Frame → ℕ
stack_work [] = 0
stack_work (f ∷ fs) = 2 * length f.todo + alts f.more + 2 + stack_work fs

-- for what comes next
unfoldable pub mode_work : Mode → ℕ
mode_work (begins c) = 0
mode_work (runs f) = 2 * length f.todo + alts f.more + 1
mode_work (tries c i k more) = alts more + 1
mode_work (returns t) = 1
mode_work gives_up = 1

-- more than any rule takes
unfoldable pub width : Grammar → ℕ
width [] = 3
width (r ∷ rs) = alts r + 2 + width rs

-- each start that is still allowed may take as many steps as the widest rule
unfoldable pub work : (width : ℕ) → Limits → List Frame → State → Mode → ℕ
work w limits fs s m = (limits.budget - s.starts) * w + stack_work fs + mode_work m

unfoldable pub to_do : Grammar → Limits → Next → ℕ
to_do grammar limits (on x) = suc (work (width grammar) limits x.stack x.state x.mode)
to_do grammar limits (over r) = 0

-- no more starts were made than the budget allows
unfoldable pub InBudget : Limits → Next → Type 0
InBudget limits (on x) = x.state.starts ≤ limits.budget
InBudget limits (over r) = Unit {0}

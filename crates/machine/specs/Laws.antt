-- The machine computes the meaning.
use Rattle.std.specs.Prelude.{◌≡◌, ℕ, ◌<◌, List, [], length}
use Rattle.fields.specs.Fields.{Fields}
use Rattle.meaning.specs.Syntax.{Grammar}
use Rattle.meaning.specs.Meaning.{Replies, Outcome, outcome, read_of, root, at_first, parse}
use Rattle.meaning.specs.declared.run.Limits.{Limits}
use Rattle.machine.specs.Machine.{Config, Next, go, next_means, next_step, iterate}
use Rattle.machine.specs.Machine.Next.{on, over}
use Rattle.machine.specs.Machine.Mode.{begins}
use Rattle.machine.specs.Work.{to_do, InBudget}

-- a step keeps what the machine still comes to
abbrev pub StepsKeep : Type 0
StepsKeep =
    (read : Replies) (grammar : Grammar) (limits : Limits) (bytes : List ℕ) (x : Next)
    → next_means read grammar limits bytes (next_step read grammar limits bytes x) ≡ next_means read grammar limits bytes x

-- within the budget a step leaves less to do, and keeps to the budget
abbrev pub StepsFall : Type 0
StepsFall =
    (read : Replies) (grammar : Grammar) (limits : Limits) (bytes : List ℕ) (x : Config)
    → InBudget limits (on x)
    → (to_do grammar limits (next_step read grammar limits bytes (on x)) < to_do grammar limits (on x)) × InBudget limits (next_step read grammar limits bytes (on x))

-- a machine that is to begin a rule on all of some bytes
abbrev pub begun : Limits → (rule n : ℕ) → Next
begun limits rule n = go limits.frames [] at_first (begins (root rule n))

-- what an ended machine has come to
unfoldable pub EndsAs : Next → Outcome → Type 0
EndsAs (on x) o = ⊥
EndsAs (over r) o = outcome r ≡ o

-- after at most so many steps as it has to do, the machine has ended with what the parse means
abbrev pub Computes : Type 0
Computes =
    (fields : Fields) (grammar : Grammar) (limits : Limits) (rule : ℕ) (bytes : List ℕ)
    → EndsAs (iterate (read_of fields) grammar limits bytes (to_do grammar limits (begun limits rule (length bytes))) (begun limits rule (length bytes)))
    (parse fields grammar limits rule bytes)

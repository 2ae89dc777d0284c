-- Lists of calls on a stack, and what they leave.
use Rattle.std.specs.Prelude.{◌≡◌, ℕ, ◌+◌, ◌-◌, ◌<◌, List, [], ◌∷◌, drop, Ok, Err, Result}
use Rattle.stack.specs.declared.refusal.StackRefusal.{StackRefusal}
use Rattle.stack.specs.declared.refusal.StackRefusal.TheVariants.{Empty}
use Rattle.stack.specs.declared.runs.StackCall.{StackCall}
use Rattle.stack.specs.declared.runs.StackCall.TheVariants.{Push, Pop}
use Rattle.stack.specs.declared.Stack.{Stack}
use Rattle.stack.specs.Stacks.{room, held, push_answer, held_after_push, room_after_push}

-- the lent slice, and the entries held, the latest first
pub record Standing (X : Type 0) : Type 0 where
  pub slots : List X
  pub held : List X

-- what stands in a stack
abbrev pub standing : {X : Type 0} → Stack X → Standing X
standing s = record { slots = room s; held = held s }

-- whether a pop is accepted, and whether any call is
abbrev pub pop_accepted : {X : Type 0} → List X → Result (Unit {0}) StackRefusal
pop_accepted [] = Err Empty
pop_accepted (x ∷ xs) = Ok tt

abbrev pub call_answer : {X : Type 0} → List X → List X → StackCall X → Result (Unit {0}) StackRefusal
call_answer slots xs (Push x) = push_answer slots xs
call_answer slots xs Pop = pop_accepted xs

-- after one call
abbrev pub after_call : {X : Type 0} → Standing X → StackCall X → Standing X
after_call s (Push x) = record { slots = room_after_push s.slots s.held x; held = held_after_push s.slots s.held x }
after_call s Pop = record { slots = s.slots; held = drop 1 s.held }

-- after some calls, the first of the list first
abbrev pub after_calls : {X : Type 0} → Standing X → List (StackCall X) → Standing X
after_calls s [] = s
after_calls s (call ∷ calls) = after_calls (after_call s call) calls

-- calls that pair up like brackets: each pop has a push before it, and none stays unclosed at the end; so many are unclosed already, and there
-- is room for so many more
abbrev pub Paired : {X : Type 0} → (unclosed free : ℕ) → List (StackCall X) → Type 0
Paired unclosed free [] = unclosed ≡ 0
Paired unclosed free (Push x ∷ calls) = (0 < free) × Paired (unclosed + 1) (free - 1) calls
Paired unclosed free (Pop ∷ calls) = (0 < unclosed) × Paired (unclosed - 1) (free + 1) calls

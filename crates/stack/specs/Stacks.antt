-- What a stack holds, the latest entry first, and what its calls answer.
use Rattle.std.specs.Prelude.{ℕ, cond, List, [], ◌∷◌, reverse, length, take, Some, None, Ok, Err, Option, Result, nat_lt, slice_set}
use Rattle.stack.specs.declared.refusal.StackRefusal.{StackRefusal}
use Rattle.stack.specs.declared.refusal.StackRefusal.TheVariants.{Full, Empty}
use Rattle.stack.specs.declared.Stack.{Stack}

-- the whole lent slice
abbrev pub room : {X : Type 0} → Stack X → List X
room s = s.slots.now

-- the entries, the latest first
abbrev pub held : {X : Type 0} → Stack X → List X
held s = reverse (take s.len (room s))

-- a push is accepted as long as fewer entries are held than the slice has slots
abbrev pub push_answer : {X : Type 0} → List X → List X → Result (Unit {0}) StackRefusal
push_answer slots xs = cond (nat_lt (length xs) (length slots)) (Ok tt) (Err Full)

-- an accepted push puts its entry before the others
abbrev pub held_after_push : {X : Type 0} → List X → List X → X → List X
held_after_push slots xs x = cond (nat_lt (length xs) (length slots)) (x ∷ xs) xs

-- it writes one slot, the first that is not held
abbrev pub room_after_push : {X : Type 0} → List X → List X → X → List X
room_after_push slots xs x = cond (nat_lt (length xs) (length slots)) (slice_set slots (length xs) x) slots

-- a pop gives the latest entry
abbrev pub pop_answer : {X : Type 0} → List X → Result X StackRefusal
pop_answer [] = Err Empty
pop_answer (x ∷ xs) = Ok x

-- and its number
abbrev pub pop_number : {X : Type 0} → List X → ℕ
pop_number [] = 29
pop_number (x ∷ xs) = 0

-- the latest entry, if there is one
abbrev pub top_of : {X : Type 0} → List X → Option X
top_of [] = None
top_of (x ∷ xs) = Some x

-- The numbers of a stack's refusals.
use Rattle.std.specs.Prelude.{ℕ, Result}
use Rattle.answers.specs.Listed.{listed_of}
use Rattle.stack.specs.declared.refusal.StackRefusal.{StackRefusal}
use Rattle.stack.specs.declared.refusal.StackRefusal.TheVariants.{Full, Empty}

-- 28: the stack is full; 29: it is empty
abbrev pub refusal_number : StackRefusal → ℕ
refusal_number Full = 28
refusal_number Empty = 29

-- the number of an answer: 0 if the call was accepted, else that of the refusal
abbrev pub answer_number : {X : Type 0} → Result X StackRefusal → ℕ
answer_number = listed_of (λ _. 0) refusal_number

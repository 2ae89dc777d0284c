-- The numbers of refusals and answers, and the answer that a slice gets.
use Rattle.std.specs.Prelude.{ℕ, cond, Ok, Err, Result, nat_le}
use Rattle.answers.specs.Listed.{listed_of}
use Rattle.input.specs.declared.refusal.Refusal.{Refusal}
use Rattle.input.specs.declared.refusal.Refusal.TheVariants.{SliceLength, PatchLength, PatchPlace, PatchesFull, NoPatch}
use Rattle.input.specs.Bytes.{longest}

abbrev pub refusal_number : Refusal → ℕ
refusal_number SliceLength = 20
refusal_number PatchLength = 30
refusal_number PatchPlace = 31
refusal_number PatchesFull = 32
refusal_number NoPatch = 33

-- 0 where the call was accepted
abbrev pub answer_number : Result (Unit {0}) Refusal → ℕ
answer_number = listed_of (λ _. 0) refusal_number

-- whether a slice of n bytes can be shown
abbrev pub slice_answer : ℕ → Result (Unit {0}) Refusal
slice_answer n = cond (nat_le n longest) (Ok tt) (Err SliceLength)

-- Calls that pair up leave a stack's entries as they were.
use Rattle.std.proofs.Common.{◌≡◌, ℕ, ◌+◌, ◌-◌, ◌<◌, ◌≤◌, true, false, cond, ltb, List, [], ◌∷◌, ◌++◌, length, drop, set, refl, ap, ◌∙◌, subst, arith, length-append, length-set}
use Rattle.std.proofs.lemmas.Bool.Decides.{nat_tests}
use Rattle.stack.specs.declared.runs.StackCall.{StackCall}
use Rattle.stack.specs.declared.runs.StackCall.TheVariants.{Push, Pop}
use Rattle.stack.specs.Runs.{Standing, after_call, after_calls, Paired}
use Rattle.stack.specs.Stacks.{held_after_push, room_after_push}

module _ {X : Type 0} where
  -- no push makes the slice longer or shorter
  room_length : (slots xs : List X) (x : X) → length (room_after_push slots xs x) ≡ length slots
  room_length slots xs x =
      elim (ltb (length xs) (length slots)) as (λ t. length (cond t (set slots (length xs) x) slots) ≡ length slots)
      [ true ↦ length-set slots (length xs) x | false ↦ refl ]

  pushed : (slots xs : List X) (x : X) → length xs < length slots → held_after_push slots xs x ≡ x ∷ xs
  pushed slots xs x h = grind (arith, nat_tests)

  -- the entries are those pushed and still open, over those there before
  above : (s : Standing X) (ys base : List X) (d : ℕ) (calls : List (StackCall X)) → s.held ≡ ys ++ base → length ys + length base + d ≤ length s.slots → Paired (length ys) d calls → (after_calls s calls).held ≡ base
  above s [] base d [] e h p = e
  above s (y ∷ ys) base d [] e h p = absurd (omega arith)
  above s ys base d (Push x ∷ calls) e h p =
      let n : length s.held ≡ length ys + length base = ap length e ∙ length-append ys base in
      let l = room_length s.slots s.held x in
      let q : Paired (length (x ∷ ys)) (d - 1) calls = let z : length ys + 1 ≡ length (x ∷ ys) = omega arith in subst (λ k. Paired k (d - 1) calls) z p.1 in
      above (after_call s (Push x)) (x ∷ ys) base (d - 1) calls (pushed s.slots s.held x (omega (arith, p.0)) ∙ ap (λ xs. x ∷ xs) e) (omega (arith, p.0)) q
  above s [] base d (Pop ∷ calls) e h p = absurd (omega (arith, p.0))
  above s (y ∷ ys) base d (Pop ∷ calls) e h p =
      let q : Paired (length ys) (d + 1) calls = let z : length (y ∷ ys) - 1 ≡ length ys = omega arith in subst (λ k. Paired k (d + 1) calls) z p.1 in
      above (after_call s Pop) ys base (d + 1) calls (ap (drop 1) e) (omega arith) q

  pub paired_keeps : (s : Standing X) (calls : List (StackCall X)) → length s.held ≤ length s.slots → Paired 0 (length s.slots - length s.held) calls → (after_calls s calls).held ≡ s.held
  paired_keeps s calls h p = above s [] s.held (length s.slots - length s.held) calls refl (omega arith) p

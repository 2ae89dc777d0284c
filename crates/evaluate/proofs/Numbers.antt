-- Numbers taken off a stack.
use Rattle.std.proofs.Common.{◌≡◌, ℕ, ◌≤◌, List, [], ◌∷◌, length, drop, Some, None, refl, ap, arith}
use Rattle.std.specs.Result.{result_ok}
use Rattle.stack.specs.Stacks.{pop_answer}
use Rattle.operators.specs.Applied.{applied}
use Rattle.meaning.specs.Values.{Progress, value}
use Rattle.operators.specs.declared.Op.{Op}
use Rattle.meaning.specs.declared.run.Start.{Start}
use Rattle.sealed.specs.declared.code.Code.{Code}
use Rattle.sealed.specs.declared.code.Code.TheVariants.{Number, Eoi, Own, OfCall, StartOf, EndOf, Apply, Bracket}
use Rattle.evaluate.specs.Pending.{leaf_of, operated, latest, next_value, values_left, last_value}

module _ (op : Op) where
  pub op_gone : (xs : List ℕ) → result_ok (pop_answer xs) ≡ None → None ≡ operated op xs
  unfolding operated
  op_gone [] e = refl
  op_gone (q ∷ xs) e = absurd (let z : ◌≡◌ {A = ℕ} 0 1 = cc in omega arith)

  pub op_alone : (xs : List ℕ) → result_ok (pop_answer (drop 1 xs)) ≡ None → None ≡ operated op xs
  unfolding operated
  op_alone [] e = refl
  op_alone (q ∷ []) e = refl
  op_alone (q ∷ p ∷ xs) e = absurd (let z : ◌≡◌ {A = ℕ} 0 1 = cc in omega arith)

  pub op_two : (xs : List ℕ) (p q : ℕ) → result_ok (pop_answer xs) ≡ Some q → result_ok (pop_answer (drop 1 xs)) ≡ Some p → applied op p q ≡ operated op xs
  unfolding operated
  op_two [] p q e h = absurd (let z : ◌≡◌ {A = ℕ} 0 1 = cc in omega arith)
  op_two (y ∷ []) p q e h = absurd (let z : ◌≡◌ {A = ℕ} 0 1 = cc in omega arith)
  op_two (y ∷ x ∷ xs) p q e h = let a : q ≡ y = cc in let b : p ≡ x = cc in rw (a, b)

pub fin_none : (xs : List ℕ) → result_ok (pop_answer xs) ≡ None → None ≡ last_value xs
unfolding last_value
fin_none [] e = refl
fin_none (x ∷ xs) e = absurd (let z : ◌≡◌ {A = ℕ} 0 1 = cc in omega arith)

pub fin_one : (xs : List ℕ) (v : ℕ) → result_ok (pop_answer xs) ≡ Some v → length (drop 1 xs) ≡ 0 → Some v ≡ last_value xs
unfolding last_value
fin_one [] v e h = absurd (let z : ◌≡◌ {A = ℕ} 0 1 = cc in omega arith)
fin_one (x ∷ []) v e h = let a : v ≡ x = cc in ap Some a
fin_one (x ∷ y ∷ xs) v e h = absurd (omega arith)

pub fin_more : (xs : List ℕ) → (length (drop 1 xs) ≡ 0 → ⊥) → None ≡ last_value xs
unfolding last_value
fin_more [] h = refl
fin_more (x ∷ []) h = absurd (h refl)
fin_more (x ∷ y ∷ xs) h = refl

pub latest_is : (xs : List ℕ) → result_ok (pop_answer xs) ≡ latest xs
unfolding latest
latest_is [] = refl
latest_is (x ∷ xs) = refl

pub left_length : (code : Code) (xs : List ℕ) → length (values_left code xs) ≤ length xs
unfolding values_left
left_length (Number n) xs = omega arith
left_length Eoi xs = omega arith
left_length (Own k) xs = omega arith
left_length (OfCall t k) xs = omega arith
left_length (StartOf t) xs = omega arith
left_length (EndOf t) xs = omega arith
left_length Bracket xs = one xs
  where
    one : (xs : List ℕ) → length (drop 1 xs) ≤ length xs
    one [] = omega arith
    one (x ∷ xs) = omega arith
left_length (Apply op) xs = two xs
  where
    two : (xs : List ℕ) → length (drop 2 xs) ≤ length xs
    two [] = omega arith
    two (x ∷ []) = omega arith
    two (x ∷ y ∷ xs) = omega arith

pub taken_part : (c : Start) (so : Progress) (code : Code) (xs : List ℕ) → ((op : Op) → code ≡ Apply op → ⊥) → (code ≡ Bracket → ⊥) → value c so (leaf_of code) ≡ next_value c so code xs
unfolding next_value
taken_part c so (Number n) xs h b = refl
taken_part c so Eoi xs h b = refl
taken_part c so (Own k) xs h b = refl
taken_part c so (OfCall t k) xs h b = refl
taken_part c so (StartOf t) xs h b = refl
taken_part c so (EndOf t) xs h b = refl
taken_part c so (Apply op) xs h b = absurd (h op refl)
taken_part c so Bracket xs h b = absurd (b refl)

pub left_part : (code : Code) (xs : List ℕ) → ((op : Op) → code ≡ Apply op → ⊥) → (code ≡ Bracket → ⊥) → xs ≡ values_left code xs
unfolding values_left
left_part (Number n) xs h b = refl
left_part Eoi xs h b = refl
left_part (Own k) xs h b = refl
left_part (OfCall t k) xs h b = refl
left_part (StartOf t) xs h b = refl
left_part (EndOf t) xs h b = refl
left_part (Apply op) xs h b = absurd (h op refl)
left_part Bracket xs h b = absurd (b refl)

pub left_few : (code : Code) (xs ys : List ℕ) → ys ≡ values_left code xs → length ys ≤ length xs
left_few code xs ys e = let n = ap length e in omega (arith, left_length code xs)

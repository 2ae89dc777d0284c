-- Numbers that wait, the latest first, for their operator.
use Rattle.std.specs.Prelude.{◌≡◌, ℕ, List, [], ◌∷◌, drop, Some, None, Option}
use Rattle.stack.specs.Stacks.{held, room}
use Rattle.stack.specs.declared.Stack.{Stack}
use Rattle.meaning.specs.Syntax.{Expr}
use Rattle.meaning.specs.Syntax.Expr.{number, eoi, own, of_call, start_of, end_of}
use Rattle.operators.specs.Applied.{applied}
use Rattle.meaning.specs.Values.{Progress, value}
use Rattle.operators.specs.declared.Op.{Op}
use Rattle.meaning.specs.declared.run.Start.{Start}
use Rattle.sealed.specs.Codes.{broken}
use Rattle.sealed.specs.declared.code.Code.{Code}
use Rattle.sealed.specs.declared.code.Code.TheVariants.{Number, Eoi, Own, OfCall, StartOf, EndOf, Apply, Bracket}

-- a part by itself; an operator and brackets by themselves have no value
abbrev pub leaf_of : Code → Expr
leaf_of (Number n) = number n
leaf_of Eoi = eoi
leaf_of (Own k) = own k
leaf_of (OfCall t k) = of_call t k
leaf_of (StartOf t) = start_of t
leaf_of (EndOf t) = end_of t
leaf_of (Apply op) = broken
leaf_of Bracket = broken

-- what an operator makes of the two latest numbers, of which the latest is its right side
unfoldable pub operated : Op → List ℕ → Option ℕ
operated op [] = None
operated op (q ∷ []) = None
operated op (q ∷ p ∷ vs) = applied op p q

-- the latest number
unfoldable pub latest : List ℕ → Option ℕ
latest [] = None
latest (v ∷ vs) = Some v

-- what a code comes to on the numbers that wait, and which of them stay
unfoldable pub next_value : Start → Progress → Code → List ℕ → Option ℕ
next_value c so (Number n) vs = value c so (number n)
next_value c so Eoi vs = value c so eoi
next_value c so (Own k) vs = value c so (own k)
next_value c so (OfCall t k) vs = value c so (of_call t k)
next_value c so (StartOf t) vs = value c so (start_of t)
next_value c so (EndOf t) vs = value c so (end_of t)
next_value c so (Apply op) vs = operated op vs
next_value c so Bracket vs = latest vs

unfoldable pub values_left : Code → List ℕ → List ℕ
values_left (Number n) vs = vs
values_left Eoi vs = vs
values_left (Own k) vs = vs
values_left (OfCall t k) vs = vs
values_left (StartOf t) vs = vs
values_left (EndOf t) vs = vs
values_left (Apply op) vs = drop 2 vs
values_left Bracket vs = drop 1 vs

-- one number must be left at the end
unfoldable pub last_value : List ℕ → Option ℕ
last_value [] = None
last_value (v ∷ []) = Some v
last_value (v ∷ u ∷ vs) = None

-- a stack is left with these numbers, in the room that it was lent
pub record LeftAs (before after : Stack ℕ) (numbers : List ℕ) : Type 0 where
  pub held : held after ≡ numbers
  pub room : room after ≡ room before
  pub lender : after.slots.ghost_name ≡ before.slots.ghost_name

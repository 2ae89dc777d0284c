-- A grammar with its names resolved: rules, field readers, attributes and earlier calls all go by number.
use Rattle.std.specs.Prelude.{ℕ, List}
use Rattle.operators.specs.declared.Op.{Op}

-- An expression of a term. Attributes go by their slot, an earlier call of the same alternative by its term number.
pub data Expr : Type 0 where
  number : ℕ → Expr
  -- the length of the rule's window
  eoi : Expr
  -- an attribute that the alternative has set
  own : (slot : ℕ) → Expr
  -- an attribute of an earlier call, or the value that a field reader gave
  of_call : (term slot : ℕ) → Expr
  -- the ends of what an earlier call used, from the rule's left end
  start_of : (term : ℕ) → Expr
  end_of : (term : ℕ) → Expr
  binary : Op → Expr → Expr → Expr

-- A term. The two expressions of a literal and of a call are the ends of its window.
pub data Term : Type 0 where
  literal : (bytes : List ℕ) → Expr → Expr → Term
  -- a number below 32 is a rule's, from 32 on a field reader's
  call : (number : ℕ) → Expr → Expr → Term
  attribute : (slot : ℕ) → Expr → Term
  guard : Expr → Term

-- terms in the order in which they run
abbrev pub Alternative : Type 0
Alternative = List Term

-- alternatives in the order in which they are tried
abbrev pub Rule : Type 0
Rule = List Alternative

-- rules by number
abbrev pub Grammar : Type 0
Grammar = List Rule

-- The expression that a piece of code stands for.
use Rattle.std.specs.Prelude.{List, [], ◌∷◌}
use Rattle.meaning.specs.Syntax.{Expr}
use Rattle.meaning.specs.Syntax.Expr.{number, eoi, own, of_call, start_of, end_of, binary}
use Rattle.operators.specs.declared.Op.{Op}
use Rattle.operators.specs.declared.Op.TheVariants.{Divide}
use Rattle.sealed.specs.declared.code.Code.{Code}
use Rattle.sealed.specs.declared.code.Code.TheVariants.{Number, Eoi, Own, OfCall, StartOf, EndOf, Apply, Bracket}

-- an expression without a value: what bad code stands for
abbrev pub broken : Expr
broken = binary Divide (number 0) (number 0)

-- an operator joins the two latest expressions, of which the latest is its right side
abbrev pub joined : Op → List Expr → List Expr
joined op [] = broken ∷ []
joined op (b ∷ []) = broken ∷ []
joined op (b ∷ a ∷ ts) = binary op a b ∷ ts

-- brackets leave the latest expression as it is
abbrev pub bracketed : List Expr → List Expr
bracketed [] = broken ∷ []
bracketed (a ∷ ts) = a ∷ ts

-- one code more: parts wait, the latest first, for their operator
abbrev pub pending : Code → List Expr → List Expr
pending (Number n) ts = number n ∷ ts
pending Eoi ts = eoi ∷ ts
pending (Own k) ts = own k ∷ ts
pending (OfCall t k) ts = of_call t k ∷ ts
pending (StartOf t) ts = start_of t ∷ ts
pending (EndOf t) ts = end_of t ∷ ts
pending (Apply op) ts = joined op ts
pending Bracket ts = bracketed ts

unfoldable pub trees : List Code → List Expr → List Expr
trees [] ts = ts
trees (c ∷ cs) ts = trees cs (pending c ts)

-- one expression must be left
unfoldable pub only : List Expr → Expr
only [] = broken
only (e ∷ []) = e
only (e ∷ d ∷ ts) = broken

unfoldable pub expr_of : List Code → Expr
expr_of cs = only (trees cs [])

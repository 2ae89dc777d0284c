-- The code of an expression.
use Rattle.std.specs.Prelude.{ℕ, List, map}
use Rattle.operators.specs.declared.Op.{Op}
use Rattle.arena.specs.declared.store.Arena.{Arena}
use Rattle.arena.specs.Bounded.{stored}
use Rattle.code.specs.declared.Code.{Code}
use Rattle.code.specs.declared.Code.TheVariants as code
use Rattle.code.specs.Names.{letters}

-- a part or an operator
pub data Piece : Type 0 where
  number : ℕ → Piece
  eoi : Piece
  name : List ℕ → Piece
  field : List ℕ → List ℕ → Piece
  operator : Op → Piece
  bracket : Piece

abbrev pub piece : Code → Piece
piece (code.Number n) = number n
piece code.Eoi = eoi
piece (code.Name n) = name (letters n)
piece (code.Field n a) = field (letters n) (letters a)
piece (code.Operator o) = operator o
piece code.Bracket = bracket

abbrev pub codes : Arena Code 1025 → List Piece
codes a = map piece (stored a)

-- Expressions as trees, and their code.
use Rattle.std.specs.Prelude.{ℕ, List, [], ◌∷◌, ◌++◌}
use Rattle.operators.specs.declared.Op.{Op}
use Rattle.code.specs.Pieces.{Piece}
use Rattle.code.specs.Pieces as piece

pub data Tree : Type 0 where
  number : ℕ → Tree
  eoi : Tree
  name : List ℕ → Tree
  field : List ℕ → List ℕ → Tree
  bracketed : Tree → Tree
  binary : Op → Tree → Tree → Tree

-- in the order of evaluation; its length is the number of parts and operators
abbrev pub encode : Tree → List Piece
encode (number n) = piece.number n ∷ []
encode eoi = piece.eoi ∷ []
encode (name w) = piece.name w ∷ []
encode (field w a) = piece.field w a ∷ []
encode (bracketed t) = encode t ++ piece.bracket ∷ []
encode (binary o l r) = encode l ++ (encode r ++ piece.operator o ∷ [])

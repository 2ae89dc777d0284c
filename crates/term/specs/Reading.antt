-- What the readers of terms return and append, told by the form.
use Rattle.std.specs.Prelude.{◌≡◌, List, Ok, Err, Result}
use Rattle.token.specs.Tokens.{Tok}
use Rattle.code.specs.Pieces.{Piece}
use Rattle.expr.specs.declared.Refusal.{Refusal}
use Rattle.expr.specs.Trees.{Tree}
use Rattle.expr.specs.Reading.{Read, ok, Refuses, Grew}
use Rattle.arena.specs.declared.span.Ends.{Ends}
use Rattle.arena.specs.declared.span.Span.{Span}
use Rattle.term.specs.Tables.{Tables, Kept, code_after, span_of, ends_of}

-- an expression's code was appended, and is told by its part
abbrev pub Spanned : Result Span Refusal → Read Tree → List Tok → List Piece → List Piece → Type 0
Spanned (Ok s) want rest before later = (e : Tree) × (want ≡ ok e rest) × (later ≡ code_after before e) × (s ≡ span_of before e)
Spanned (Err e) want rest before later = Refuses e want × Grew before later

-- so for the two ends of a window
abbrev pub Ranged : Result Ends Refusal → Read (Tree × Tree) → List Tok → List Piece → List Piece → Type 0
Ranged (Ok s) want rest before later = (a : Tree) × (b : Tree) × (want ≡ ok (a, b) rest) × (later ≡ code_after (code_after before a) b) × (s ≡ ends_of before a b)
Ranged (Err e) want rest before later = Refuses e want × Grew before later

-- something was read and added to the tables; or it was refused, and nothing was changed but by appending
abbrev pub Adds : {X : Type 0} → Result (Unit {0}) Refusal → Read X → List Tok → (Tables → X → Tables) → Tables → Tables → Type 0
Adds (Ok _) want rest emit T U = (x : _) × (want ≡ ok x rest) × (U ≡ emit T x)
Adds (Err e) want rest emit T U = Refuses e want × Kept T U

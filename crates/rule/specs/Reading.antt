-- What the readers of alternatives and rules return and append, told by the form.
use Rattle.std.specs.Prelude.{◌≡◌, Bool, List, Ok, Err, Result}
use Rattle.token.specs.Tokens.{Tok}
use Rattle.expr.specs.declared.Refusal.{Refusal}
use Rattle.expr.specs.Reading.{Read, ok, Refuses}
use Rattle.term.specs.Tables.{Tables, Kept}

-- whether it was the last alternative
abbrev pub Ends : Result Bool Refusal → Read Bool → List Tok → Type 0
Ends (Ok last) want rest = want ≡ ok last rest
Ends (Err e) want rest = Refuses e want

-- an item was read and added to the tables, with whether it was the last; or it was refused, and nothing was changed but by appending
abbrev pub AddsItem : {X : Type 0} → Result Bool Refusal → Read (X × Bool) → List Tok → (Tables → X → Tables) → Tables → Tables → Type 0
AddsItem (Ok last) want rest emit T U = (x : _) × (want ≡ ok (x, last) rest) × (U ≡ emit T x)
AddsItem (Err e) want rest emit T U = Refuses e want × Kept T U

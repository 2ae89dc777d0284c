-- How an expression is read from the front of a list of tokens; `end` is the text's length, told where tokens are wanting.
use Rattle.std.specs.Prelude.{◌≡◌, ℕ, zero, suc, Bool, true, false, cond, List, [], ◌∷◌, ◌++◌, length, Some, None, Ok, Err, Option, Result}
use Rattle.std.specs.Option.{option_map}
use Rattle.token.specs.declared.Mark.{Mark}
use Rattle.token.specs.declared.Mark.TheVariants as mark
use Rattle.operators.specs.declared.Op.{Op}
use Rattle.operators.specs.declared.Op.TheVariants as op
use Rattle.token.specs.Tokens.{Lexeme, Tok, same_mark, is_mark}
use Rattle.token.specs.declared.Placed.{Placed}
use Rattle.token.specs.Ahead.{Ahead, Takes}
use Rattle.token.specs.Tokens as lexeme
use Rattle.arena.specs.Bounded.{upto}
use Rattle.code.specs.Pieces.{Piece}
use Rattle.code.specs.Names.{letters}
use Rattle.code.specs.declared.name.Name.{Name}
use Rattle.expr.specs.declared.Level.{Level}
use Rattle.expr.specs.declared.Level.TheVariants as level
use Rattle.expr.specs.declared.Refusal.{Refusal}
use Rattle.expr.specs.declared.Refusal.TheVariants.{Form, Deep}
use Rattle.expr.specs.Trees.{Tree, number, eoi, name, field, bracketed, binary, encode}

-- what is read with the tokens after it, or a refusal with its place
pub data Read (X : Type 0) : Type 0 where
  ok : X → List Tok → Read X
  form : ℕ → Read X
  deep : ℕ → Read X

abbrev pub Reader : Type 0
Reader = List Tok → Read Tree

abbrev pub and_then : {X Y : Type 0} → Read X → (X → List Tok → Read Y) → Read Y
and_then (ok t ts) k = k t ts
and_then (form p) k = form p
and_then (deep p) k = deep p

-- ---- operators
abbrev pub level_of : Op → Level
level_of op.Equal = level.Compare
level_of op.Less = level.Compare
level_of op.Plus = level.Sum
level_of op.Minus = level.Sum
level_of op.Times = level.Product
level_of op.Divide = level.Product
level_of op.Remainder = level.Product
level_of op.Shift = level.Product

abbrev pub same_level : Level → Level → Bool
same_level level.Compare level.Compare = true
same_level level.Sum level.Sum = true
same_level level.Product level.Product = true
same_level _ _ = false

abbrev pub operator_at : Level → Lexeme → Option Op
operator_at l (lexeme.operator o) = cond (same_level (level_of o) l) (Some o) None
operator_at l _ = None

-- ---- items joined by operators of one level, grouped from the left
abbrev pub more : Reader → Level → ℕ → Tree → Reader
more item l zero left ts = ok left ts
more item l (suc f) left [] = ok left []
more item l (suc f) left (t ∷ ts) = elim (operator_at l t.1) [ None ↦ ok left (t ∷ ts) | Some o ↦ and_then (item ts) (λ right rest. more item l f (binary o left right) rest) ]

abbrev pub chain : Reader → Level → Reader
chain item l ts = and_then (item ts) (λ left rest. more item l (length rest) left rest)

-- one sum, or two with a comparison between
abbrev pub compared : Reader → Tree → Reader
compared item left [] = ok left []
compared item left (t ∷ ts) = elim (operator_at level.Compare t.1) [ None ↦ ok left (t ∷ ts) | Some o ↦ and_then (item ts) (λ right rest. ok (binary o left right) rest) ]

abbrev pub expression_of : Reader → Reader
expression_of part ts = and_then (chain (chain part level.Product) level.Sum ts) (λ left rest. compared (chain (chain part level.Product) level.Sum) left rest)

-- ---- a mark, and a name
-- a mark, and what follows it
abbrev pub mark_at : Mark → ℕ → List Tok → Read (Unit {0})
mark_at m end [] = form end
mark_at m end (t ∷ ts) = cond (is_mark m t.1) (ok tt ts) (form t.0)

abbrev pub name_of : Lexeme → ℕ → List Tok → Read (ℕ × List ℕ)
name_of (lexeme.name w) p ts = ok (p, w) ts
name_of _ p ts = form p

-- a name with its place, and what follows it
abbrev pub name_at : ℕ → List Tok → Read (ℕ × List ℕ)
name_at end [] = form end
name_at end (t ∷ ts) = name_of t.1 t.0 ts

-- ---- parts
-- what stands after a name: a dot and a name, or no dot
abbrev pub field_at : ℕ → List Tok → Read (Option (List ℕ))
field_at end [] = ok None []
field_at end (t ∷ ts) = cond (is_mark mark.Dot t.1) (and_then (name_at end ts) (λ n us. ok (Some n.1) us)) (ok None (t ∷ ts))

abbrev pub name_or_field : List ℕ → Option (List ℕ) → Tree
name_or_field w None = name w
name_or_field w (Some a) = field w a

-- a name that was taken, or the field that it begins
abbrev pub named_at : ℕ → List ℕ → Reader
named_at end w ts = and_then (field_at end ts) (λ a us. ok (name_or_field w a) us)

-- the front token of a part, its place and what follows, under a reader for what stands in brackets
abbrev pub part_of : ℕ → Option Reader → Lexeme → ℕ → Reader
part_of end inner (lexeme.name w) p ts = named_at end w ts
part_of end inner (lexeme.number n) p ts = ok (number n) ts
part_of end inner (lexeme.mark m) p ts = cond (same_mark m mark.Open) (elim inner [ None ↦ deep p | Some read ↦ and_then (read ts) (λ e rest. and_then (mark_at mark.Close end rest) (λ _ us. ok (bracketed e) us)) ]) (form p)
part_of end inner lexeme.eoi p ts = ok eoi ts
part_of end inner _ p ts = form p

abbrev pub part_with : ℕ → Option Reader → Reader
part_with end inner [] = form end
part_with end inner (t ∷ ts) = part_of end inner t.1 t.0 ts

-- what reads an expression in brackets, where `deeper` more brackets may be opened
abbrev pub inner : ℕ → ℕ → Option Reader
inner end zero = None
inner end (suc d) = Some (expression_of (part_with end (inner end d)))

abbrev pub part_at : ℕ → ℕ → Reader
part_at end deeper = part_with end (inner end deeper)

abbrev pub product_at : ℕ → ℕ → Reader
product_at end deeper = chain (part_at end deeper) level.Product

abbrev pub sum_at : ℕ → ℕ → Reader
sum_at end deeper = chain (product_at end deeper) level.Sum

abbrev pub expression_at : ℕ → ℕ → Reader
expression_at end deeper = expression_of (part_at end deeper)

-- what the operators of a level join
abbrev pub operand_at : Level → ℕ → ℕ → Reader
operand_at level.Compare = sum_at
operand_at level.Sum = product_at
operand_at level.Product = part_at

-- such, joined from the left
abbrev pub joined_at : Level → ℕ → ℕ → Reader
joined_at l end deeper = chain (operand_at l end deeper) l

-- ---- what the code returns, which tokens it leaves, and what it appends
abbrev pub Refuses : {X : Type 0} → Refusal → Read X → Type 0
Refuses (Form p) want = want ≡ form p
Refuses (Deep p) want = want ≡ deep p

-- a token was taken; or none is left
abbrev pub Took : Ahead → Result Placed Refusal → Ahead → Type 0
Took old (Ok p) new = Takes old (Some p) new
Took old (Err e) new = (new ≡ old) × (e ≡ Form old.end) × (old.left ≡ [])

-- whether a mark stands first
abbrev pub marked : Mark → List Tok → Bool
marked m [] = false
marked m (t ∷ ts) = is_mark m t.1

-- a mark was taken; or another token stands next, or none
abbrev pub TakesMark : Mark → Ahead → Bool → Ahead → Type 0
TakesMark m old true new = (new.end ≡ old.end) × (t : Tok) × (old.left ≡ t ∷ new.left) × (is_mark m t.1 ≡ true) × (new.text ≡ old.text)
TakesMark m old false new = (new ≡ old) × (marked m old.left ≡ false)

-- the operator of a level that stands first
abbrev pub operator_first : Level → List Tok → Option Op
operator_first l [] = None
operator_first l (t ∷ ts) = operator_at l t.1

-- an operator of a level was taken; or none stands next
abbrev pub TakesOperator : Level → Ahead → Option Op → Ahead → Type 0
TakesOperator l old (Some o) new = (new.end ≡ old.end) × (t : Tok) × (old.left ≡ t ∷ new.left) × (operator_at l t.1 ≡ Some o) × (new.text ≡ old.text)
TakesOperator l old None new = (new ≡ old) × (operator_first l old.left ≡ None)

-- what was wanted stood there
abbrev pub Tells : Result (Unit {0}) Refusal → Read (Unit {0}) → List Tok → Type 0
Tells (Ok _) want rest = want ≡ ok tt rest
Tells (Err e) want rest = Refuses e want

-- a name and its place
abbrev pub Names : Result (Name × ℕ) Refusal → Read (ℕ × List ℕ) → List Tok → Type 0
Names (Ok x) want rest = want ≡ ok (x.1, letters x.0) rest
Names (Err e) want rest = Refuses e want

-- an attribute's name, if there is one
abbrev pub ReadsField : Result (Option Name) Refusal → Read (Option (List ℕ)) → List Tok → Type 0
ReadsField (Ok a) want rest = want ≡ ok (option_map letters a) rest
ReadsField (Err e) want rest = Refuses e want

-- nothing was changed but by appending
abbrev pub Grew : List Piece → List Piece → Type 0
Grew before later = (xs : List Piece) × (later ≡ before ++ xs)

-- a tree was read, and its code appended as far as there is room; or nothing was read
abbrev pub Wrote : Result (Unit {0}) Refusal → Read Tree → List Tok → List Piece → List Piece → Type 0
Wrote (Ok _) want rest before later = (t : Tree) × (want ≡ ok t rest) × (later ≡ upto 1025 before (encode t))
Wrote (Err e) want rest before later = Refuses e want × Grew before later

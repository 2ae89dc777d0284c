-- What the arenas of a draft hold, and what a term adds to them.
use Rattle.std.specs.Prelude.{◌≡◌, ℕ, List, [], ◌∷◌, ◌++◌, map, length}
use Rattle.arena.specs.Bounded.{stored, upto}
use Rattle.code.specs.Names.{letters}
use Rattle.code.specs.Pieces.{Piece, codes}
use Rattle.expr.specs.Trees.{Tree, encode}
use Rattle.term.specs.declared.arenas.Arenas.{Arenas}
use Rattle.arena.specs.declared.span.Ends.{Ends}
use Rattle.term.specs.declared.arenas.Rule.{Rule}
use Rattle.arena.specs.declared.span.Span.{Span}
use Rattle.arena.specs.declared.term.Term.{Term as TermBy}
use Rattle.arena.specs.declared.term.Term.TheVariants as term
use Rattle.code.specs.declared.name.Name.{Name}
use Rattle.term.specs.Form.{TermTree}
use Rattle.term.specs.Form as tree

-- a term as it was read: calls and attributes go by name, an attribute's with its place
abbrev pub Term : Type 0
Term = TermBy Name (Name × ℕ)

-- what it says
pub data Entry : Type 0 where
  literal : Span → Ends → Entry
  call : List ℕ → Ends → Entry
  attribute : ℕ → List ℕ → Span → Entry
  guard : Span → Entry

abbrev pub entry : Term → Entry
entry (term.Literal s e) = literal s e
entry (term.Call n e) = call (letters n) e
entry (term.Attribute a s) = attribute a.1 (letters a.0) s
entry (term.Guard s) = guard s

-- a rule as it is stored: its name, the name's place, its part of the alternatives
pub record Head : Type 0 where
  pub name : List ℕ
  pub place : ℕ
  pub branches : Span

abbrev pub head : Rule → Head
head r = record { name = letters r.name; place = r.place; branches = r.alternatives }

pub record Tables : Type 0 where
  pub rules : List Head
  pub alternatives : List Span
  pub terms : List Entry
  pub bytes : List ℕ
  pub code : List Piece

abbrev pub tables : Arenas → Tables
tables a = record { rules = map head (stored a.rules); alternatives = stored a.alternatives; terms = map entry (stored a.terms); bytes = stored a.bytes; code = codes a.code }

-- the tables of a draft without rules
abbrev pub blank : Tables
blank = record { rules = []; alternatives = []; terms = []; bytes = []; code = [] }

-- ---- what is appended, as far as there is room
-- the part that was appended
abbrev pub between : {X : Type 0} → List X → List X → Span
between before later = record { from = length before; to = length later }

abbrev pub code_after : List Piece → Tree → List Piece
code_after code e = upto 1025 code (encode e)

abbrev pub bytes_after : List ℕ → List ℕ → List ℕ
bytes_after bytes bs = upto 513 bytes bs

-- the code of an expression, written after `code`
abbrev pub span_of : List Piece → Tree → Span
span_of code e = between code (code_after code e)

abbrev pub ends_of : List Piece → Tree → Tree → Ends
ends_of code a b = record { left = span_of code a; right = span_of (code_after code a) b }

-- a term with the code and the bytes that it brings
abbrev pub with_term : Tables → List Piece → List ℕ → Entry → Tables
with_term T code bytes x = record { rules = T.rules; alternatives = T.alternatives; terms = upto 257 T.terms (x ∷ []); bytes = bytes; code = code }

unfoldable pub emit_term : Tables → TermTree → Tables
emit_term T (tree.literal bs a b) = with_term T (code_after (code_after T.code a) b) (bytes_after T.bytes bs) (literal (between T.bytes (bytes_after T.bytes bs)) (ends_of T.code a b))
emit_term T (tree.call w a b) = with_term T (code_after (code_after T.code a) b) T.bytes (call w (ends_of T.code a b))
emit_term T (tree.attribute p w e) = with_term T (code_after T.code e) T.bytes (attribute p w (span_of T.code e))
emit_term T (tree.guard e) = with_term T (code_after T.code e) T.bytes (guard (span_of T.code e))

-- ---- nothing was changed but by appending
abbrev pub Front : {X : Type 0} → List X → List X → Type 0
Front xs ys = (zs : List _) × (ys ≡ xs ++ zs)

pub record Kept (T U : Tables) : Type 0 where
  pub rules_kept : Front T.rules U.rules
  pub alternatives_kept : Front T.alternatives U.alternatives
  pub terms_kept : Front T.terms U.terms
  pub bytes_kept : Front T.bytes U.bytes
  pub code_kept : Front T.code U.code

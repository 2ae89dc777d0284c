-- The form of terms: how one is read from the front of a list of tokens; `end` is the text's length, told where tokens are wanting.
use Rattle.std.specs.Prelude.{ℕ, cond, List, [], ◌∷◌}
use Rattle.token.specs.declared.Mark.TheVariants as mark
use Rattle.operators.specs.declared.Op.TheVariants as op
use Rattle.token.specs.Tokens.{Lexeme, Tok, same_mark, is_operator}
use Rattle.token.specs.Tokens as lexeme
use Rattle.expr.specs.Trees.{Tree}
use Rattle.expr.specs.Reading.{Read, ok, form, and_then, mark_at, name_at, expression_at}

-- a literal's bytes, a called name, an attribute's name with its place; expressions as trees
pub data TermTree : Type 0 where
  literal : List ℕ → Tree → Tree → TermTree
  call : List ℕ → Tree → Tree → TermTree
  attribute : ℕ → List ℕ → Tree → TermTree
  guard : Tree → TermTree

-- `=`, and what follows it
abbrev pub equals_at : ℕ → List Tok → Read (Unit {0})
equals_at end [] = form end
equals_at end (t ∷ ts) = cond (is_operator op.Equal t.1) (ok tt ts) (form t.0)

-- an expression, with no bracket open
abbrev pub expr_at : ℕ → List Tok → Read Tree
expr_at end ts = expression_at end 16 ts

-- `[e, e]`
abbrev pub range_at : ℕ → List Tok → Read (Tree × Tree)
range_at end ts =
    and_then (mark_at mark.OpenSquare end ts) (λ _ ts. and_then (expr_at end ts) (λ a ts. and_then (mark_at mark.Comma end ts) (λ _ ts. and_then (expr_at end ts) (λ b ts. and_then (mark_at mark.CloseSquare end ts) (λ _ ts. ok (a, b) ts)))))

-- the window of a literal
abbrev pub literal_at : List ℕ → ℕ → List Tok → Read TermTree
literal_at bs end ts = and_then (range_at end ts) (λ r ts. ok (literal bs r.0 r.1) ts)

-- the window of a call
abbrev pub call_at : List ℕ → ℕ → List Tok → Read TermTree
call_at w end ts = and_then (range_at end ts) (λ r ts. ok (call w r.0 r.1) ts)

-- `a = e}`, after the opening bracket
abbrev pub attribute_at : ℕ → List Tok → Read TermTree
attribute_at end ts = and_then (name_at end ts) (λ n ts. and_then (equals_at end ts) (λ _ ts. and_then (expr_at end ts) (λ e ts. and_then (mark_at mark.CloseCurly end ts) (λ _ ts. ok (attribute n.0 n.1 e) ts))))

-- `(e)`, after `guard`
abbrev pub guard_at : ℕ → List Tok → Read TermTree
guard_at end ts = and_then (mark_at mark.Open end ts) (λ _ ts. and_then (expr_at end ts) (λ e ts. and_then (mark_at mark.Close end ts) (λ _ ts. ok (guard e) ts)))

-- the first token of a term decides its kind
abbrev pub term_of : Lexeme → ℕ → ℕ → List Tok → Read TermTree
term_of (lexeme.name w) end p ts = call_at w end ts
term_of (lexeme.text w) end p ts = literal_at w end ts
term_of (lexeme.mark m) end p ts = cond (same_mark m mark.OpenCurly) (attribute_at end ts) (form p)
term_of lexeme.guard end p ts = guard_at end ts
term_of _ end p ts = form p

abbrev pub term_at : ℕ → List Tok → Read TermTree
term_at end [] = form end
term_at end (t ∷ ts) = term_of t.1 end t.0 ts

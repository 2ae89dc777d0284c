-- The grammar that a sealed one stands for.
use Rattle.std.specs.Prelude.{ℕ, ◌+◌, List, [], ◌∷◌, map, length, vec_items}
use Rattle.meaning.specs.Syntax as syntax
use Rattle.meaning.specs.Syntax.Term.{literal, call, attribute, guard}
use Rattle.sealed.specs.Codes.{expr_of}
use Rattle.arena.specs.Parts.{part}
use Rattle.sealed.specs.declared.code.Code.{Code}
use Rattle.sealed.specs.declared.grammar.Sealed.{Sealed}
use Rattle.arena.specs.declared.span.Span.{Span}
use Rattle.arena.specs.declared.term.Term.{Term as TermBy}
use Rattle.arena.specs.declared.term.Term.TheVariants.{Literal, Call, Attribute, Guard}

-- what is called goes by its number, an attribute by its slot
abbrev pub Term : Type 0
Term = TermBy ℕ ℕ

-- a term, whose expressions are parts of the code, and a literal's bytes a part of the bytes
abbrev pub term_of : List Code → List ℕ → Term → syntax.Term
term_of code bytes (Literal s e) = literal (part s bytes) (expr_of (part e.left code)) (expr_of (part e.right code))
term_of code bytes (Call n e) = call n (expr_of (part e.left code)) (expr_of (part e.right code))
term_of code bytes (Attribute k s) = attribute k (expr_of (part s code))
term_of code bytes (Guard s) = guard (expr_of (part s code))

-- an expression of a sealed grammar
abbrev pub expr_in : Sealed → Span → syntax.Expr
expr_in g s = expr_of (part s (vec_items g.code))

-- a term of a sealed grammar
abbrev pub term_in : Sealed → Term → syntax.Term
term_in g = term_of (vec_items g.code) (vec_items g.bytes)

abbrev pub terms_of : Sealed → List syntax.Term
terms_of g = map (term_in g) (vec_items g.terms)

-- an alternative is a part of the terms
abbrev pub alternatives_of : Sealed → List syntax.Alternative
alternatives_of g = map (λ s. part s (terms_of g)) (vec_items g.alternatives)

-- a rule is a part of the alternatives
unfoldable pub grammar_of : Sealed → syntax.Grammar
grammar_of g = map (λ s. part s (alternatives_of g)) (vec_items g.rules)

-- how many terms alternatives have in all
unfoldable pub terms_in : List syntax.Alternative → ℕ
terms_in [] = 0
terms_in (a ∷ more) = length a + terms_in more

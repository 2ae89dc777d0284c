-- What alternatives and rules add to the tables.
use Rattle.std.specs.Prelude.{List, [], ◌∷◌}
use Rattle.arena.specs.Bounded.{upto}
use Rattle.arena.specs.declared.span.Span.{Span}
use Rattle.term.specs.Form.{TermTree}
use Rattle.term.specs.Tables.{Tables, Head, between, emit_term}
use Rattle.rule.specs.Form.{RuleTree}

-- one item after another
abbrev pub emit_all : {X : Type 0} → (Tables → X → Tables) → Tables → List X → Tables
emit_all emit T [] = T
emit_all emit T (x ∷ xs) = emit_all emit (emit T x) xs

abbrev pub with_alternative : Tables → Span → Tables
with_alternative T s = record { rules = T.rules; alternatives = upto 97 T.alternatives (s ∷ []); terms = T.terms; bytes = T.bytes; code = T.code }

-- its terms, and then their part of the terms
unfoldable pub emit_alternative : Tables → List TermTree → Tables
emit_alternative T ts = with_alternative (emit_all emit_term T ts) (between T.terms (emit_all emit_term T ts).terms)

abbrev pub with_rule : Tables → Head → Tables
with_rule T r = record { rules = upto 33 T.rules (r ∷ []); alternatives = T.alternatives; terms = T.terms; bytes = T.bytes; code = T.code }

-- its alternatives, and then their part of the alternatives
unfoldable pub emit_rule : Tables → RuleTree → Tables
emit_rule T r = with_rule (emit_all emit_alternative T r.alternatives) (record { name = r.name; place = r.place; branches = between T.alternatives (emit_all emit_alternative T r.alternatives).alternatives })

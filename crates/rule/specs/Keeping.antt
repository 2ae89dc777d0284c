-- What an item adds changes nothing that was there.
use Rattle.std.specs.Prelude.{List, [], ◌∷◌}
use Rattle.arena.specs.declared.span.Span.{Span}
use Rattle.term.specs.Form.{TermTree}
use Rattle.term.specs.Tables.{Tables, Head, Kept, emit_term}
use Rattle.term.proofs.Puts.{kept_same, kept_on, front_same, front_upto, term_kept}
use Rattle.rule.specs.Form.{RuleTree}
use Rattle.rule.specs.Emission.{emit_all, emit_alternative, emit_rule, with_alternative, with_rule}

pub emit_kept : {X : Type 0} (emit : Tables → X → Tables) → ((T : Tables) (x : X) → Kept T (emit T x)) → (T : Tables) (xs : List X) → Kept T (emit_all emit T xs)
emit_kept emit kept T [] = kept_same T
emit_kept emit kept T (x ∷ xs) = kept_on T (emit T x) (emit_all emit (emit T x) xs) (kept T x) (emit_kept emit kept (emit T x) xs)

pub put_alternative_kept : (T : Tables) (s : Span) → Kept T (with_alternative T s)
put_alternative_kept T s = record { rules_kept = front_same T.rules; alternatives_kept = front_upto 97 T.alternatives (s ∷ []); terms_kept = front_same T.terms; bytes_kept = front_same T.bytes; code_kept = front_same T.code }

pub put_rule_kept : (T : Tables) (r : Head) → Kept T (with_rule T r)
put_rule_kept T r = record { rules_kept = front_upto 33 T.rules (r ∷ []); alternatives_kept = front_same T.alternatives; terms_kept = front_same T.terms; bytes_kept = front_same T.bytes; code_kept = front_same T.code }

pub alternative_kept : (T : Tables) (ts : List TermTree) → Kept T (emit_alternative T ts)
unfolding emit_alternative
alternative_kept T ts = kept_on T (emit_all emit_term T ts) _ (emit_kept emit_term term_kept T ts) (put_alternative_kept (emit_all emit_term T ts) _)

pub rule_kept : (T : Tables) (r : RuleTree) → Kept T (emit_rule T r)
unfolding emit_rule
rule_kept T r = kept_on T (emit_all emit_alternative T r.alternatives) _ (emit_kept emit_alternative alternative_kept T r.alternatives) (put_rule_kept (emit_all emit_alternative T r.alternatives) _)

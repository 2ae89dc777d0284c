-- What rules take of a draft's limits.
use Rattle.std.specs.Prelude.{ℕ, ◌+◌, Bool, ◌&&◌, List, [], ◌∷◌, length, nat_le}
use Rattle.expr.specs.Trees.{encode}
use Rattle.term.specs.Form.{TermTree}
use Rattle.term.specs.Form as term
use Rattle.rule.specs.Form.{RuleTree}
use Rattle.draft.specs.declared.counts.Counts.{Counts}

abbrev pub none : Counts
none = record { rules = 0; alternatives = 0; terms = 0; bytes = 0; parts = 0 }

abbrev pub plus : Counts → Counts → Counts
plus a b = record { rules = a.rules + b.rules; alternatives = a.alternatives + b.alternatives; terms = a.terms + b.terms; bytes = a.bytes + b.bytes; parts = a.parts + b.parts }

abbrev pub total : {X : Type 0} → (X → Counts) → List X → Counts
total f [] = none
total f (x ∷ xs) = plus (f x) (total f xs)

abbrev pub one_term : ℕ → ℕ → Counts
one_term bytes parts = record { rules = 0; alternatives = 0; terms = 1; bytes = bytes; parts = parts }

-- the code of an expression has one piece for each part and each operator
abbrev pub count_term : TermTree → Counts
count_term (term.literal bs a b) = one_term (length bs) (length (encode a) + length (encode b))
count_term (term.call w a b) = one_term 0 (length (encode a) + length (encode b))
count_term (term.attribute p w e) = one_term 0 (length (encode e))
count_term (term.guard e) = one_term 0 (length (encode e))

abbrev pub count_alternative : List TermTree → Counts
count_alternative ts = plus (total count_term ts) (record { rules = 0; alternatives = 1; terms = 0; bytes = 0; parts = 0 })

abbrev pub count_rule : RuleTree → Counts
count_rule r = plus (total count_alternative r.alternatives) (record { rules = 1; alternatives = 0; terms = 0; bytes = 0; parts = 0 })

unfoldable pub counts : List RuleTree → Counts
counts rs = total count_rule rs

-- 32 rules, 96 alternatives, 256 terms, 512 literal bytes, 1,024 parts and operators
abbrev pub few_enough : Counts → Bool
few_enough c = nat_le c.rules 32 && (nat_le c.alternatives 96 && (nat_le c.terms 256 && (nat_le c.bytes 512 && nat_le c.parts 1024)))

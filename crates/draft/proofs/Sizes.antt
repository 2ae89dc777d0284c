-- How many items stand in the tables after a term, an alternative, a rule was added.
use Rattle.std.proofs.Common.{◌≡◌, ℕ, ◌+◌, ◌-◌, min, List, [], ◌∷◌, ◌++◌, length, ap, ◌∙◌, arith}
use Rattle.arena.proofs.Bounds.{size}
use Rattle.expr.specs.Trees.{encode}
use Rattle.term.specs.Form.{TermTree}
use Rattle.term.specs.Form as term
use Rattle.term.specs.Tables.{Tables, code_after, emit_term}
use Rattle.rule.specs.Form.{RuleTree}
use Rattle.rule.specs.Emission.{emit_all, emit_alternative, emit_rule}
use Rattle.draft.specs.declared.counts.Counts.{Counts}
use Rattle.draft.specs.Limits.{none, plus, total, count_term, count_alternative, count_rule, counts}

-- k more items, as far as n go
abbrev pub By : ℕ → ℕ → ℕ → ℕ → Type 0
By n a k b = b ≡ a + min (n - a) k

pub record Sized (T U : Tables) (k : Counts) : Type 0 where
  pub rules_by : By 33 (length T.rules) k.rules (length U.rules)
  pub alternatives_by : By 97 (length T.alternatives) k.alternatives (length U.alternatives)
  pub terms_by : By 257 (length T.terms) k.terms (length U.terms)
  pub bytes_by : By 513 (length T.bytes) k.bytes (length U.bytes)
  pub parts_by : By 1025 (length T.code) k.parts (length U.code)

by_none : (n a : ℕ) → By n a 0 a
by_none n a = omega arith

by_both : (n a b c k l : ℕ) → By n a k b → By n b l c → By n a (k + l) c
by_both n a b c k l p q = omega arith

pub sized_none : (T : Tables) → Sized T T none
sized_none T = record { rules_by = by_none 33 _; alternatives_by = by_none 97 _; terms_by = by_none 257 _; bytes_by = by_none 513 _; parts_by = by_none 1025 _ }

pub sized_both : (T U V : Tables) (k l : Counts) → Sized T U k → Sized U V l → Sized T V (plus k l)
sized_both T U V k l p q = record {
  rules_by = by_both 33 _ (length U.rules) _ k.rules l.rules p.rules_by q.rules_by;
  alternatives_by = by_both 97 _ (length U.alternatives) _ k.alternatives l.alternatives p.alternatives_by q.alternatives_by;
  terms_by = by_both 257 _ (length U.terms) _ k.terms l.terms p.terms_by q.terms_by;
  bytes_by = by_both 513 _ (length U.bytes) _ k.bytes l.bytes p.bytes_by q.bytes_by;
  parts_by = by_both 1025 _ (length U.code) _ k.parts l.parts p.parts_by q.parts_by;
}

pub term_sized : (T : Tables) (t : TermTree) → Sized T (emit_term T t) (count_term t)
unfolding emit_term
term_sized T (term.literal bs a b) = record {
  rules_by = by_none 33 _;
  alternatives_by = by_none 97 _;
  terms_by = size 257 T.terms _;
  bytes_by = size 513 T.bytes bs;
  parts_by = by_both 1025 _ (length (code_after T.code a)) _ (length (encode a)) (length (encode b)) (size 1025 T.code (encode a)) (size 1025 (code_after T.code a) (encode b));
}
term_sized T (term.call w a b) = record {
  rules_by = by_none 33 _;
  alternatives_by = by_none 97 _;
  terms_by = size 257 T.terms _;
  bytes_by = by_none 513 _;
  parts_by = by_both 1025 _ (length (code_after T.code a)) _ (length (encode a)) (length (encode b)) (size 1025 T.code (encode a)) (size 1025 (code_after T.code a) (encode b));
}
term_sized T (term.attribute p w e) = record { rules_by = by_none 33 _; alternatives_by = by_none 97 _; terms_by = size 257 T.terms _; bytes_by = by_none 513 _; parts_by = size 1025 T.code (encode e) }
term_sized T (term.guard e) = record { rules_by = by_none 33 _; alternatives_by = by_none 97 _; terms_by = size 257 T.terms _; bytes_by = by_none 513 _; parts_by = size 1025 T.code (encode e) }

-- one item after another
pub all_sized : {X : Type 0} (emit : Tables → X → Tables) (count : X → Counts) → ((T : Tables) (x : X) → Sized T (emit T x) (count x)) → (T : Tables) (xs : List X) → Sized T (emit_all emit T xs) (total count xs)
all_sized emit count one T [] = sized_none T
all_sized emit count one T (x ∷ xs) = sized_both T (emit T x) (emit_all emit (emit T x) xs) (count x) (total count xs) (one T x) (all_sized emit count one (emit T x) xs)

pub alternative_sized : (T : Tables) (ts : List TermTree) → Sized T (emit_alternative T ts) (count_alternative ts)
unfolding emit_alternative
alternative_sized T ts =
    let V = emit_all emit_term T ts in
    sized_both T V _ (total count_term ts) _ (all_sized emit_term count_term term_sized T ts) (record { rules_by = by_none 33 _; alternatives_by = size 97 V.alternatives _; terms_by = by_none 257 _; bytes_by = by_none 513 _; parts_by = by_none 1025 _ })

pub rule_sized : (T : Tables) (r : RuleTree) → Sized T (emit_rule T r) (count_rule r)
unfolding emit_rule
rule_sized T r =
    let V = emit_all emit_alternative T r.alternatives in
    sized_both T V _ (total count_alternative r.alternatives) _ (all_sized emit_alternative count_alternative alternative_sized T r.alternatives) (record { rules_by = size 33 V.rules _; alternatives_by = by_none 97 _; terms_by = by_none 257 _; bytes_by = by_none 513 _; parts_by = by_none 1025 _ })

pub rules_sized : (T : Tables) (rs : List RuleTree) → Sized T (emit_all emit_rule T rs) (counts rs)
unfolding counts
rules_sized T rs = all_sized emit_rule count_rule rule_sized T rs

-- ---- counts of two lists
pub same_counts : {a b c d e a' b' c' d' e' : ℕ} → a ≡ a' → b ≡ b' → c ≡ c' → d ≡ d' → e ≡ e' → ◌≡◌ {A = Counts} (record { rules = a; alternatives = b; terms = c; bytes = d; parts = e }) (record { rules = a'; alternatives = b'; terms = c'; bytes = d'; parts = e' })
same_counts p q r s t = cc

plus_none : (c : Counts) → c ≡ plus none c
plus_none c =
    let p : c.rules ≡ 0 + c.rules = omega arith in
    let q : c.alternatives ≡ 0 + c.alternatives = omega arith in
    let r : c.terms ≡ 0 + c.terms = omega arith in
    let s : c.bytes ≡ 0 + c.bytes = omega arith in
    let t : c.parts ≡ 0 + c.parts = omega arith in
    same_counts p q r s t

plus_plus : (a b c : Counts) → plus a (plus b c) ≡ plus (plus a b) c
plus_plus a b c =
    let p : a.rules + (b.rules + c.rules) ≡ a.rules + b.rules + c.rules = omega arith in
    let q : a.alternatives + (b.alternatives + c.alternatives) ≡ a.alternatives + b.alternatives + c.alternatives = omega arith in
    let r : a.terms + (b.terms + c.terms) ≡ a.terms + b.terms + c.terms = omega arith in
    let s : a.bytes + (b.bytes + c.bytes) ≡ a.bytes + b.bytes + c.bytes = omega arith in
    let t : a.parts + (b.parts + c.parts) ≡ a.parts + b.parts + c.parts = omega arith in
    same_counts p q r s t

pub counts_both : (rs ss : List RuleTree) → counts (rs ++ ss) ≡ plus (counts rs) (counts ss)
unfolding counts
counts_both [] ss = plus_none (total count_rule ss)
counts_both (r ∷ rs) ss = ap (plus (count_rule r)) (counts_both rs ss) ∙ plus_plus (count_rule r) (total count_rule rs) (total count_rule ss)

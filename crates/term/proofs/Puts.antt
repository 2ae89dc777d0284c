-- How the tables grow by one term.
use Rattle.std.proofs.Common.{◌≡◌, ℕ, ◌-◌, List, [], ◌∷◌, ◌++◌, map, length, take, sym, refl, ap, ◌∙◌, append_assoc, append-nil}
use Rattle.arena.specs.Bounded.{upto}
use Rattle.arena.proofs.Bounds.{seen}
use Rattle.code.specs.Pieces.{Piece}
use Rattle.expr.specs.Trees.{Tree}
use Rattle.expr.specs.Reading.{Grew}
use Rattle.arena.specs.declared.span.Span.{Span}
use Rattle.term.specs.Tables.{Term}
use Rattle.term.specs.Form.{TermTree}
use Rattle.term.specs.Form as tree
use Rattle.term.specs.Tables.{Tables, Entry, entry, Head, Kept, Front, code_after, emit_term}

-- ---- fronts
pub front_same : {X : Type 0} (xs : List X) → Front xs xs
front_same xs = ([], sym (append-nil xs))

pub front_on : {X : Type 0} (xs ys zs : List X) → Front xs ys → Front ys zs → Front xs zs
front_on xs ys zs p q = (p.0 ++ q.0, q.1 ∙ ap (λ l. l ++ q.0) p.1 ∙ append_assoc xs p.0 q.0)

pub front_upto : {X : Type 0} (n : ℕ) (xs ys : List X) → Front xs (upto n xs ys)
front_upto n xs ys = (take (n - length xs) ys, refl)

pub kept_same : (T : Tables) → Kept T T
kept_same T = record { rules_kept = front_same T.rules; alternatives_kept = front_same T.alternatives; terms_kept = front_same T.terms; bytes_kept = front_same T.bytes; code_kept = front_same T.code }

pub kept_on : (T U V : Tables) → Kept T U → Kept U V → Kept T V
kept_on T U V p q = record {
  rules_kept = front_on T.rules U.rules V.rules p.rules_kept q.rules_kept;
  alternatives_kept = front_on T.alternatives U.alternatives V.alternatives p.alternatives_kept q.alternatives_kept;
  terms_kept = front_on T.terms U.terms V.terms p.terms_kept q.terms_kept;
  bytes_kept = front_on T.bytes U.bytes V.bytes p.bytes_kept q.bytes_kept;
  code_kept = front_on T.code U.code V.code p.code_kept q.code_kept;
}

-- only code was appended
pub kept_code : (T : Tables) (code : List Piece) → Grew T.code code → Kept T (record { rules = T.rules; alternatives = T.alternatives; terms = T.terms; bytes = T.bytes; code = code })
kept_code T code grew = record { rules_kept = front_same T.rules; alternatives_kept = front_same T.alternatives; terms_kept = front_same T.terms; bytes_kept = front_same T.bytes; code_kept = grew }

-- two pieces of code
pub grew_both : (before : List Piece) (a b : Tree) → Front before (code_after (code_after before a) b)
grew_both before a b = front_on before (code_after before a) (code_after (code_after before a) b) (take (1025 - length before) _, refl) (take (1025 - length (code_after before a)) _, refl)

pub term_kept : (T : Tables) (t : TermTree) → Kept T (emit_term T t)
unfolding emit_term
term_kept T (tree.literal bs a b) = record { rules_kept = front_same T.rules; alternatives_kept = front_same T.alternatives; terms_kept = front_upto 257 T.terms _; bytes_kept = front_upto 513 T.bytes bs; code_kept = grew_both T.code a b }
term_kept T (tree.call w a b) = record { rules_kept = front_same T.rules; alternatives_kept = front_same T.alternatives; terms_kept = front_upto 257 T.terms _; bytes_kept = front_same T.bytes; code_kept = grew_both T.code a b }
term_kept T (tree.attribute p w e) = record { rules_kept = front_same T.rules; alternatives_kept = front_same T.alternatives; terms_kept = front_upto 257 T.terms _; bytes_kept = front_same T.bytes; code_kept = front_upto 1025 T.code _ }
term_kept T (tree.guard e) = record { rules_kept = front_same T.rules; alternatives_kept = front_same T.alternatives; terms_kept = front_upto 257 T.terms _; bytes_kept = front_same T.bytes; code_kept = front_upto 1025 T.code _ }

-- ---- one term is put
pub put_entry : (a b : List Term) (x : Term) (e : Entry) → b ≡ upto 257 a (x ∷ []) → entry x ≡ e → map entry b ≡ upto 257 (map entry a) (e ∷ [])
put_entry a b x e put is = ap (map entry) put ∙ seen entry 257 a (x ∷ []) ∙ ap (λ e. upto 257 (map entry a) (e ∷ [])) is

-- tables whose parts are equal
pub same_tables : {rs : List Head} {ss : List Span} {ts us : List Entry} {bs cs : List ℕ} {ps qs : List Piece} → ts ≡ us → bs ≡ cs → ps ≡ qs → ◌≡◌ {A = Tables} (record { rules = rs; alternatives = ss; terms = ts; bytes = bs; code = ps }) (record { rules = rs; alternatives = ss; terms = us; bytes = cs; code = qs })
same_tables p q r = cc

-- What the tables show after a term, an alternative, a rule was added: what they showed, and then the tree that was read.
use Rattle.std.proofs.Common.{◌≡◌, ℕ, ◌-◌, ◌<◌, ◌≤◌, List, [], ◌∷◌, ◌++◌, map, length, take, sym, refl, ap, ◌∙◌, subst, append_assoc, append-nil, arith, length-append}
use Rattle.std.proofs.lemmas.List.{length-map, map-append}
use Rattle.arena.specs.Bounded.{upto}
use Rattle.arena.specs.Parts.{part}
use Rattle.arena.proofs.Bounds.{whole}
use Rattle.arena.proofs.Pieces.{part_new, part_kept}
use Rattle.code.specs.Pieces.{Piece}
use Rattle.code.specs.Pieces as piece
use Rattle.expr.specs.Trees.{Tree, encode}
use Rattle.expr.specs.Trees as tree
use Rattle.term.specs.Form.{TermTree}
use Rattle.term.specs.Form as term
use Rattle.term.specs.Tables.{Tables, Entry, Head, Front, Kept, between, code_after, bytes_after, span_of, ends_of, with_term, emit_term}
use Rattle.term.specs.Tables as entry
use Rattle.term.proofs.Puts.{front_upto, grew_both, front_same, term_kept}
use Rattle.rule.specs.Form.{RuleTree}
use Rattle.rule.specs.Emission.{emit_all, emit_alternative, emit_rule, with_alternative, with_rule}
use Rattle.rule.specs.Keeping.{emit_kept, put_alternative_kept, put_rule_kept, alternative_kept, rule_kept}
use Rattle.draft.specs.Shown.{stack_after, top, tree_of, shown_term, terms_of, alternatives_of, shown_rule, rules_of}
use Rattle.draft.specs.Reach.{most, code_end, bytes_end, span_end, head_end}
use Rattle.draft.proofs.Parts.{most_append, map_kept}

-- no part reaches past what stands there
pub record Sound (T : Tables) : Type 0 where
  pub code_in : most code_end T.terms ≤ length T.code
  pub bytes_in : most bytes_end T.terms ≤ length T.bytes
  pub terms_in : most span_end T.alternatives ≤ length T.terms
  pub alternatives_in : most head_end T.rules ≤ length T.alternatives

-- no limit was passed
pub record Fits (T : Tables) : Type 0 where
  pub rules_fit : length T.rules < 33
  pub alternatives_fit : length T.alternatives < 97
  pub terms_fit : length T.terms < 257
  pub bytes_fit : length T.bytes < 513
  pub code_fits : length T.code < 1025

pub longer : {X : Type 0} (xs ys : List X) → Front xs ys → length xs ≤ length ys
longer xs ys p = let e = ap length p.1 ∙ length-append xs p.0 in omega arith

pub fits_before : (T U : Tables) → Kept T U → Fits U → Fits T
fits_before T U k f =
    let a = longer T.rules U.rules k.rules_kept in
    let b = longer T.alternatives U.alternatives k.alternatives_kept in
    let c = longer T.terms U.terms k.terms_kept in
    let d = longer T.bytes U.bytes k.bytes_kept in
    let e = longer T.code U.code k.code_kept in
    record { rules_fit = omega (arith, f.rules_fit); alternatives_fit = omega (arith, f.alternatives_fit); terms_fit = omega (arith, f.terms_fit); bytes_fit = omega (arith, f.bytes_fit); code_fits = omega (arith, f.code_fits) }

-- ---- code shows the tree that it was written from
decoded : (t : Tree) (ps : List Piece) (ts : List Tree) → stack_after (encode t ++ ps) ts ≡ stack_after ps (t ∷ ts)
decoded (tree.number n) ps ts = refl
decoded tree.eoi ps ts = refl
decoded (tree.name w) ps ts = refl
decoded (tree.field w a) ps ts = refl
decoded (tree.bracketed t) ps ts = ap (λ l. stack_after l ts) (append_assoc (encode t) (piece.bracket ∷ []) ps) ∙ decoded t (piece.bracket ∷ ps) ts
decoded (tree.binary o l r) ps ts =
    ap (λ l. stack_after l ts) (append_assoc (encode l) (encode r ++ piece.operator o ∷ []) ps ∙ ap (λ k. encode l ++ k) (append_assoc (encode r) (piece.operator o ∷ []) ps))
    ∙ decoded l (encode r ++ piece.operator o ∷ ps) ts
    ∙ decoded r (piece.operator o ∷ ps) (l ∷ ts)

pub tree_encoded : (t : Tree) → tree_of (encode t) ≡ t
unfolding tree_of
tree_encoded t = ap (λ l. top (stack_after l [])) (sym (append-nil (encode t))) ∙ ap top (decoded t [] [])

pub span_shows : (code : List Piece) (e : Tree) → length (code_after code e) < 1025 → tree_of (part (span_of code e) (code_after code e)) ≡ e
span_shows code e h =
    let all = whole 1025 code (encode e) h in
    ap (λ l. tree_of (part (span_of code e) l)) all ∙ ap tree_of (part_new code (encode e) (span_of code e) refl (ap length all)) ∙ tree_encoded e

pub left_shows : (code : List Piece) (a b : Tree) → length (code_after (code_after code a) b) < 1025 → tree_of (part (span_of code a) (code_after (code_after code a) b)) ≡ a
left_shows code a b h =
    let first = code_after code a in
    let more = longer first (code_after first b) (front_upto 1025 first (encode b)) in
    ap tree_of (part_kept first (take (1025 - length first) (encode b)) (span_of code a) (omega arith)) ∙ span_shows code a (omega arith)

pub bytes_show : (bytes bs : List ℕ) → length (bytes_after bytes bs) < 513 → part (between bytes (bytes_after bytes bs)) (bytes_after bytes bs) ≡ bs
bytes_show bytes bs h =
    let all = whole 513 bytes bs h in
    ap (part (between bytes (bytes_after bytes bs))) all ∙ part_new bytes bs (between bytes (bytes_after bytes bs)) refl (ap length all)

-- ---- more code and more bytes leave a term as it was
code_kept_by : (code more : List Piece) (bytes : List ℕ) (x : Entry) → code_end x ≤ length code → shown_term (code ++ more) bytes x ≡ shown_term code bytes x
code_kept_by code more bytes (entry.literal s e) h =
    ap (λ l. term.literal (part s bytes) (tree_of l) (tree_of (part e.right (code ++ more)))) (part_kept code more e.left (omega arith))
    ∙ ap (λ l. term.literal (part s bytes) (tree_of (part e.left code)) (tree_of l)) (part_kept code more e.right (omega arith))
code_kept_by code more bytes (entry.call w e) h =
    ap (λ l. term.call w (tree_of l) (tree_of (part e.right (code ++ more)))) (part_kept code more e.left (omega arith))
    ∙ ap (λ l. term.call w (tree_of (part e.left code)) (tree_of l)) (part_kept code more e.right (omega arith))
code_kept_by code more bytes (entry.attribute p w s) h = ap (λ l. term.attribute p w (tree_of l)) (part_kept code more s h)
code_kept_by code more bytes (entry.guard s) h = ap (λ l. term.guard (tree_of l)) (part_kept code more s h)

bytes_kept_by : (code : List Piece) (bytes more : List ℕ) (x : Entry) → bytes_end x ≤ length bytes → shown_term code (bytes ++ more) x ≡ shown_term code bytes x
bytes_kept_by code bytes more (entry.literal s e) h = ap (λ l. term.literal l (tree_of (part e.left code)) (tree_of (part e.right code))) (part_kept bytes more s h)
bytes_kept_by code bytes more (entry.call w e) h = refl
bytes_kept_by code bytes more (entry.attribute p w s) h = refl
bytes_kept_by code bytes more (entry.guard s) h = refl

-- ---- a term
module _ (T : Tables) (c : List Piece) (b : List ℕ) (x : Entry) (t : TermTree) (sound : Sound T) (codes : Front T.code c) (bytes : Front T.bytes b) (fits : Fits (with_term T c b x)) where
  put_all : upto 257 T.terms (x ∷ []) ≡ T.terms ++ x ∷ []
  put_all = whole 257 T.terms (x ∷ []) fits.terms_fit

  before_same : map (shown_term c b) T.terms ≡ terms_of T
  before_same =
      ap (λ l. map (shown_term l b) T.terms) codes.1
      ∙ map_kept (shown_term (T.code ++ codes.0) b) (shown_term T.code b) code_end (length T.code) (code_kept_by T.code codes.0 b) T.terms sound.code_in
      ∙ ap (λ l. map (shown_term T.code l) T.terms) bytes.1
      ∙ map_kept (shown_term T.code (T.bytes ++ bytes.0)) (shown_term T.code T.bytes) bytes_end (length T.bytes) (bytes_kept_by T.code T.bytes bytes.0) T.terms sound.bytes_in

  pub terms_put : shown_term c b x ≡ t → terms_of (with_term T c b x) ≡ terms_of T ++ t ∷ []
  terms_put is = ap (map (shown_term c b)) put_all ∙ map-append (shown_term c b) T.terms (x ∷ []) ∙ ap (λ l. l ++ shown_term c b x ∷ []) before_same ∙ ap (λ y. terms_of T ++ y ∷ []) is

  pub sound_put : code_end x ≤ length c → bytes_end x ≤ length b → Sound (with_term T c b x)
  sound_put h k =
      let more-code = longer T.code c codes in
      let more_bytes = longer T.bytes b bytes in
      let more-terms = longer T.terms (upto 257 T.terms (x ∷ [])) (front_upto 257 T.terms (x ∷ [])) in
      record {
        code_in = subst (λ l. most code_end l ≤ length c) (sym put_all) (most_append code_end T.terms (x ∷ []) (length c) (omega (arith, sound.code_in)) (omega arith));
        bytes_in = subst (λ l. most bytes_end l ≤ length b) (sym put_all) (most_append bytes_end T.terms (x ∷ []) (length b) (omega (arith, sound.bytes_in)) (omega arith));
        terms_in = omega (arith, sound.terms_in);
        alternatives_in = sound.alternatives_in;
      }

-- the tables after an item show it after what they showed, and are sound
abbrev pub Shows : {X : Type 0} → (Tables → List X) → Tables → List X → Tables → Type 0
Shows view T xs U = (view U ≡ view T ++ xs) × Sound U

pub term_shows : (T : Tables) (t : TermTree) → Sound T → Fits (emit_term T t) → Shows terms_of T (t ∷ []) (emit_term T t)
unfolding emit_term
term_shows T (term.literal bs a b) s f =
    let c = code_after (code_after T.code a) b in
    let bytes = bytes_after T.bytes bs in
    let x = entry.literal (between T.bytes bytes) (ends_of T.code a b) in
    let more = longer (code_after T.code a) c (front_upto 1025 (code_after T.code a) (encode b)) in
    let one : part (between T.bytes bytes) bytes ≡ bs = bytes_show T.bytes bs f.bytes_fit in
    let two : tree_of (part (span_of T.code a) c) ≡ a = left_shows T.code a b f.code_fits in
    let three : tree_of (part (span_of (code_after T.code a) b) c) ≡ b = span_shows (code_after T.code a) b f.code_fits in
    (terms_put T c bytes x (term.literal bs a b) s (grew_both T.code a b) (front_upto 513 T.bytes bs) f (cc (one, two, three)), sound_put T c bytes x (term.literal bs a b) s (grew_both T.code a b) (front_upto 513 T.bytes bs) f (omega arith) (omega arith))
term_shows T (term.call w a b) s f =
    let c = code_after (code_after T.code a) b in
    let x = entry.call w (ends_of T.code a b) in
    let more = longer (code_after T.code a) c (front_upto 1025 (code_after T.code a) (encode b)) in
    let two : tree_of (part (span_of T.code a) c) ≡ a = left_shows T.code a b f.code_fits in
    let three : tree_of (part (span_of (code_after T.code a) b) c) ≡ b = span_shows (code_after T.code a) b f.code_fits in
    (terms_put T c T.bytes x (term.call w a b) s (grew_both T.code a b) (front_same T.bytes) f (cc (two, three)), sound_put T c T.bytes x (term.call w a b) s (grew_both T.code a b) (front_same T.bytes) f (omega arith) (omega arith))
term_shows T (term.attribute p w e) s f =
    let c = code_after T.code e in
    let x = entry.attribute p w (span_of T.code e) in
    (terms_put T c T.bytes x (term.attribute p w e) s (front_upto 1025 T.code (encode e)) (front_same T.bytes) f (ap (term.attribute p w) (span_shows T.code e f.code_fits)), sound_put T c T.bytes x (term.attribute p w e) s (front_upto 1025 T.code (encode e)) (front_same T.bytes) f (omega arith) (omega arith))
term_shows T (term.guard e) s f =
    let c = code_after T.code e in
    let x = entry.guard (span_of T.code e) in
    (terms_put T c T.bytes x (term.guard e) s (front_upto 1025 T.code (encode e)) (front_same T.bytes) f (ap term.guard (span_shows T.code e f.code_fits)), sound_put T c T.bytes x (term.guard e) s (front_upto 1025 T.code (encode e)) (front_same T.bytes) f (omega arith) (omega arith))

-- ---- one item after another
module _ {X : Type 0} (emit : Tables → X → Tables) (view : Tables → List X) (kept : (T : Tables) (x : X) → Kept T (emit T x)) (one : (T : Tables) (x : X) → Sound T → Fits (emit T x) → Shows view T (x ∷ []) (emit T x)) where
  pub all_show : (T : Tables) (xs : List X) → Sound T → Fits (emit_all emit T xs) → Shows view T xs (emit_all emit T xs)
  all_show T [] s f = (sym (append-nil (view T)), s)
  all_show T (x ∷ xs) s f =
      let first = one T x s (fits_before (emit T x) (emit_all emit (emit T x) xs) (emit_kept emit kept (emit T x) xs) f) in
      let more = all_show (emit T x) xs first.1 f in
      (more.0 ∙ ap (λ l. l ++ xs) first.0 ∙ append_assoc (view T) (x ∷ []) xs, more.1)

-- ---- an alternative
term_leaves : (T : Tables) (t : TermTree) → (emit_term T t).alternatives ≡ T.alternatives
unfolding emit_term
term_leaves T (term.literal bs a b) = refl
term_leaves T (term.call w a b) = refl
term_leaves T (term.attribute p w e) = refl
term_leaves T (term.guard e) = refl

terms_leave : (T : Tables) (ts : List TermTree) → (emit_all emit_term T ts).alternatives ≡ T.alternatives
terms_leave T [] = refl
terms_leave T (t ∷ ts) = terms_leave (emit_term T t) ts ∙ term_leaves T t

pub alternative_shows : (T : Tables) (ts : List TermTree) → Sound T → Fits (emit_alternative T ts) → Shows alternatives_of T (ts ∷ []) (emit_alternative T ts)
unfolding emit_alternative
alternative_shows T ts s f =
    let V = emit_all emit_term T ts in
    let new = between T.terms V.terms in
    let U = with_alternative V new in
    let fits = fits_before V U (put_alternative_kept V new) f in
    let read = all_show emit_term terms_of term_kept term_shows T ts s fits in
    let sv = read.1 in
    let put = whole 97 V.alternatives (new ∷ []) f.alternatives_fit in
    let more = longer V.alternatives U.alternatives (front_upto 97 V.alternatives (new ∷ [])) in
    let size = length-map T.terms (shown_term T.code T.bytes) in
    let size-v = length-map V.terms (shown_term V.code V.bytes) in
    let before : map (λ p. part p (terms_of T ++ ts)) T.alternatives ≡ alternatives_of T = map_kept (λ p. part p (terms_of T ++ ts)) (λ p. part p (terms_of T)) span_end (length (terms_of T)) (λ p h. part_kept (terms_of T) ts p h) T.alternatives (omega (arith, s.terms_in)) in
    let last : part new (terms_of T ++ ts) ≡ ts = part_new (terms_of T) ts new (sym size) (sym size-v ∙ ap length read.0) in (
      ap (λ l. map (λ p. part p l) U.alternatives) read.0
          ∙ ap (map (λ p. part p (terms_of T ++ ts))) (put ∙ ap (λ l. l ++ new ∷ []) (terms_leave T ts))
          ∙ map-append (λ p. part p (terms_of T ++ ts)) T.alternatives (new ∷ [])
          ∙ ap (λ l. l ++ part new (terms_of T ++ ts) ∷ []) before
          ∙ ap (λ l. alternatives_of T ++ l ∷ []) last,
      record {
        code_in = sv.code_in;
        bytes_in = sv.bytes_in;
        terms_in = subst (λ l. most span_end l ≤ length V.terms) (sym put) (most_append span_end V.alternatives (new ∷ []) (length V.terms) sv.terms_in (omega arith));
        alternatives_in = omega (arith, sv.alternatives_in);
      },
    )

-- ---- a rule
term_leaves_rules : (T : Tables) (t : TermTree) → (emit_term T t).rules ≡ T.rules
unfolding emit_term
term_leaves_rules T (term.literal bs a b) = refl
term_leaves_rules T (term.call w a b) = refl
term_leaves_rules T (term.attribute p w e) = refl
term_leaves_rules T (term.guard e) = refl

terms_leave_rules : (T : Tables) (ts : List TermTree) → (emit_all emit_term T ts).rules ≡ T.rules
terms_leave_rules T [] = refl
terms_leave_rules T (t ∷ ts) = terms_leave_rules (emit_term T t) ts ∙ term_leaves_rules T t

alternative_leaves : (T : Tables) (ts : List TermTree) → (emit_alternative T ts).rules ≡ T.rules
unfolding emit_alternative
alternative_leaves T ts = terms_leave_rules T ts

alternatives_leave : (T : Tables) (bs : List (List TermTree)) → (emit_all emit_alternative T bs).rules ≡ T.rules
alternatives_leave T [] = refl
alternatives_leave T (b ∷ bs) = alternatives_leave (emit_alternative T b) bs ∙ alternative_leaves T b

pub rule_shows : (T : Tables) (r : RuleTree) → Sound T → Fits (emit_rule T r) → Shows rules_of T (r ∷ []) (emit_rule T r)
unfolding emit_rule
rule_shows T r s f =
    let bs = r.alternatives in
    let V = emit_all emit_alternative T bs in
    let span = between T.alternatives V.alternatives in
    let new : Head = record { name = r.name; place = r.place; branches = span } in
    let U = with_rule V new in
    let fits = fits_before V U (put_rule_kept V new) f in
    let read = all_show emit_alternative alternatives_of alternative_kept alternative_shows T bs s fits in
    let sv = read.1 in
    let put = whole 33 V.rules (new ∷ []) f.rules_fit in
    let size = length-map T.alternatives (λ p. part p (terms_of T)) in
    let size-v = length-map V.alternatives (λ p. part p (terms_of V)) in
    let before : map (shown_rule (alternatives_of T ++ bs)) T.rules ≡ rules_of T = map_kept (shown_rule (alternatives_of T ++ bs)) (shown_rule (alternatives_of T)) head_end (length (alternatives_of T)) (λ h k. ap (λ l. record { place = h.place; name = h.name; alternatives = l }) (part_kept (alternatives_of T) bs h.branches k)) T.rules (omega (arith, s.alternatives_in)) in
    let last : shown_rule (alternatives_of T ++ bs) new ≡ r = ap (λ l. record { place = r.place; name = r.name; alternatives = l }) (part_new (alternatives_of T) bs span (sym size) (sym size-v ∙ ap length read.0)) in (
      ap (λ l. map (shown_rule l) U.rules) read.0
          ∙ ap (map (shown_rule (alternatives_of T ++ bs))) (put ∙ ap (λ l. l ++ new ∷ []) (alternatives_leave T bs))
          ∙ map-append (shown_rule (alternatives_of T ++ bs)) T.rules (new ∷ [])
          ∙ ap (λ l. l ++ shown_rule (alternatives_of T ++ bs) new ∷ []) before
          ∙ ap (λ x. rules_of T ++ x ∷ []) last,
      record {
        code_in = sv.code_in;
        bytes_in = sv.bytes_in;
        terms_in = sv.terms_in;
        alternatives_in = subst (λ l. most head_end l ≤ length V.alternatives) (sym put) (most_append head_end V.rules (new ∷ []) (length V.alternatives) sv.alternatives_in (omega arith));
      },
    )

pub rules_show : (T : Tables) (rs : List RuleTree) → Sound T → Fits (emit_all emit_rule T rs) → Shows rules_of T rs (emit_all emit_rule T rs)
rules_show T rs s f = all_show emit_rule rules_of rule_kept rule_shows T rs s f

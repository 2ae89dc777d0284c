-- The reach only grows, and a run depends on the bytes inside it alone. `Alike` relates a run on one list of bytes with
-- the same run on another; every way of joining runs keeps it.
use Rattle.std.proofs.Common.{◌≡◌, ℕ, zero, suc, ◌+◌, ◌-◌, ◌<◌, ◌≤◌, min, Bool, true, false, cond, eqb, ltb, ◌≢◌, ◌⊎◌, List, [], ◌∷◌, length, get_or, take, drop, set, Some, None, Option, sym, refl, ap, ◌∙◌, inl, inr, arith, length-drop, length-take, get_or-drop, get_or-set_other, get_or-take, ext_get_or}
use mathlib.Core.Path.{fun_ext}
use lib.Seq.{sets, length-sets}
use Rattle.std.proofs.lemmas.Bool.Decides.{nat_tests}
use Rattle.input.specs.Bytes.{in_order}
use Rattle.fields.specs.Fields.{Fields}
use Rattle.fields.specs.declared.reading.Reading.{Reading}
use Rattle.meaning.specs.Syntax.{Term, Alternative, Grammar}
use Rattle.meaning.specs.Syntax.Term.{literal, call, attribute, guard}
use Rattle.input.specs.Windows.{cover}
use Rattle.meaning.specs.Windows.{bytes_in}
use Rattle.meaning.specs.Values.{Progress}
use Rattle.meaning.specs.Runs.{Ran, Run, goes_on, instead, ◌>>=◌, ◌>>◌, ◌or_else◌, need, have}
use Rattle.meaning.specs.Runs.Ran.{succeeds, fails, stops}
use Rattle.meaning.specs.Meaning.{Tree, Replies, reads, same, matches, read_of, noted, field, one_more, begin, term, terms, alternatives, start, outcome, root, at_first, parse}
use Rattle.meaning.specs.Locality.{Within, SameIn, Locality, Untouched, SameReaders}
use Rattle.meaning.specs.declared.answer.Answer.TheVariants.{Budget, Depth, Nodes}
use Rattle.meaning.specs.declared.run.Limits.{Limits}
use Rattle.meaning.specs.declared.run.Start.{Start}
use Rattle.meaning.specs.declared.run.State.{State}
use Rattle.input.specs.declared.window.Window.{Window}
use Rattle.meaning.proofs.Readers.{same_front as answers_by_front}

-- ---- windows

cover_left : (v w : Window) (k : ℕ) → Within k v → Within k (cover v w)
unfolding cover
cover_left v w k h = grind (arith, nat_tests)

cover_right : (v w : Window) (k : ℕ) → Within k w → Within k (cover v w)
unfolding cover
cover_right v w k h = grind (arith, nat_tests)

-- ---- runs

abbrev after : {A : Type 0} → Ran A → State
after (succeeds a s) = s
after (fails s) = s
after (stops n s) = s

abbrev Grows : State → State → Type 0
Grows s t = (k : ℕ) → Within k s.reach → Within k t.reach

module _ (xs ys : List ℕ) where
  abbrev Agree : State → Type 0
  Agree s = SameIn s.reach xs ys

  -- m on xs and n on ys: the reach grows, and if the lists agree in it, the two come to the same
  record Alike {A : Type 0} (m n : Run A) : Type 0 where
    grows : (s : State) → Grows s (after (m s))
    agree : (s : State) → Agree (after (m s)) → m s ≡ n s

  quiet : {A : Type 0} {m : Run A} → ((s : State) → Grows s (after (m s))) → Alike m m
  quiet g = record { grows = g; agree = λ s _. refl }

  gives : {A : Type 0} (a : A) → Alike (succeeds a) (succeeds a)
  gives a = quiet (λ s k h. h)

  failed : {A : Type 0} → Alike {A = A} fails fails
  failed = quiet (λ s k h. h)

  module _ {A B : Type 0} {f g : A → Run B} (next : (a : A) → Alike (f a) (g a)) where
    on_grows : (r : Ran A) (s : State) → Grows s (after r) → Grows s (after (goes_on r f))
    unfolding goes_on
    on_grows (succeeds a t) s h = λ k w. (next a).grows t k (h k w)
    on_grows (fails t) s h = h
    on_grows (stops n t) s h = h

    on_agree : (r q : Ran A) → (Agree (after r) → r ≡ q) → Agree (after (goes_on r f)) → goes_on r f ≡ goes_on q g
    unfolding goes_on
    on_agree (succeeds a t) q e h = (next a).agree t h ∙ ap (λ p. goes_on p g) (e (λ k w. h k ((next a).grows t k w)))
    on_agree (fails t) q e h = ap (λ p. goes_on p g) (e h)
    on_agree (stops n t) q e h = ap (λ p. goes_on p g) (e h)

    bound : {m n : Run A} → Alike m n → Alike (m >>= f) (n >>= g)
    unfolding ◌>>=◌
    bound {m} {n} first = record { grows = λ s. on_grows (m s) s (first.grows s); agree = λ s. on_agree (m s) (n s) (first.agree s) }

  followed : {A B : Type 0} {m n : Run A} {p q : Run B} → Alike m n → Alike p q → Alike (m >> p) (n >> q)
  unfolding ◌>>◌
  followed first second = bound (λ _. second) first

  module _ {A : Type 0} {p q : Run A} (second : Alike p q) where
    else_grows : (r : Ran A) (s : State) → Grows s (after r) → Grows s (after (instead r p))
    unfolding instead
    else_grows (succeeds a t) s h = h
    else_grows (fails t) s h = λ k w. second.grows t k (h k w)
    else_grows (stops n t) s h = h

    else_agree : (r r' : Ran A) → (Agree (after r) → r ≡ r') → Agree (after (instead r p)) → instead r p ≡ instead r' q
    unfolding instead
    else_agree (succeeds a t) r' e h = ap (λ z. instead z q) (e h)
    else_agree (fails t) r' e h = second.agree t h ∙ ap (λ z. instead z q) (e (λ k w. h k (second.grows t k w)))
    else_agree (stops n t) r' e h = ap (λ z. instead z q) (e h)

    tried : {m n : Run A} → Alike m n → Alike (m or_else p) (n or_else q)
    unfolding ◌or_else◌
    tried {m} {n} first = record { grows = λ s. else_grows (m s) s (first.grows s); agree = λ s. else_agree (m s) (n s) (first.agree s) }

  chosen : {A : Type 0} (b : Bool) {m n p q : Run A} → Alike m n → Alike p q → Alike (cond b m p) (cond b n q)
  chosen true h k = h
  chosen false h k = k

  needed : (b : Bool) → Alike (need b) (need b)
  unfolding need
  needed true = gives tt
  needed false = failed

  had : {A : Type 0} (o : Option A) → Alike (have o) (have o)
  unfolding have
  had None = failed
  had (Some a) = gives a

  read_in : (w : Window) → Alike (reads w) (reads w)
  unfolding reads
  read_in w = quiet (λ s. cover_left s.reach w)

  begun : (limits : Limits) (frames me : ℕ) → Alike (begin limits frames me) (begin limits frames me)
  unfolding begin one_more
  begun limits frames me = quiet (λ s. go s (eqb s.starts limits.budget) (eqb frames 0) (eqb me limits.nodes))
    where
      go : (s : State) (a b c : Bool) → Grows s (after (cond a (stops Budget) (cond b (stops Depth) (cond c (stops Nodes) one_more)) s))
      go s true b c = λ k h. h
      go s false true c = λ k h. h
      go s false false true = λ k h. h
      go s false false false = λ k h. h

  -- ---- the bytes

  module _ (long : length xs ≡ length ys) where
    long_cut : (m n : ℕ) → length (take n (drop m xs)) ≡ length (take n (drop m ys))
    long_cut m n = simp (length-take, length-drop, long)

    -- a cut out of either list, if they have the same bytes there
    same_cut : (m n : ℕ) → SameIn (record { left = m; right = m + n }) xs ys → take n (drop m xs) ≡ take n (drop m ys)
    same_cut m n h =
        ext_get_or 0 _ _ (long_cut m n)
        (λ i lt.
        let below : i < min n (length xs - m) = simp (length-take, length-drop) at lt in
        let first : i < n = omega arith in
        simp (get_or-take, get_or-drop) (h (m + i) (omega arith, omega arith)))

    same_bytes : (w : Window) → SameIn w xs ys → bytes_in xs w ≡ bytes_in ys w
    unfolding bytes_in
    same_bytes w h = by _ ∙ ap (λ n. cond (in_order w.left w.right n) (take (w.right - w.left) (drop w.left ys)) []) long
      where
        by : (b : Bool) → cond b (take (w.right - w.left) (drop w.left xs)) [] ≡ cond b (take (w.right - w.left) (drop w.left ys)) []
        by true = same_cut w.left (w.right - w.left) (λ k i. h k (i.0, omega (arith, i.0, i.1)))
        by false = refl

    long_bytes : (w : Window) → length (bytes_in ys w) ≡ length (bytes_in xs w)
    unfolding bytes_in
    long_bytes w = ap (λ n. length (cond (in_order w.left w.right n) (take (w.right - w.left) (drop w.left ys)) [])) (sym long) ∙ by _
      where
        by : (b : Bool) → length (cond b (take (w.right - w.left) (drop w.left ys)) []) ≡ length (cond b (take (w.right - w.left) (drop w.left xs)) [])
        by true = sym (long_cut w.left (w.right - w.left))
        by false = refl

    same_front : (w : Window) (u : ℕ) → SameIn (record { left = w.left; right = w.left + u }) xs ys → take u (bytes_in ys w) ≡ take u (bytes_in xs w)
    unfolding bytes_in
    same_front w u h = ap (λ n. take u (cond (in_order w.left w.right n) (take (w.right - w.left) (drop w.left ys)) [])) (sym long) ∙ by _
      where
        by : (b : Bool) → take u (cond b (take (w.right - w.left) (drop w.left ys)) []) ≡ take u (cond b (take (w.right - w.left) (drop w.left xs)) [])
        by true =
            ext_get_or 0 _ _ (simp (length-take, length-drop, long))
            (λ i lt.
            let below : i < min u (min (w.right - w.left) (length ys - w.left)) = simp (length-take, length-drop) at lt in
            let first : i < u = omega arith in
            let inside : i < w.right - w.left = omega arith in
            simp (get_or-take, get_or-drop) (sym (h (w.left + i) (omega arith, omega arith))))
        by false = refl

    matched : (w : Window) (s : List ℕ) → Alike (matches xs w s) (matches ys w s)
    unfolding matches ◌>>◌ ◌>>=◌ goes_on reads
    matched w s =
        let b = same (bytes_in xs w) s in
        record {
          grows = (followed (read_in w) (needed b)).grows;
          agree = λ t h. ap (λ z. (reads w >> need (same z s)) t) (same_bytes w (λ k i. h k ((needed b).grows _ k (cover_right t.reach w k i))));
        }

    module _ (fields : Fields) where
      abbrev read : Replies
      read = read_of fields

      noted_grows : (w : Window) (o : Option Reading) (t : State) → Grows t (after (noted w o t))
      unfolding noted
      noted_grows w None = (followed (read_in w) failed).grows
      noted_grows w (Some f) = (followed (read_in (record { left = w.left; right = w.left + f.used })) (gives f)).grows

      noted_agree : (n : ℕ) (w : Window) (o : Option Reading) → read n (bytes_in xs w) ≡ o → (t : State) → Agree (after (noted w o t)) → noted w o t ≡ noted w (read n (bytes_in ys w)) t
      unfolding noted ◌>>◌ ◌>>=◌ goes_on reads
      noted_agree n w None e t h = ap (λ z. noted w z t) (sym e ∙ ap (read n) (same_bytes w (λ k i. h k (cover_right t.reach w k i))))
      noted_agree n w (Some f) e t h =
          let front = same_front w f.used (λ k i. h k (cover_right t.reach _ k i)) in
          ap (λ z. noted w z t) (sym (answers_by_front fields n _ f _ e (long_bytes w) front))

      filled : (n : ℕ) (w : Window) → Alike (field read xs n w) (field read ys n w)
      unfolding field
      filled n w = record { grows = noted_grows w (read n (bytes_in xs w)); agree = noted_agree n w _ refl }

    -- ---- the grammar

    module _ {from to : Start → Run Tree} (started : (c : Start) → Alike (from c) (to c)) (c : Start) where
      term_alike : (k : ℕ) (so : Progress) (t : Term) → Alike (term xs from c k so t) (term ys to c k so t)
      unfolding term
      term_alike k so (literal s a b) = bound (λ w. followed (needed _) (followed (matched w s) (gives _))) (had _)
      term_alike k so (call n a b) = bound (λ w. bound (λ t. gives _) (started _)) (had _)
      term_alike k so (attribute i e) = bound (λ v. gives _) (had _)
      term_alike k so (guard e) = bound (λ v. followed (needed _) (gives _)) (had _)

      terms_alike : (k : ℕ) (so : Progress) (ts : List Term) → Alike (terms xs from c k so ts) (terms ys to c k so ts)
      unfolding terms
      terms_alike k so [] = gives so
      terms_alike k so (t ∷ ts) = bound (λ next. terms_alike (suc k) next ts) (term_alike k so t)

      alternatives_alike : (i k : ℕ) (as' : List Alternative) → Alike (alternatives xs from c i k as') (alternatives ys to c i k as')
      unfolding alternatives
      alternatives_alike i k [] = failed
      alternatives_alike i k (a ∷ more) = tried (alternatives_alike (suc i) (k + length a) more) (bound (λ so. gives _) (terms_alike k _ a))

    start_alike : (fields : Fields) (grammar : Grammar) (limits : Limits) (d : ℕ) (c : Start) → Alike (start (read_of fields) grammar limits xs d c) (start (read_of fields) grammar limits ys d c)
    unfolding start
    start_alike fields grammar limits zero c = followed (begun limits 0 c.node) failed
    start_alike fields grammar limits (suc d) c =
        followed (begun limits (suc d) c.node)
        (chosen (ltb c.number 32)
        (alternatives_alike (start_alike fields grammar limits d) c 0 0 (get_or grammar c.number []))
        (bound (λ f. gives _) (filled fields c.number c.window)))

reach_of : (r : Ran Tree) → (outcome r).reach ≡ (after r).reach
unfolding outcome
reach_of (succeeds t s) = refl
reach_of (fails s) = refl
reach_of (stops n s) = refl

pub locality : Locality
unfolding parse
locality fields grammar limits rule xs ys long h =
    ap outcome ((start_alike xs ys long fields grammar limits limits.frames (root rule (length xs))).agree at_first (rw (reach_of _) at h))
    ∙ ap (λ n. outcome (start (read_of fields) grammar limits ys limits.frames (root rule n) at_first)) long

get_d_sets : (bs xs : List ℕ) (p k : ℕ) → (k < p) ⊎ (p + length bs ≤ k) → get_or xs k 0 ≡ get_or (sets xs p bs) k 0
get_d_sets [] xs p k h = refl
get_d_sets (b ∷ bs) xs p k h =
    let other : k ≢ p = omega arith in
    sym (get_or-set_other xs p k b 0 other) ∙ get_d_sets bs (set xs p b) (suc p) k (elim h [ inl l ↦ inl (omega arith) | inr r ↦ inr (omega arith) ])

pub untouched : Untouched
untouched fields grammar limits rule xs p bs h =
    sym (locality fields grammar limits rule xs (sets xs p bs) (sym (length-sets xs p bs)) (λ k w. get_d_sets bs xs p k (h k w)))

pub same_readers : SameReaders
unfolding parse
same_readers fields others grammar limits rule xs h =
    ap (λ (read : Replies). outcome (start read grammar limits xs limits.frames (root rule (length xs)) at_first)) (fun_ext (λ n. fun_ext (h n)))

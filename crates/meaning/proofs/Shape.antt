-- Every outcome has the shape that is stated of it. `Keeps` says of a run that it keeps what is known of the state, and
-- what it gives where it succeeds; every way of joining runs keeps it.
use Rattle.std.proofs.Common.{◌≡◌, ℕ, zero, suc, ◌+◌, ◌-◌, ◌<◌, ◌≤◌, min, max, Bool, true, false, cond, eqb, ltb, leb, List, [], ◌∷◌, length, get_or, take, drop, Some, None, Option, sym, refl, ap, ◌∙◌, subst, subst₂, inl, inr, arith, length-append, length-drop, length-set, length-take}
use Rattle.std.proofs.lemmas.Bool.{and_parts, leb-true, leb-false, ltb-true, ltb-false, eqb-false}
use Rattle.std.proofs.lemmas.Bool.Decides.{nat_tests}
use Rattle.input.specs.Bytes.{in_order}
use Rattle.fields.specs.Fields.{Fields}
use Rattle.fields.specs.declared.reading.Reading.{Reading}
use Rattle.meaning.specs.Syntax.{Expr, Term, Alternative, Rule, Grammar}
use Rattle.meaning.specs.Syntax.Expr.{number}
use Rattle.meaning.specs.Syntax.Term.{literal, call, attribute, guard}
use Rattle.input.specs.Windows.{cover}
use Rattle.meaning.specs.Windows.{bytes_in}
use Rattle.meaning.specs.Values.{Progress, if_some, value, ends}
use Rattle.meaning.specs.Runs.{Ran, Run, goes_on, instead, ◌>>=◌, ◌>>◌, ◌or_else◌, need, have}
use Rattle.meaning.specs.Runs.Ran.{succeeds, fails, stops}
use Rattle.meaning.specs.Meaning.{Tree, reads, matches, read_of, noted, field, one_more, begin, nothing_yet, tree, leaf, with_literal, with_call, with_slot, nested, term, terms, alternatives, start, outcome, whole, root, at_first, parse}
use Rattle.meaning.specs.Shape.{Inside, LiesIn, PartOf, terms_before, IsCall, TermCalls, Proper, Called, Calls, Rooted, Told, AllPlaced, Shaped, Shape}
use Rattle.meaning.specs.Shape.Calls.{none, one_more as one_call}
use Rattle.meaning.specs.declared.answer.Answer.{Answer}
use Rattle.meaning.specs.declared.answer.Answer.TheVariants.{Match, NoMatch, Budget, Depth, Nodes}
use Rattle.meaning.specs.declared.node.Node.{Node}
use Rattle.meaning.specs.declared.run.Limits.{Limits}
use Rattle.meaning.specs.declared.run.Start.{Start}
use Rattle.meaning.specs.declared.run.State.{State}
use Rattle.input.specs.declared.window.Window.{Window}
use Rattle.meaning.proofs.Placing.{later, root_placed}
use Rattle.meaning.proofs.Readers.{used_counted}

-- ---- windows

-- a window that lies inside, if it holds anything, is covered
cover_part : (v w outer : Window) → PartOf v outer → LiesIn w outer → PartOf (cover v w) outer
unfolding cover
cover_part v w outer (inl p) h = by _ refl _
  where
    by : (a : Bool) → leb w.right w.left ≡ a → (b : Bool) → PartOf (cond a v (cond b w (record { left = min v.left w.left; right = max v.right w.right }))) outer
    by true e b = inl p
    by false e true = let lt = leb-false w.right w.left e in inl ((h lt).0, lt, (h lt).1)
    by false e false = let lt = leb-false w.right w.left e in let i = h lt in inl (omega (arith, p.0, i.0), omega (arith, p.1), omega (arith, p.2, i.1))
cover_part v w outer (inr q) h = by _ refl _ refl
  where
    by : (a : Bool) → leb w.right w.left ≡ a → (b : Bool) → leb v.right v.left ≡ b → PartOf (cond a v (cond b w (record { left = min v.left w.left; right = max v.right w.right }))) outer
    by true e b f = inr q
    by false e true f = let lt = leb-false w.right w.left e in inl ((h lt).0, lt, (h lt).1)
    by false e false f = absurd (omega (arith, leb-false v.right v.left f, ap (λ (z : Window). z.left) q, ap (λ (z : Window). z.right) q))

-- what lies in either of two windows lies in the smallest over both
cover_left : (v w x : Window) → LiesIn x v → LiesIn x (cover v w)
unfolding cover
cover_left v w x h lt = let i = h lt in grind (arith, nat_tests)

cover_right : (v w : Window) → LiesIn w (cover v w)
unfolding cover
cover_right v w lt = grind (arith, nat_tests)

-- a term's window lies within that of its start
ends_inside : (c : Start) (so : Progress) (a b : Expr) (w : Window) → ends c so a b ≡ Some w → c.window.left ≤ c.window.right → Inside w c.window
unfolding ends if_some
ends_inside c so a b w e h = by (value c so a) (value c so b) e
  where
    tested : (p q : ℕ) (t : Bool) → in_order p q (c.window.right - c.window.left) ≡ t → cond t (Some (record { left = c.window.left + p; right = c.window.left + q })) None ≡ Some w → Inside w c.window
    tested p q true t e =
        let z : w ≡ record { left = c.window.left + p; right = c.window.left + q } = cc in
        let k = and_parts (leb p q) (leb q (c.window.right - c.window.left)) t in
        rw z (omega arith, omega (arith, leb-true p q k.0), omega (arith, leb-true q (c.window.right - c.window.left) k.1))
    tested p q false t e = absurd (let z : ◌≡◌ {A = ℕ} 0 1 = cc in omega arith)

    by : (x y : Option ℕ) → if_some x (λ p. if_some y (λ q. cond (in_order p q (c.window.right - c.window.left)) (Some (record { left = c.window.left + p; right = c.window.left + q })) None)) ≡ Some w → Inside w c.window
    by None y e = absurd (let z : ◌≡◌ {A = ℕ} 0 1 = cc in omega arith)
    by (Some p) None e = absurd (let z : ◌≡◌ {A = ℕ} 0 1 = cc in omega arith)
    by (Some p) (Some q) e = tested p q _ refl e

length_bytes : (bytes : List ℕ) (w : Window) → length (bytes_in bytes w) ≤ w.right - w.left
unfolding bytes_in
length_bytes bytes w = by _
  where
    by : (b : Bool) → length (cond b (take (w.right - w.left) (drop w.left bytes)) []) ≤ w.right - w.left
    by true = simp (length-take, length-drop) (omega arith)
    by false = omega arith

-- ---- places in lists

-- where a list goes on with x from the i-th place
module _ {A : Type 0} where
  pub record Seam (xs : List A) (i : ℕ) (x : A) (more : List A) : Type 0 where
    pub here : (d : A) → get_or xs i d ≡ x
    pub next : drop (suc i) xs ≡ more
    pub inside : i < length xs

  seam : (xs : List A) (i : ℕ) (x : A) (more : List A) → drop i xs ≡ x ∷ more → Seam xs i x more
  seam [] zero x more e = absurd (let z : ◌≡◌ {A = ℕ} 0 1 = cc in omega arith)
  seam [] (suc i) x more e = absurd (let z : ◌≡◌ {A = ℕ} 0 1 = cc in omega arith)
  seam (y ∷ ys) zero x more e =
      let h : y ≡ x = cc in
      let t : ys ≡ more = cc in
      record { here = λ d. h; next = t; inside = omega arith }
  seam (y ∷ ys) (suc i) x more e = let s = seam ys i x more e in record { here = s.here; next = s.next; inside = omega (arith, s.inside) }

terms_on : (rule : Rule) (i : ℕ) (a : Alternative) (more : Rule) → drop i rule ≡ a ∷ more → terms_before (suc i) rule ≡ terms_before i rule + length a
unfolding terms_before
terms_on [] zero a more e = absurd (let z : ◌≡◌ {A = ℕ} 0 1 = cc in omega arith)
terms_on [] (suc i) a more e = absurd (let z : ◌≡◌ {A = ℕ} 0 1 = cc in omega arith)
terms_on (b ∷ bs) zero a more e = let h : b ≡ a = cc in ap (λ (z : Alternative). length z + 0) h ∙ omega arith
terms_on (b ∷ bs) (suc i) a more e = omega (arith, terms_on bs i a more e)

-- ---- runs

-- the answers of a parse that stopped
unfoldable Stop : Answer → Type 0
Stop Match = ⊥
Stop NoMatch = ⊥
Stop Budget = Unit {0}
Stop Depth = Unit {0}
Stop Nodes = Unit {0}

module _ (limits : Limits) (n : ℕ) where
  -- what is known of a state: at least k starts are made and no more than the budget, and the reach is a part of the n bytes
  record Sound (k : ℕ) (s : State) : Type 0 where
    made : k ≤ s.starts
    paid : s.starts ≤ limits.budget
    reached : PartOf s.reach (whole n)

  fewer : {j k : ℕ} {s : State} → j ≤ k → Sound k s → Sound j s
  fewer h s = record { made = omega (arith, h, s.made); paid = s.paid; reached = s.reached }

  -- after a success P holds of what it gave, and as many starts are made as `count` says; after a failure at least j
  unfoldable Good : {A : Type 0} → (j : ℕ) → (count : A → ℕ) → (A → Type 0) → Ran A → Type 0
  Good j count P (succeeds a s) = P a × Sound (count a) s
  Good j count P (fails s) = Sound j s
  Good j count P (stops x s) = Stop x × Sound 0 s

  record Keeps {A : Type 0} (j k : ℕ) (count : A → ℕ) (P : A → Type 0) (m : Run A) : Type 0 where
    keeps : (s : State) → Sound k s → Good j count P (m s)

  on_good : {A B : Type 0} {j : ℕ} {count : A → ℕ} {P : A → Type 0} {count' : B → ℕ} {Q : B → Type 0} {f : A → Run B}
      → ((a : A) → P a → Keeps j (count a) count' Q (f a)) → (r : Ran A) → Good j count P r → Good j count' Q (goes_on r f)
  unfolding goes_on Good
  on_good next (succeeds a s) h = (next a h.0).keeps s h.1
  on_good next (fails s) h = h
  on_good next (stops x s) h = h

  bound : {A B : Type 0} {j k : ℕ} {count : A → ℕ} {P : A → Type 0} {count' : B → ℕ} {Q : B → Type 0} {m : Run A} {f : A → Run B}
      → Keeps j k count P m → ((a : A) → P a → Keeps j (count a) count' Q (f a)) → Keeps j k count' Q (m >>= f)
  unfolding ◌>>=◌
  bound {m = m} first next = record { keeps = λ s h. on_good next (m s) (first.keeps s h) }

  followed : {A B : Type 0} {j k : ℕ} {count : A → ℕ} {P : A → Type 0} {count' : B → ℕ} {Q : B → Type 0} {m : Run A} {o : Run B}
      → Keeps j k count P m → ((a : A) → P a → Keeps j (count a) count' Q o) → Keeps j k count' Q (m >> o)
  unfolding ◌>>◌
  followed first next = bound first next

  else_good : {A : Type 0} {j : ℕ} {count : A → ℕ} {P : A → Type 0} {m : Run A} → Keeps j j count P m → (r : Ran A) → Good j count P r → Good j count P (instead r m)
  unfolding instead Good
  else_good next (succeeds a s) h = h
  else_good next (fails s) h = next.keeps s h
  else_good next (stops x s) h = h

  either : {A : Type 0} {j k : ℕ} {count : A → ℕ} {P : A → Type 0} {m o : Run A} → Keeps j k count P m → Keeps j j count P o → Keeps j k count P (m or_else o)
  unfolding ◌or_else◌
  either {m = m} first next = record { keeps = λ s h. else_good next (m s) (first.keeps s h) }

  lower_good : {A : Type 0} {i j : ℕ} (count : A → ℕ) (P : A → Type 0) → i ≤ j → (r : Ran A) → Good j count P r → Good i count P r
  unfolding Good
  lower_good count P l (succeeds a s) h = h
  lower_good count P l (fails s) h = fewer l h
  lower_good count P l (stops x s) h = h

  lower : {A : Type 0} {i j k : ℕ} {count : A → ℕ} {P : A → Type 0} {m : Run A} → i ≤ j → Keeps j k count P m → Keeps i k count P m
  lower {count = count} {P = P} {m = m} l first = record { keeps = λ s h. lower_good count P l (m s) (first.keeps s h) }

  gives : {A : Type 0} {j k : ℕ} {count : A → ℕ} {P : A → Type 0} (a : A) → count a ≤ k → P a → Keeps j k count P (succeeds a)
  unfolding Good
  gives a l p = record { keeps = λ s h. (p, fewer l h) }

  failed : {A : Type 0} {j k : ℕ} {count : A → ℕ} {P : A → Type 0} → j ≤ k → Keeps j k count P fails
  unfolding Good
  failed l = record { keeps = λ s h. fewer l h }

  abbrev Any : {A : Type 0} → A → Type 0
  Any a = Unit {0}

  module _ {j k : ℕ} (l : j ≤ k) where
    abbrev still : {A : Type 0} → A → ℕ
    still a = k

    needed : (b : Bool) → Keeps j k still Any (need b)
    unfolding need
    needed true = gives tt (omega arith) tt
    needed false = failed l

    had : {A : Type 0} {P : A → Type 0} (o : Option A) → ((a : A) → o ≡ Some a → P a) → Keeps j k still P (have o)
    unfolding have
    had None h = failed l
    had (Some a) h = gives a (omega arith) (h a refl)

    has_read : (w : Window) → (w.left < w.right → w.right ≤ n) → Keeps j k still Any (reads w)
    unfolding reads Good
    has_read w inside = record {
      keeps = λ s h. (tt, record { made = h.made; paid = h.paid; reached = cover_part s.reach w (whole n) h.reached (λ lt. (omega arith, inside lt)) });
    }

  begun : (j left node : ℕ) → node ≤ limits.nodes → Keeps {A = Unit {0}} j node (λ _. suc node) (λ _. node < limits.nodes) (begin limits left node)
  unfolding begin one_more Good Stop
  begun j left node l = record { keeps = λ s h. by s h _ refl _ _ refl }
    where
      by : (s : State) → Sound node s → (a : Bool) → eqb s.starts limits.budget ≡ a → (b c : Bool) → eqb node limits.nodes ≡ c
          → Good {A = Unit {0}} j (λ _. suc node) (λ _. node < limits.nodes) (cond a (stops Budget) (cond b (stops Depth) (cond c (stops Nodes) one_more)) s)
      by s h true e b c f = (tt, fewer (omega arith) h)
      by s h false e true c f = (tt, fewer (omega arith) h)
      by s h false e false true f = (tt, fewer (omega arith) h)
      by s h false e false false f =
          let more : suc s.starts ≤ limits.budget = omega (arith, h.paid, eqb-false s.starts limits.budget e) in
          (omega (arith, eqb-false node limits.nodes f), record { made = omega (arith, h.made); paid = more; reached = h.reached })

  -- ---- the grammar

  -- a start inside the n bytes, whose node still has room
  abbrev Begins : Start → Type 0
  Begins c = (c.window.left ≤ c.window.right) × (c.window.right ≤ n) × (c.node ≤ limits.nodes)

  -- the count of nodes with those below a start's
  abbrev nodes_with : Start → List Node → ℕ
  nodes_with c below = suc (c.node + length below)

  module _ (grammar : Grammar) where
    record Grown (c : Start) (t : Tree) : Type 0 where
      number : t.top.number ≡ c.number
      parent : t.top.parent ≡ c.parent
      term : t.top.term ≡ c.term
      window : t.top.window ≡ c.window
      proper : Proper grammar t.top
      last : ℕ
      calls : Calls grammar c.node t.top last t.below
      room : nodes_with c t.below ≤ limits.nodes

    abbrev StartsWell : (Start → Run Tree) → Type 0
    StartsWell go = (c : Start) → Begins c → Keeps c.node c.node (λ t. nodes_with c t.below) (Grown c) (go c)

    module _ (bytes : List ℕ) (go : Start → Run Tree) (ok : StartsWell go) (c : Start) (begins : Begins c) where
      abbrev rule : Rule
      rule = get_or grammar c.number []

      abbrev count : Progress → ℕ
      count so = nodes_with c so.below

      floor : (so : Progress) → suc c.node ≤ count so
      floor so = omega arith

      windows : (so : Progress) (a b : Expr) → Keeps (suc c.node) (count so) (λ _. count so) (λ w. Inside w c.window) (have (ends c so a b))
      windows so a b = had (floor so) (ends c so a b) (λ w e. ends_inside c so a b w e begins.0)

      module _ (i : ℕ) where
        abbrev first : ℕ
        first = terms_before i rule

        abbrev terms_of : Alternative
        terms_of = get_or rule i []

        -- the alternative's node, as far as it has come
        abbrev top : Progress → Node
        top so = (tree c i so).top

        -- before the rule's k-th term
        record SoFar (k : ℕ) (so : Progress) : Type 0 where
          part : PartOf so.used c.window
          eight : length so.slots ≡ 8
          calls : Calls grammar c.node (top so) k so.below
          room : count so ≤ limits.nodes

        -- calls stay calls as more is used
        kept : (so to : Progress) → ((w : Window) → LiesIn w so.used → LiesIn w to.used) → (m : Node) → Called grammar c.node (top so) m → Called grammar c.node (top to) m
        unfolding tree
        kept so to h m d = record { parent = d.parent; term = d.term; window = d.window; used = h m.used d.used; proper = d.proper }

        used_inside : (d : Node) (outer : Window) → PartOf d.used d.window → Inside d.window outer → LiesIn d.used outer
        used_inside d outer (inl p) i lt = (omega (arith, p.0, i.0), omega (arith, p.2, i.2))
        used_inside d outer (inr q) i lt = absurd (omega (arith, ap (λ (z : Window). z.left) q, ap (λ (z : Window). z.right) q))

        term_ok : (k : ℕ) (so : Progress) (t : Term) → first ≤ k → get_or terms_of (k - first) (guard (number 0)) ≡ t → SoFar k so → Keeps (suc c.node) (count so) count (SoFar (suc k)) (term bytes go c k so t)
        unfolding term matches with_literal with_call with_slot nested tree IsCall
        term_ok k so (literal l a b) from at h = bound (windows so a b) (λ w lies.
            followed (needed (floor so) _) (λ _ _.
            followed (followed (has_read (floor so) w (λ _. omega (arith, lies.2, begins.1))) (λ _ _. needed (floor so) _)) (λ _ _.
            gives _ (omega arith) (record {
              part = cover_part so.used w c.window h.part (λ _. (lies.0, lies.2));
              eight = h.eight;
              calls = later grammar (top (with_literal so w)) (kept so (with_literal so w) (cover_left so.used w)) h.calls (suc k) (omega arith);
              room = h.room;
            }))))
        term_ok k so (call m a b) from at h = bound (windows so a b) (λ w lies.
            bound (lower (floor so) (ok (nested c k so m w) (lies.1, omega (arith, lies.2, begins.1), h.room))) (λ t g.
            let long = length-append so.below (t.top ∷ t.below) in
            let inside : Inside t.top.window c.window = subst (λ (z : Window). Inside z c.window) (sym g.window) lies in
            let by : TermCalls rule i k m = record { from = from; is_call = subst (λ (z : Term). IsCall z m) (sym at) refl } in
            gives _ (omega (arith, long)) (record {
              part = cover_part so.used t.top.used c.window h.part (used_inside t.top c.window g.proper.part inside);
              eight = h.eight;
              calls =
                  one_call so.below t.top t.below g.last
                  (later grammar (top (with_call so t)) (kept so (with_call so t) (cover_left so.used t.top.used)) h.calls t.top.term (omega (arith, g.term)))
                  (omega (arith, g.term))
                  (record { parent = g.parent; term = subst₂ (TermCalls rule i) (sym g.term) (sym g.number) by; window = inside; used = cover_right so.used t.top.used; proper = g.proper })
                  g.calls;
              room = omega (arith, long, g.room);
            })))
        term_ok k so (attribute slot e) from at h = bound (had (floor so) {P = Any} (value c so e) (λ v q. tt)) (λ v p.
            gives _ (omega arith) (record {
              part = h.part;
              eight = simp length-set h.eight;
              calls = later grammar (top (with_slot so slot v)) (kept so (with_slot so slot v) (λ w l. l)) h.calls (suc k) (omega arith);
              room = h.room;
            }))
        term_ok k so (guard e) from at h = bound (had (floor so) {P = Any} (value c so e) (λ v q. tt)) (λ v p.
            followed (needed (floor so) _) (λ _ _. gives so (omega arith) (record {
              part = h.part;
              eight = h.eight;
              calls = later grammar (top so) (λ m d. d) h.calls (suc k) (omega arith);
              room = h.room;
            })))

        terms_ok : (k : ℕ) (so : Progress) (ts : List Term) → first ≤ k → drop (k - first) terms_of ≡ ts → SoFar k so → Keeps (suc c.node) (count so) count (λ to. (l : ℕ) × SoFar l to) (terms bytes go c k so ts)
        unfolding terms
        terms_ok k so [] from at h = gives so (omega arith) (k, h)
        terms_ok k so (t ∷ ts) from at h =
            let s = seam terms_of (k - first) t ts at in
            let on : suc (k - first) ≡ suc k - first = omega arith in
            bound (term_ok k so t from (s.here _) h) (λ next p. terms_ok (suc k) next ts (omega arith) (ap (λ j. drop j terms_of) (sym on) ∙ s.next) p)

      alternatives_ok : c.node < limits.nodes → c.number < 32 → (i k : ℕ) (as' : List Alternative) → drop i rule ≡ as' → terms_before i rule ≡ k → Keeps (suc c.node) (suc c.node) (λ t. nodes_with c t.below) (Grown c) (alternatives bytes go c i k as')
      unfolding alternatives nothing_yet tree
      alternatives_ok l r i k [] at before = failed (omega arith)
      alternatives_ok l r i k (a ∷ more) at before =
          let s = seam rule i a more at in
          let here : drop (k - terms_before i rule) (get_or rule i []) ≡ a = ap (λ j. drop j (get_or rule i [])) (let z : k - terms_before i rule ≡ 0 = omega arith in z) ∙ s.here [] in
          either
          (bound (from_none (terms_ok i k (nothing_yet c) a (omega arith) here (record { part = inr refl; eight = refl; calls = none; room = omega arith })))
          (λ so h. gives _ (omega arith) (record {
            number = refl;
            parent = refl;
            term = refl;
            window = refl;
            proper = record { chosen = inl (r, s.inside); part = h.1.part; eight = h.1.eight };
            last = h.0;
            calls = h.1.calls;
            room = h.1.room;
          })))
          (alternatives_ok l r (suc i) (k + length a) more s.next (terms_on rule i a more at ∙ ap (λ j. j + length a) before))
        where
          from_none : {m : Run Progress} {P : Progress → Type 0} → Keeps (suc c.node) (suc (c.node + 0)) count P m → Keeps (suc c.node) (suc c.node) count P m
          from_none {m} {P} h = subst (λ (z : ℕ). Keeps (suc c.node) (suc z) count P m) (omega arith) h

module _ (fields : Fields) (grammar : Grammar) (limits : Limits) (bytes : List ℕ) where
  abbrev n : ℕ
  n = length bytes

  abbrev go : ℕ → Start → Run Tree
  go = start (read_of fields) grammar limits bytes

  abbrev Fits : Start → Reading → Type 0
  Fits c v = (1 ≤ v.used) × (c.window.left + v.used ≤ c.window.right)

  field_ok : (j : ℕ) (c : Start) → j ≤ suc c.node → Begins limits n c → Keeps limits n j (suc c.node) (λ _. suc c.node) (Fits c) (field (read_of fields) bytes c.number c.window)
  unfolding field noted
  field_ok j c l begins = by _ refl
    where
      by : (o : Option Reading) → read_of fields c.number (bytes_in bytes c.window) ≡ o → Keeps limits n j (suc c.node) (λ _. suc c.node) (Fits c) (noted c.window o)
      by None e = followed limits n (has_read limits n l c.window (λ _. begins.1)) (λ _ _. failed limits n l)
      by (Some v) e =
          let u = used_counted fields c.number _ v e in
          let fits : c.window.left + v.used ≤ c.window.right = omega (arith, u.1, length_bytes bytes c.window, begins.0) in
          followed limits n (has_read limits n l (record { left = c.window.left; right = c.window.left + v.used }) (λ _. omega (arith, fits, begins.1))) (λ _ _. gives limits n v (omega arith) (u.0, fits))

  start_ok : (d : ℕ) → StartsWell limits n grammar (go d)
  unfolding start leaf tree terms_before
  start_ok zero c begins = followed limits n (begun limits n c.node 0 c.node begins.2) (λ _ _. failed limits n (omega arith))
  start_ok (suc d) c begins = followed limits n (begun limits n c.node (suc d) c.node begins.2) (λ _ l. lower limits n (omega arith) (by (start_ok d) l _ refl))
    where
      by : StartsWell limits n grammar (go d) → c.node < limits.nodes → (b : Bool) → ltb c.number 32 ≡ b
          → Keeps limits n (suc c.node) (suc c.node) (λ t. nodes_with limits n c t.below) (Grown limits n grammar c) (cond b (alternatives bytes (go d) c 0 0 (get_or grammar c.number [])) (field (read_of fields) bytes c.number c.window >>= λ v. succeeds (leaf c v)))
      by ok l true e = alternatives_ok limits n grammar bytes (go d) ok c begins l (ltb-true c.number 32 e) 0 0 (get_or grammar c.number []) refl refl
      by ok l false e = bound limits n (field_ok (suc c.node) c (omega arith) begins) (λ v u.
          gives limits n (leaf c v) (omega arith) (record {
            number = refl;
            parent = refl;
            term = refl;
            window = refl;
            proper = record { chosen = inr (ltb-false c.number 32 e, refl); part = inl (omega arith, omega (arith, u.0), u.1); eight = refl };
            last = 0;
            calls = none;
            room = omega arith;
          }))

  pub shape_of : (rule : ℕ) → Shaped grammar limits rule n (parse fields grammar limits rule bytes)
  unfolding parse outcome root at_first Good Told Stop
  shape_of rule =
      by (go limits.frames (root rule n) at_first)
      ((start_ok limits.frames (root rule n) (omega arith, omega arith, omega arith)).keeps at_first (record { made = omega arith; paid = omega arith; reached = inr refl }))
    where
      nowhere : AllPlaced grammar n []
      nowhere d i h = absurd (omega arith)

      stopped : (x : Answer) → Stop x → Told grammar rule n x []
      stopped Match h = h
      stopped NoMatch h = refl
      stopped Budget h = refl
      stopped Depth h = refl
      stopped Nodes h = refl

      by : (r : Ran Tree) → Good limits n 0 (λ t. nodes_with limits n (root rule n) t.below) (Grown limits n grammar (root rule n)) r → Shaped grammar limits rule n (outcome r)
      by (succeeds t s) h =
          let g = h.0 in
          let rooted : Rooted grammar rule n t.top t.below = record { number = g.number; parent = g.parent; term = g.term; window = g.window; proper = g.proper; last = g.last; calls = g.calls } in
          record { in_budget = h.1.paid; in_table = omega (arith, g.room); started = omega (arith, h.1.made); reached = h.1.reached; told = rooted; placed = root_placed grammar rooted }
      by (fails s) h = record { in_budget = h.paid; in_table = omega arith; started = omega arith; reached = h.reached; told = refl; placed = nowhere }
      by (stops x s) h = record { in_budget = h.1.paid; in_table = omega arith; started = omega arith; reached = h.1.reached; told = stopped x h.0; placed = nowhere }

pub shape : Shape
shape fields grammar limits rule bytes = shape_of fields grammar limits bytes rule

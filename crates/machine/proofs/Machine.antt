-- The machine, one step at a time, comes to what the meaning says.
use Rattle.std.proofs.Common.{◌≡◌, ℕ, zero, suc, ◌+◌, ◌-◌, ◌<◌, ◌≤◌, Bool, true, false, cond, eqb, ltb, List, [], ◌∷◌, length, get_or, Some, None, Option, sym, refl, ap, ◌∙◌, subst, zero-le, arith, lit≤}
use Rattle.std.proofs.lemmas.Bool.Decides.{nat_tests}
use Rattle.fields.specs.declared.reading.Reading.{Reading}
use Rattle.meaning.specs.Syntax.{Term, Alternative, Grammar}
use Rattle.meaning.specs.Syntax.Term.{literal, call, attribute, guard}
use Rattle.meaning.specs.Values.{Progress, ends}
use Rattle.meaning.specs.Runs.{Ran, Run, goes_on, instead, ◌>>=◌, ◌>>◌, ◌or_else◌, have}
use Rattle.meaning.specs.Runs.Ran.{succeeds, fails, stops}
use Rattle.meaning.specs.Meaning.{Replies, Tree, Outcome, tree, with_call, nested, leaf, one_more, begin, field, term, terms, alternatives, start, outcome, read_of, at_first, parse}
use Rattle.meaning.specs.declared.answer.Answer.{Answer}
use Rattle.meaning.specs.declared.answer.Answer.TheVariants.{Budget, Depth, Nodes}
use Rattle.meaning.specs.declared.run.Limits.{Limits}
use Rattle.meaning.specs.declared.run.Start.{Start}
use Rattle.meaning.specs.declared.run.State.{State}
use Rattle.input.specs.declared.window.Window.{Window}
use Rattle.machine.specs.Machine.{Frame, Mode, Config, Next, after_term, after_ends, after_field}
use Rattle.machine.specs.Machine.Mode.{begins, runs, tries, returns, gives_up}
use Rattle.machine.specs.Machine.Next.{on, over}
use Rattle.machine.specs.Machine.{rest_of as rest_of', run as run', whole as whole', denote as denote', starts_at as starts_at', means as means', next_means as next_means', step_term as step_term', step_terms as step_terms', step_body as step_body', step_begin as step_begin', step as step', next_step as next_step', iterate as iterate'}
use Rattle.machine.specs.Work.{alts, stack_work, mode_work, width, work, to_do, InBudget}
use Rattle.machine.specs.Laws.{StepsKeep, StepsFall, Computes, EndsAs, begun}
use Rattle.machine.proofs.Still.{after, filled, term_still}

-- runs are joined by goes_on: grouping does not matter
goes_on_assoc : {A B C : Type 0} (r : Ran A) (f : A → Run B) (g : B → Run C) → goes_on (goes_on r f) g ≡ goes_on r (λ a s. goes_on (f a s) g)
unfolding goes_on
goes_on_assoc (succeeds a s) f g = refl
goes_on_assoc (fails s) f g = refl
goes_on_assoc (stops n s) f g = refl

module _ (read : Replies) (grammar : Grammar) (limits : Limits) (bytes : List ℕ) where
  abbrev rest_of : ℕ → Frame → Ran Progress → Ran Tree
  rest_of = rest_of' read grammar limits bytes

  abbrev run : ℕ → Frame → Run Tree
  run = run' read grammar limits bytes

  abbrev whole : ℕ → List Frame → Ran Tree → Ran Tree
  whole = whole' read grammar limits bytes

  abbrev denote : ℕ → List Frame → State → Mode → Ran Tree
  denote = denote' read grammar limits bytes

  abbrev starts_at : ℕ → Start → Run Tree
  starts_at = starts_at' read grammar limits bytes

  abbrev means : Config → Ran Tree
  means = means' read grammar limits bytes

  abbrev next_means : Next → Ran Tree
  next_means = next_means' read grammar limits bytes

  abbrev step_term : ℕ → List Frame → State → Frame → List Term → Term → Next
  step_term = step_term' read grammar limits bytes

  abbrev step_terms : ℕ → List Frame → State → Frame → List Term → Next
  step_terms = step_terms' read grammar limits bytes

  abbrev step_body : ℕ → List Frame → State → Start → Bool → Next
  step_body = step_body' read grammar limits bytes

  abbrev step_begin : ℕ → List Frame → Start → Ran (Unit {0}) → Next
  step_begin = step_begin' read grammar limits bytes

  abbrev step : ℕ → List Frame → State → Mode → Next
  step = step' read grammar limits bytes

  -- ---- each step keeps what the machine is to come to

  whole_stops : (d : ℕ) (fs : List Frame) (n : Answer) (s : State) → whole d fs (stops n s) ≡ stops n s
  unfolding whole' rest_of' goes_on instead
  whole_stops d [] n s = refl
  whole_stops d (f ∷ fs) n s = whole_stops (suc d) fs n s

  module _ (d : ℕ) (fs : List Frame) (c : Start) (i k : ℕ) (so : Progress) (more : List Alternative) where
    abbrev with_todo : List Term → Frame
    with_todo ts = record { what = c; alt = i; next = k; so = so; todo = ts; more = more }

    -- the rule goes on with the terms ts once the k-th has come to r; the next alternative begins at the term n
    abbrev then_terms : ℕ → List Term → Ran Progress → Ran Tree
    then_terms n ts r =
        whole (suc d) fs (instead
        (goes_on (goes_on r (λ nx. terms bytes (starts_at d) c (suc k) nx ts)) (λ z. succeeds (tree c i z)))
        (alternatives bytes (starts_at d) c (suc i) n more))

    term_keeps : (t : Term) (ts : List Term) (r : Ran Progress) → next_means (after_term d fs (with_todo (t ∷ ts)) ts r) ≡ then_terms (k + suc (length ts)) ts r
    unfolding after_term denote' run' rest_of' goes_on instead
    term_keeps t ts (succeeds z s) =
        let e : suc k + length ts ≡ k + suc (length ts) = omega arith in
        ap (λ n. then_terms n ts (succeeds z s)) e
    term_keeps t ts (fails s) = refl
    term_keeps t ts (stops n s) = sym (whole_stops (suc d) fs n s)

    call_keeps : (t : Term) (ts : List Term) (n : ℕ) (s : State) (o : Option Window)
        → next_means (after_ends d fs s (with_todo (t ∷ ts)) n ts o)
        ≡ then_terms (k + suc (length ts)) ts ((have o >>= λ w. starts_at d (nested c k so n w) >>= λ u. succeeds (with_call so u)) s)
    unfolding after_ends denote' whole' rest_of' ◌>>=◌ have goes_on instead
    call_keeps t ts n s None = refl
    call_keeps t ts n s (Some w) =
        let e : suc k + length ts ≡ k + suc (length ts) = omega arith in
        let r = starts_at d (nested c k so n w) s in
        ap (λ z. whole (suc d) fs (instead (goes_on z (λ z. succeeds (tree c i z))) (alternatives bytes (starts_at d) c (suc i) (suc k + length ts) more)))
        (sym (goes_on_assoc r (λ u. succeeds (with_call so u)) (λ nx. terms bytes (starts_at d) c (suc k) nx ts)))
        ∙ ap (λ n. then_terms n ts (goes_on r (λ u. succeeds (with_call so u)))) e

    one_keeps : (s : State) (ts : List Term) (t : Term) → next_means (step_term d fs s (with_todo (t ∷ ts)) ts t) ≡ then_terms (k + suc (length ts)) ts (term bytes (starts_at d) c k so t s)
    unfolding step_term' term
    one_keeps s ts (call n a b) = call_keeps (call n a b) ts n s (ends c so a b)
    one_keeps s ts (literal l a b) = term_keeps (literal l a b) ts _
    one_keeps s ts (attribute j e) = term_keeps (attribute j e) ts _
    one_keeps s ts (guard e) = term_keeps (guard e) ts _

    terms_keep : (s : State) (ts : List Term) → next_means (step_terms d fs s (with_todo ts) ts) ≡ whole (suc d) fs (run d (with_todo ts) s)
    unfolding step_terms' denote' run' rest_of' terms ◌>>=◌ goes_on instead
    terms_keep s [] = refl
    terms_keep s (t ∷ ts) = one_keeps s ts t

  field_keeps : (d : ℕ) (fs : List Frame) (c : Start) (r : Ran Reading) → next_means (after_field d fs c r) ≡ whole d fs (goes_on r (λ f. succeeds (leaf c f)))
  unfolding after_field denote' goes_on
  field_keeps d fs c (succeeds v s) = refl
  field_keeps d fs c (fails s) = refl
  field_keeps d fs c (stops n s) = sym (whole_stops d fs n s)

  body_keeps : (d : ℕ) (fs : List Frame) (s : State) (c : Start) (b : Bool)
      → next_means (step_body d fs s c b)
      ≡ whole (suc d) fs (cond b (alternatives bytes (starts_at d) c 0 0 (get_or grammar c.number [])) (field read bytes c.number c.window >>= λ f. succeeds (leaf c f)) s)
  unfolding step_body' denote' ◌>>=◌
  body_keeps d fs s c true = refl
  body_keeps d fs s c false = field_keeps (suc d) fs c (field read bytes c.number c.window s)

  begin_keeps : (d : ℕ) (fs : List Frame) (s : State) (c : Start) → next_means (step_begin d fs c (begin limits d c.node s)) ≡ whole d fs (starts_at d c s)
  unfolding start ◌>>◌ ◌>>=◌ step_begin' denote' goes_on
  begin_keeps zero fs s c = at_none (begin limits 0 c.node s)
    where
      at_none : (r : Ran (Unit {0})) → next_means (step_begin 0 fs c r) ≡ whole 0 fs (goes_on r (λ _. fails))
      at_none (succeeds u t) = refl
      at_none (fails t) = refl
      at_none (stops n t) = sym (whole_stops 0 fs n t)
  begin_keeps (suc d) fs s c = at_more (begin limits (suc d) c.node s)
    where
      at_more : (r : Ran (Unit {0})) → next_means (step_begin (suc d) fs c r) ≡ whole (suc d) fs (goes_on r (λ _. cond (ltb c.number 32) (alternatives bytes (starts_at d) c 0 0 (get_or grammar c.number [])) (field read bytes c.number c.window >>= λ f. succeeds (leaf c f))))
      at_more (succeeds u t) = body_keeps d fs t c (ltb c.number 32)
      at_more (fails t) = refl
      at_more (stops n t) = sym (whole_stops (suc d) fs n t)

  pub step_keeps : (d : ℕ) (fs : List Frame) (s : State) (m : Mode) → next_means (step d fs s m) ≡ denote d fs s m
  unfolding step' denote' whole' run' rest_of' alternatives ◌or_else◌ ◌>>=◌ goes_on instead
  step_keeps d fs s (begins c) = begin_keeps d fs s c
  step_keeps d fs s (runs f) = terms_keep d fs f.what f.alt f.next f.so f.more s f.todo
  step_keeps d fs s (tries c i k []) = refl
  step_keeps d fs s (tries c i k (a ∷ more)) = refl
  step_keeps d [] s (returns t) = refl
  step_keeps d (f ∷ fs) s (returns t) = refl
  step_keeps d [] s gives_up = refl
  step_keeps d (f ∷ fs) s gives_up = refl

  -- ---- the machine ends

  pub alts_some : (more : List Alternative) → 1 ≤ alts more
  unfolding alts
  alts_some [] = omega arith
  alts_some (a ∷ more) = omega arith

  -- no rule is longer than width tells
  module _ (wide : ℕ) (narrow : (n : ℕ) → alts (get_or grammar n []) + 2 ≤ wide) where
    abbrev left_over : List Frame → State → Mode → ℕ
    left_over = work wide limits

    -- what a step comes to has less work left, and keeps to the budget
    abbrev Falls : Next → ℕ → Type 0
    Falls (on x) n = (left_over x.stack x.state x.mode < n) × (x.state.starts ≤ limits.budget)
    Falls (over r) n = Unit {0}

    module _ (d : ℕ) (fs : List Frame) (s : State) (kept : s.starts ≤ limits.budget) where
      term_falls : (f : Frame) (t : Term) (ts : List Term) (r : Ran Progress) → (after r).starts ≡ s.starts → f.todo ≡ t ∷ ts → Falls (after_term d fs f ts r) (left_over fs s (runs f))
      unfolding after_term work stack_work mode_work
      term_falls f t ts (succeeds so z) e h = (rw (e, h) (omega arith), omega arith)
      term_falls f t ts (fails z) e h = (rw (e, h) (omega arith), omega arith)
      term_falls f t ts (stops n z) e h = tt

      call_falls : (f : Frame) (t : Term) (ts : List Term) (n : ℕ) (o : Option Window) → f.todo ≡ t ∷ ts → Falls (after_ends d fs s f n ts o) (left_over fs s (runs f))
      unfolding after_ends work stack_work mode_work
      call_falls f t ts n None h = (rw h (omega arith), kept)
      call_falls f t ts n (Some w) h = (rw h (omega arith), kept)

      one_falls : (f : Frame) (ts : List Term) (t : Term) → f.todo ≡ t ∷ ts → Falls (step_term d fs s f ts t) (left_over fs s (runs f))
      unfolding step_term'
      one_falls f ts (call n a b) h = call_falls f (call n a b) ts n _ h
      one_falls f ts (literal l a b) h = term_falls f (literal l a b) ts _ ((term_still bytes f.what f.next f.so (literal l a b)).starts s) h
      one_falls f ts (attribute i e) h = term_falls f (attribute i e) ts _ ((term_still bytes f.what f.next f.so (attribute i e)).starts s) h
      one_falls f ts (guard e) h = term_falls f (guard e) ts _ ((term_still bytes f.what f.next f.so (guard e)).starts s) h

      terms_fall : (f : Frame) (ts : List Term) → f.todo ≡ ts → Falls (step_terms d fs s f ts) (left_over fs s (runs f))
      unfolding step_terms' work mode_work
      terms_fall f [] h = (omega (arith, alts_some f.more), kept)
      terms_fall f (t ∷ ts) h = one_falls f ts t h

      -- what a start that was let through comes to
      abbrev Made : Ran (Unit {0}) → Type 0
      Made (succeeds u t) = (t.starts ≡ suc s.starts) × (s.starts < limits.budget)
      Made (fails t) = ⊥
      Made (stops n t) = Unit {0}

      made : (me : ℕ) → Made (begin limits d me s)
      unfolding begin one_more
      made me = by (eqb s.starts limits.budget) refl (eqb d 0) (eqb me limits.nodes)
        where
          by : (a : Bool) → eqb s.starts limits.budget ≡ a → (b c : Bool) → Made (cond a (stops Budget) (cond b (stops Depth) (cond c (stops Nodes) one_more)) s)
          by true e b c = tt
          by false e true c = tt
          by false e false true = tt
          by false e false false = (refl, grind (arith, nat_tests))

    field_falls : (d : ℕ) (fs : List Frame) (s : State) (c : Start) (r : Ran Reading) → (after r).starts ≡ suc s.starts → s.starts < limits.budget → Falls (after_field d fs c r) (left_over fs s (begins c))
    unfolding after_field work mode_work
    field_falls d fs s c (succeeds v t) e h =
        let one : limits.budget - s.starts ≡ suc (limits.budget - suc s.starts) = omega arith in
        (rw (e, one) (omega (arith, narrow 0)), omega arith)
    field_falls d fs s c (fails t) e h =
        let one : limits.budget - s.starts ≡ suc (limits.budget - suc s.starts) = omega arith in
        (rw (e, one) (omega (arith, narrow 0)), omega arith)
    field_falls d fs s c (stops n t) e h = tt

    body_falls : (d : ℕ) (fs : List Frame) (s t : State) (c : Start) (b : Bool) → t.starts ≡ suc s.starts → s.starts < limits.budget → Falls (step_body d fs t c b) (left_over fs s (begins c))
    unfolding step_body' work mode_work
    body_falls d fs s t c true e h =
        let one : limits.budget - s.starts ≡ suc (limits.budget - suc s.starts) = omega arith in
        (rw (e, one) (omega (arith, narrow c.number)), omega arith)
    body_falls d fs s t c false e h = field_falls (suc d) fs s c _ ((filled read bytes c.number c.window).starts t ∙ e) h

    begin_falls : (d : ℕ) (fs : List Frame) (s : State) (kept : s.starts ≤ limits.budget) (c : Start) (r : Ran (Unit {0})) → Made d fs s kept r → Falls (step_begin d fs c r) (left_over fs s (begins c))
    unfolding step_begin' work mode_work
    begin_falls zero fs s kept c (succeeds u t) h =
        let one : limits.budget - s.starts ≡ suc (limits.budget - suc s.starts) = omega arith in
        (rw (h.0, one) (omega (arith, narrow 0)), omega arith)
    begin_falls (suc d) fs s kept c (succeeds u t) h = body_falls d fs s t c _ h.0 h.1
    begin_falls d fs s kept c (fails t) h = absurd h
    begin_falls d fs s kept c (stops n t) h = tt

    step_falls : (d : ℕ) (fs : List Frame) (s : State) (m : Mode) → s.starts ≤ limits.budget → Falls (step d fs s m) (left_over fs s m)
    unfolding step' work mode_work stack_work alts
    step_falls d fs s (begins c) h = begin_falls d fs s h c _ (made d fs s h c.node)
    step_falls d fs s (runs f) h = terms_fall d fs s h f _ refl
    step_falls d fs s (tries c i k []) h = (omega arith, h)
    step_falls d fs s (tries c i k (a ∷ more)) h = (omega arith, h)
    step_falls d [] s (returns t) h = tt
    step_falls d (f ∷ fs) s (returns t) h = (omega arith, h)
    step_falls d [] s gives_up h = tt
    step_falls d (f ∷ fs) s gives_up h = (omega arith, h)

-- no rule takes more than the width
narrow : (grammar : Grammar) (n : ℕ) → alts (get_or grammar n []) + 2 ≤ width grammar
unfolding width alts
narrow [] n = lit≤ tt
narrow (r ∷ rs) zero = omega arith
narrow (r ∷ rs) (suc n) = omega (arith, narrow rs n)

pub steps_keep : StepsKeep
unfolding next_step'
steps_keep read grammar limits bytes (on x) = step_keeps read grammar limits bytes x.free x.stack x.state x.mode
steps_keep read grammar limits bytes (over r) = refl

module _ (read : Replies) (grammar : Grammar) (limits : Limits) (bytes : List ℕ) where
  fallen : (w : Next) (n : ℕ) → Falls read grammar limits bytes (width grammar) (narrow grammar) w n → (to_do grammar limits w < suc n) × InBudget limits w
  unfolding to_do InBudget
  fallen (on y) n h = (omega (arith, h.0), h.1)
  fallen (over r) n h = (omega arith, tt)

pub steps_fall : StepsFall
unfolding next_step' to_do InBudget
steps_fall read grammar limits bytes x b =
    fallen read grammar limits bytes (step' read grammar limits bytes x.free x.stack x.state x.mode) _
    (step_falls read grammar limits bytes (width grammar) (narrow grammar) x.free x.stack x.state x.mode b)

module _ (read : Replies) (grammar : Grammar) (limits : Limits) (bytes : List ℕ) where
  stays_over : (n : ℕ) (r : Ran Tree) → iterate' read grammar limits bytes n (over r) ≡ over r
  unfolding iterate' next_step'
  stays_over zero r = refl
  stays_over (suc n) r = stays_over n r

  -- enough steps end the machine
  comes_to : (n : ℕ) (x : Next) → to_do grammar limits x ≤ n → InBudget limits x → iterate' read grammar limits bytes n x ≡ over (next_means' read grammar limits bytes x)
  unfolding iterate' to_do
  comes_to zero (on x) h b = absurd (omega arith)
  comes_to (suc n) (on x) h b =
      let f = steps_fall read grammar limits bytes x b in
      comes_to n (next_step' read grammar limits bytes (on x)) (omega (arith, f.0)) f.1
      ∙ ap over (steps_keep read grammar limits bytes (on x))
  comes_to n (over r) h b = stays_over n r

ends_as : (x : Next) (r : Ran Tree) (o : Outcome) → x ≡ over r → outcome r ≡ o → EndsAs x o
unfolding EndsAs
ends_as x r o e h = subst (λ y. EndsAs y o) (sym e) h

pub computes : Computes
unfolding denote' whole' parse InBudget at_first
computes fields grammar limits rule bytes =
    ends_as _ _ _ (comes_to (read_of fields) grammar limits bytes _ (begun limits rule (length bytes)) (omega arith) zero-le) refl

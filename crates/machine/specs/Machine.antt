-- A machine that parses one small step at a time over a stack of unfinished starts. What each of its parts still comes
-- to is told by the meaning of rules.
use Rattle.std.specs.Prelude.{ℕ, zero, suc, ◌+◌, Bool, true, false, List, [], ◌∷◌, length, Some, None, Option, nat_lt, slice_index_or}
use Rattle.fields.specs.declared.reading.Reading.{Reading}
use Rattle.meaning.specs.Syntax.{Term, Alternative, Grammar}
use Rattle.meaning.specs.Syntax.Term.{literal, call, attribute, guard}
use Rattle.meaning.specs.Values.{Progress, ends}
use Rattle.meaning.specs.Runs.{Ran, Run, goes_on, instead}
use Rattle.meaning.specs.Runs.Ran.{succeeds, fails, stops}
use Rattle.meaning.specs.Meaning.{Replies, Tree, nothing_yet, tree, with_call, nested, leaf, begin, field, term, terms, alternatives, start}
use Rattle.meaning.specs.declared.run.Limits.{Limits}
use Rattle.meaning.specs.declared.run.Start.{Start}
use Rattle.meaning.specs.declared.run.State.{State}
use Rattle.input.specs.declared.window.Window.{Window}

-- an unfinished start: its alternative's number, the next term's number, what it has come to, and what is left to run
pub record Frame : Type 0 where
  pub what : Start
  pub alt : ℕ
  pub next : ℕ
  pub so : Progress
  pub todo : List Term
  pub more : List Alternative

-- what comes next: a start, the next term of a start, the next alternative of one, a success or a failure handed outwards
pub data Mode : Type 0 where
  begins : Start → Mode
  runs : Frame → Mode
  tries : Start → (i k : ℕ) → List Alternative → Mode
  returns : Tree → Mode
  gives_up : Mode

-- free: the frames left for the next start
pub record Config : Type 0 where
  pub free : ℕ
  pub stack : List Frame
  pub state : State
  pub mode : Mode

-- under way, or ended
pub data Next : Type 0 where
  on : Config → Next
  over : Ran Tree → Next

-- a call of the frame has succeeded
abbrev pub called : Frame → Tree → Frame
called f t = record { what = f.what; alt = f.alt; next = f.next; so = with_call f.so t; todo = f.todo; more = f.more }

abbrev pub go : ℕ → List Frame → State → Mode → Next
go d fs s m = on (record { free = d; stack = fs; state = s; mode = m })

-- one term on
abbrev pub advanced : Frame → List Term → Progress → Frame
advanced f ts so = record { what = f.what; alt = f.alt; next = suc f.next; so = so; todo = ts; more = f.more }

-- a term that calls nothing has come to r
unfoldable pub after_term : ℕ → List Frame → Frame → List Term → Ran Progress → Next
after_term d fs f ts (succeeds so s) = go d fs s (runs (advanced f ts so))
after_term d fs f ts (fails s) = go d fs s (tries f.what (suc f.alt) (f.next + suc (length ts)) f.more)
after_term d fs f ts (stops n s) = over (stops n s)

-- a call's window: its start begins inside the frame
unfoldable pub after_ends : ℕ → List Frame → State → Frame → ℕ → List Term → Option Window → Next
after_ends d fs s f n ts None = go d fs s (tries f.what (suc f.alt) (f.next + suc (length ts)) f.more)
after_ends d fs s f n ts (Some w) = go d (advanced f ts f.so ∷ fs) s (begins (nested f.what f.next f.so n w))

-- a field reader has answered
unfoldable pub after_field : ℕ → List Frame → Start → Ran Reading → Next
after_field d fs c (succeeds v s) = go d fs s (returns (leaf c v))
after_field d fs c (fails s) = go d fs s gives_up
after_field d fs c (stops n s) = over (stops n s)

module _ (read : Replies) (grammar : Grammar) (limits : Limits) (bytes : List ℕ) where
  abbrev pub starts_at : ℕ → Start → Run Tree
  starts_at d = start read grammar limits bytes d

  -- what becomes of a frame once its terms have come to r
  unfoldable pub rest_of : ℕ → Frame → Ran Progress → Ran Tree
  rest_of d f r = instead (goes_on r (λ so. succeeds (tree f.what f.alt so))) (alternatives bytes (starts_at d) f.what (suc f.alt) (f.next + length f.todo) f.more)

  -- what a frame comes to
  unfoldable pub run : ℕ → Frame → Run Tree
  run d f s = rest_of d f (terms bytes (starts_at d) f.what f.next f.so f.todo s)

  -- what becomes of the whole stack once the innermost start has come to r
  unfoldable pub whole : ℕ → List Frame → Ran Tree → Ran Tree
  whole d [] r = r
  whole d (f ∷ fs) r = whole (suc d) fs (rest_of d f (goes_on r (λ t. terms bytes (starts_at d) f.what f.next (with_call f.so t) f.todo)))

  -- what the machine still comes to
  unfoldable pub denote : ℕ → List Frame → State → Mode → Ran Tree
  denote d fs s (begins c) = whole d fs (starts_at d c s)
  denote d fs s (runs f) = whole (suc d) fs (run d f s)
  denote d fs s (tries c i k more) = whole (suc d) fs (alternatives bytes (starts_at d) c i k more s)
  denote d fs s (returns t) = whole d fs (succeeds t s)
  denote d fs s gives_up = whole d fs (fails s)

  abbrev pub means : Config → Ran Tree
  means x = denote x.free x.stack x.state x.mode

  abbrev pub next_means : Next → Ran Tree
  next_means (on x) = means x
  next_means (over r) = r

  -- ---- one step

  unfoldable pub step_term : ℕ → List Frame → State → Frame → List Term → Term → Next
  step_term d fs s f ts (call n a b) = after_ends d fs s f n ts (ends f.what f.so a b)
  step_term d fs s f ts (literal l a b) = after_term d fs f ts (term bytes (λ _. fails) f.what f.next f.so (literal l a b) s)
  step_term d fs s f ts (attribute i e) = after_term d fs f ts (term bytes (λ _. fails) f.what f.next f.so (attribute i e) s)
  step_term d fs s f ts (guard e) = after_term d fs f ts (term bytes (λ _. fails) f.what f.next f.so (guard e) s)

  unfoldable pub step_terms : ℕ → List Frame → State → Frame → List Term → Next
  step_terms d fs s f [] = go (suc d) fs s (returns (tree f.what f.alt f.so))
  step_terms d fs s f (t ∷ ts) = step_term d fs s f ts t

  -- the start is made: d frames are left inside
  unfoldable pub step_body : ℕ → List Frame → State → Start → Bool → Next
  step_body d fs s c true = go d fs s (tries c 0 0 (slice_index_or grammar c.number []))
  step_body d fs s c false = after_field (suc d) fs c (field read bytes c.number c.window s)

  unfoldable pub step_begin : ℕ → List Frame → Start → Ran (Unit {0}) → Next
  step_begin zero fs c (succeeds u s) = go 0 fs s gives_up
  step_begin (suc d) fs c (succeeds u s) = step_body d fs s c (nat_lt c.number 32)
  step_begin d fs c (fails s) = go d fs s gives_up
  step_begin d fs c (stops n s) = over (stops n s)

  -- the next step
  unfoldable pub step : ℕ → List Frame → State → Mode → Next
  step d fs s (begins c) = step_begin d fs c (begin limits d c.node s)
  step d fs s (runs f) = step_terms d fs s f f.todo
  step d fs s (tries c i k []) = go (suc d) fs s gives_up
  step d fs s (tries c i k (a ∷ more)) = go d fs s (runs (record { what = c; alt = i; next = k; so = nothing_yet c; todo = a; more = more }))
  step d [] s (returns t) = over (succeeds t s)
  step d (f ∷ fs) s (returns t) = go d fs s (runs (called f t))
  step d [] s gives_up = over (fails s)
  step d (f ∷ fs) s gives_up = go d fs s (tries f.what (suc f.alt) (f.next + length f.todo) f.more)

  -- an ended machine stays as it is
  unfoldable pub next_step : Next → Next
  next_step (on x) = step x.free x.stack x.state x.mode
  next_step (over r) = over r

  -- so many steps
  unfoldable pub iterate : ℕ → Next → Next
  iterate zero x = x
  iterate (suc n) x = iterate n (next_step x)

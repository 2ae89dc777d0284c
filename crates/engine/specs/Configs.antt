-- The state of the machine that a configuration, its frames, the latest first, and its nodes stand for.
use Rattle.std.specs.Prelude.{◌≡◌, ℕ, suc, ◌+◌, ◌-◌, ◌<◌, ◌≤◌, Bool, true, false, List, [], ◌∷◌, length, get_or, drop, slice_index_or}
use Rattle.std.proofs.Math.Seq.{slice}
use Rattle.fields.specs.declared.reading.Reading.{Reading}
use Rattle.meaning.specs.Syntax.{Grammar, Term, Alternative, Rule}
use Rattle.meaning.specs.Values.{Progress}
use Rattle.meaning.specs.Runs.{Ran}
use Rattle.meaning.specs.Runs.Ran.{succeeds, fails, stops}
use Rattle.meaning.specs.Meaning.{Replies, Tree}
use Rattle.meaning.specs.declared.node.Node.{Node}
use Rattle.meaning.specs.declared.run.Limits.{Limits}
use Rattle.meaning.specs.declared.run.Start.{Start}
use Rattle.meaning.specs.declared.run.State.{State}
use Rattle.input.specs.declared.window.Window.{Window}
use Rattle.machine.specs.Machine.{Next, go, after_field, next_step, Frame as Unfinished}
use Rattle.machine.specs.Machine.Next.{over}
use Rattle.machine.specs.Machine.Mode.{begins, runs, tries, returns, gives_up}
use Rattle.sealed.specs.Grammars.{terms_in}
use Rattle.engine.specs.Blanks.{blank_node}
use Rattle.engine.specs.declared.frame.Frame.{Frame}
use Rattle.engine.specs.declared.mode.Mode.{Mode}
use Rattle.engine.specs.declared.mode.Mode.TheVariants.{Begins, Runs, Tries, Returns, GivesUp, Matched, Failed, Stopped}

-- a finished start's node, with those below it
unfoldable pub tree_at : List Node → (me end : ℕ) → Tree
tree_at nodes me end = record { top = slice_index_or nodes me blank_node; below = slice (suc me) end nodes }

-- what an unfinished start has come to, with the nodes up to end
abbrev pub so_of : List Node → ℕ → Frame → Progress
so_of nodes end r = record { slots = (get_or nodes r.what.node blank_node).slots; below = slice (suc r.what.node) end nodes; used = r.used }

-- one term on, or to the next alternative
abbrev pub onward : Frame → Window → Frame
onward f w = record { what = f.what; alt = f.alt; place = f.place + 1; next = f.next + 1; after = f.after; used = w }

abbrev pub next_try : Frame → Mode
next_try f = Tries f.what (f.alt + 1) f.after

module _ (grammar : Grammar) where
  -- an unfinished start, with what is left to run read off the grammar
  unfoldable pub frame_of : List Node → ℕ → Frame → Unfinished
  frame_of nodes end r = record {
    what = r.what;
    alt = r.alt;
    next = r.next;
    so = so_of nodes end r;
    todo = drop r.place (slice_index_or (slice_index_or grammar r.what.number []) r.alt []);
    more = drop (suc r.alt) (slice_index_or grammar r.what.number []);
  }

  -- a frame's nodes end where the next inner start's node is
  unfoldable pub frames_of : List Node → ℕ → List Frame → List Unfinished
  frames_of nodes end [] = []
  frames_of nodes end (r ∷ rs) = frame_of nodes end r ∷ frames_of nodes r.what.node rs

  module _ (frames : ℕ) where
    -- the state of the machine, with a table of so many frames
    unfoldable pub stands : List Frame → List Node → ℕ → State → Mode → Next
    stands rs nodes count s (Begins c) = go (frames - length rs) (frames_of nodes c.node rs) s (begins c)
    stands rs nodes count s (Runs f) = go (frames - suc (length rs)) (frames_of nodes f.what.node rs) s (runs (frame_of nodes count f))
    stands rs nodes count s (Tries c i k) = go (frames - suc (length rs)) (frames_of nodes c.node rs) s (tries c i k (drop i (slice_index_or grammar c.number [])))
    stands rs nodes count s (Returns me) = go (frames - length rs) (frames_of nodes me rs) s (returns (tree_at nodes me count))
    stands rs nodes count s (GivesUp me) = go (frames - length rs) (frames_of nodes me rs) s gives_up
    stands rs nodes count s Matched = over (succeeds (tree_at nodes 0 count) s)
    stands rs nodes count s Failed = over (fails s)
    stands rs nodes count s (Stopped n) = over (stops n s)

  -- the terms and the alternatives that are left
  abbrev pub todo_of : Frame → Alternative
  todo_of f = drop f.place (slice_index_or (slice_index_or grammar f.what.number []) f.alt [])

  abbrev pub more_of : Frame → Rule
  more_of f = drop (suc f.alt) (slice_index_or grammar f.what.number [])

  -- the terms of a rule have numbers that fit
  abbrev pub Numbered : Frame → Type 0
  Numbered f = (f.next + length (todo_of f) ≡ f.after) × (f.after + terms_in (more_of f) ≤ 65536) × (f.alt < 18446744073709551615) × (f.place ≤ f.next)

  module _ (bytes : List ℕ) where
    -- a start's window is in order and not past the end
    abbrev pub Inside : Start → Type 0
    Inside c = (c.window.left ≤ c.window.right) × (c.window.right ≤ length bytes)

    -- the nodes of the starts stand in order, the root's at 0
    unfoldable pub Stacked : ℕ → List Frame → Type 0
    Stacked end [] = end ≡ 0
    Stacked end (r ∷ rs) = (r.what.node < end) × Inside r.what × Numbered r × Stacked r.what.node rs

    module _ (frames : ℕ) where
      -- what holds of every configuration
      unfoldable pub Sound : List Frame → List Node → ℕ → Mode → Type 0
      Sound rs nodes count (Begins c) = (c.node ≡ count) × (count ≤ length nodes) × (length rs ≤ frames) × Inside c × Stacked c.node rs
      Sound rs nodes count (Runs f) = (f.what.node < count) × (count ≤ length nodes) × (length rs < frames) × Inside f.what × Numbered f × Stacked f.what.node rs
      Sound rs nodes count (Tries c i k) = (c.node < length nodes) × (length rs < frames) × Inside c × (k + terms_in (drop i (slice_index_or grammar c.number [])) ≤ 65536) × Stacked c.node rs
      Sound rs nodes count (Returns me) = (me < count) × (count ≤ length nodes) × (length rs ≤ frames) × Stacked me rs
      Sound rs nodes count (GivesUp me) = (me ≤ length nodes) × (length rs ≤ frames) × Stacked me rs
      Sound rs nodes count Matched = (0 < count) × (count ≤ length nodes)
      Sound rs nodes count Failed = Unit {0}
      Sound rs nodes count (Stopped n) = Unit {0}

-- from a sound configuration, one step of the machine leads to another
pub record Moves (read : Replies) (grammar : Grammar) (limits : Limits) (bytes : List ℕ) (before : Next) (rs : List Frame) (nodes : List Node) (count : ℕ) (s : State) (m : Mode) : Type 0 where
  pub steps : stands grammar limits.frames rs nodes count s m ≡ next_step read grammar limits bytes before
  pub sound : Sound grammar bytes limits.frames rs nodes count m

-- the latest frame's alternative has a next number
unfoldable pub Small : List Frame → Type 0
Small [] = Unit {0}
Small (f ∷ fs) = f.alt < 18446744073709551615

-- no rule has more terms than fit
abbrev pub Few : Grammar → Type 0
Few grammar = (n : ℕ) → terms_in (slice_index_or grammar n []) ≤ 65536

-- a start of a reader, which was let through, has come to what the reader gives
pub record Fielded (grammar : Grammar) (bytes : List ℕ) (frames : ℕ) (rs : List Frame) (before : List Node) (c : Start) (r : Ran Reading) (nodes : List Node) (count : ℕ) (s : State) (m : Mode) : Type 0 where
  pub steps : stands grammar frames rs nodes count s m ≡ after_field (frames - length rs) (frames_of grammar before c.node rs) c r
  pub sound : Sound grammar bytes frames rs nodes count m

-- a frame's next term is t
unfoldable pub NextIs : Grammar → Frame → Term → Type 0
NextIs grammar f t = todo_of grammar f ≡ t ∷ drop (suc f.place) (slice_index_or (slice_index_or grammar f.what.number []) f.alt [])

-- there is a step left
unfoldable pub goes_on : Mode → Bool
goes_on (Begins c) = true
goes_on (Runs f) = true
goes_on (Tries c i k) = true
goes_on (Returns me) = true
goes_on (GivesUp me) = true
goes_on Matched = false
goes_on Failed = false
goes_on (Stopped n) = false

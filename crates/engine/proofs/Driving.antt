-- The machine's steps, one after the other.
use Rattle.std.proofs.Common.{◌≡◌, ℕ, zero, suc, ◌<◌, ◌≤◌, true, false, List, [], ◌∷◌, length, get_or, drop, Some, None, sym, refl, ap, ◌∙◌, arith}
use Rattle.std.specs.Prelude.{slice_get}
use Rattle.meaning.specs.Syntax.{Grammar, Term}
use Rattle.meaning.specs.Meaning.{Replies}
use Rattle.machine.specs.Machine.{Config, Next, next_means}
use Rattle.machine.specs.Machine.Next.{on, over}
use Rattle.machine.proofs.Machine.{steps_fall}
use Rattle.meaning.specs.declared.node.Node.{Node}
use Rattle.meaning.specs.declared.run.State.{State}
use Rattle.meaning.specs.declared.run.Start.{Start}
use Rattle.meaning.specs.declared.run.Limits.{Limits}
use Rattle.engine.specs.declared.frame.Frame.{Frame}
use Rattle.engine.specs.declared.mode.Mode.{Mode}
use Rattle.engine.specs.declared.mode.Mode.TheVariants.{Begins, Runs, Tries, Returns, GivesUp, Matched, Failed, Stopped}
use Rattle.machine.specs.Work.{to_do, InBudget}
use Rattle.machine.specs.Machine.{next_step}
use Rattle.engine.specs.Configs.{stands, Inside, Stacked, Sound, Moves, goes_on, Small, NextIs, todo_of}

module _ (read : Replies) (grammar : Grammar) (limits : Limits) (bytes : List ℕ) where
  less : (v w : Next) (x : Config) → v ≡ on x → InBudget limits v → w ≡ next_step read grammar limits bytes v → (to_do grammar limits w < to_do grammar limits v) × InBudget limits w
  less v w x e b q =
      let kept : InBudget limits (on x) = rw e at b in
      rw (q, e) (steps_fall read grammar limits bytes x kept)

  module _ (rs : List Frame) (nodes : List Node) (count : ℕ) (s : State) where
    abbrev at : Mode → Next
    at m = stands grammar limits.frames rs nodes count s m

    under_way : (m : Mode) → goes_on m ≡ true → (x : Config) × (at m ≡ on x)
    unfolding goes_on stands
    under_way (Begins c) h = (_, refl)
    under_way (Runs f) h = (_, refl)
    under_way (Tries c i k) h = (_, refl)
    under_way (Returns me) h = (_, refl)
    under_way (GivesUp me) h = (_, refl)
    under_way Matched h = absurd (let z : ◌≡◌ {A = ℕ} 0 1 = cc in omega arith)
    under_way Failed h = absurd (let z : ◌≡◌ {A = ℕ} 0 1 = cc in omega arith)
    under_way (Stopped n) h = absurd (let z : ◌≡◌ {A = ℕ} 0 1 = cc in omega arith)

    -- a step has less left to do, and keeps to the budget
    pub turn : (m : Mode) (w : Next) → goes_on m ≡ true → InBudget limits (at m) → w ≡ next_step read grammar limits bytes (at m) → (to_do grammar limits w < to_do grammar limits (at m)) × InBudget limits w
    turn m w g b q = let u = under_way m g in less (at m) w u.0 u.1 b q

    pub ended : (m : Mode) → goes_on m ≡ false → at m ≡ over (next_means read grammar limits bytes (at m))
    unfolding goes_on stands
    ended (Begins c) h = absurd (let z : ◌≡◌ {A = ℕ} 0 1 = cc in omega arith)
    ended (Runs f) h = absurd (let z : ◌≡◌ {A = ℕ} 0 1 = cc in omega arith)
    ended (Tries c i k) h = absurd (let z : ◌≡◌ {A = ℕ} 0 1 = cc in omega arith)
    ended (Returns me) h = absurd (let z : ◌≡◌ {A = ℕ} 0 1 = cc in omega arith)
    ended (GivesUp me) h = absurd (let z : ◌≡◌ {A = ℕ} 0 1 = cc in omega arith)
    ended Matched h = refl
    ended Failed h = refl
    ended (Stopped n) h = refl

    -- where nothing goes on, a step changes nothing
    pub stays : (m : Mode) → goes_on m ≡ false → Sound grammar bytes limits.frames rs nodes count m → Moves read grammar limits bytes (at m) rs nodes count s m
    unfolding next_step
    stays m h sound = record { steps = ended m h ∙ sym (ap (next_step read grammar limits bytes) (ended m h)); sound = sound }

    pub moved : (m m' n : Mode) (rs' : List Frame) (nodes' : List Node) (count' : ℕ) (s' : State) → m ≡ m' → Moves read grammar limits bytes (at m') rs' nodes' count' s' n → Moves read grammar limits bytes (at m) rs' nodes' count' s' n
    moved m m' n rs' nodes' count' s' e h = rw e h

    pub sound_at : (m m' : Mode) → m ≡ m' → Sound grammar bytes limits.frames rs nodes count m → Sound grammar bytes limits.frames rs nodes count m'
    sound_at m m' e h = rw e at h

pub small_held : (grammar : Grammar) (bytes : List ℕ) (frames : ℕ) (rs : List Frame) (nodes : List Node) (count me : ℕ) → Sound grammar bytes frames rs nodes count (GivesUp me) → Small rs
unfolding Sound Stacked Small
small_held grammar bytes frames [] nodes count me h = tt
small_held grammar bytes frames (f ∷ fs) nodes count me h = h.2.2.2

-- a frame that has a next term has room for its number
pub next_small : (grammar : Grammar) (bytes : List ℕ) (frames : ℕ) (rs : List Frame) (nodes : List Node) (count : ℕ) (f : Frame) (t : Term) → Sound grammar bytes frames rs nodes count (Runs f) → NextIs grammar f t → f.next < 65536
unfolding Sound NextIs
next_small grammar bytes frames rs nodes count f t h e = omega (arith, ap length e, h.4.0, h.4.1)

pub rest_stops : (m : Mode) → ((c : Start) → m ≡ Begins c → ⊥) → ((f : Frame) → m ≡ Runs f → ⊥) → ((c : Start) (i k : ℕ) → m ≡ Tries c i k → ⊥) → ((me : ℕ) → m ≡ Returns me → ⊥) → ((me : ℕ) → m ≡ GivesUp me → ⊥) → goes_on m ≡ false
unfolding goes_on
rest_stops (Begins c) u v x y z = absurd (u c refl)
rest_stops (Runs f) u v x y z = absurd (v f refl)
rest_stops (Tries c i k) u v x y z = absurd (x c i k refl)
rest_stops (Returns me) u v x y z = absurd (y me refl)
rest_stops (GivesUp me) u v x y z = absurd (z me refl)
rest_stops Matched u v x y z = refl
rest_stops Failed u v x y z = refl
rest_stops (Stopped n) u v x y z = refl

-- the next term, as a sealed grammar tells it
module _ (grammar : Grammar) (f : Frame) where
  abbrev here : List Term
  here = get_or (get_or grammar f.what.number []) f.alt []

  opened : {X : Type 0} (xs : List X) (p : ℕ) (x : X) → Some x ≡ slice_get xs p → drop p xs ≡ x ∷ drop (suc p) xs
  opened [] p x e = absurd (let z : ◌≡◌ {A = ℕ} 0 1 = cc in omega arith)
  opened (y ∷ xs) zero x e = let z : x ≡ y = cc in ap (λ v. v ∷ xs) (sym z)
  opened (y ∷ xs) (suc p) x e = opened xs p x e

  at_end : {X : Type 0} (xs : List X) (p : ℕ) → None ≡ slice_get xs p → drop p xs ≡ []
  at_end [] zero e = refl
  at_end [] (suc p) e = refl
  at_end (y ∷ xs) zero e = absurd (let z : ◌≡◌ {A = ℕ} 0 1 = cc in omega arith)
  at_end (y ∷ xs) (suc p) e = at_end xs p e

  pub next_is : (t u : Term) → Some t ≡ slice_get here f.place → t ≡ u → NextIs grammar f u
  unfolding NextIs
  next_is t u e q = opened here f.place u (ap Some (sym q) ∙ e)

  pub none_next : None ≡ slice_get here f.place → todo_of grammar f ≡ []
  none_next e = at_end here f.place e

-- what a sound configuration tells of a start whose next term runs
module _ (grammar : Grammar) (bytes : List ℕ) (frames : ℕ) (rs : List Frame) (nodes : List Node) (count : ℕ) (f : Frame) (sound : Sound grammar bytes frames rs nodes count (Runs f)) where
  pub in_use : (f.what.node < count) × (count ≤ length nodes)
  unfolding Sound
  in_use = (sound.0, sound.1)

  pub has_room : length rs < frames
  unfolding Sound
  has_room = sound.2

  pub within : Inside grammar bytes f.what
  unfolding Sound
  within = sound.3

  pub frame_fits : (t : Term) → NextIs grammar f t → (f.place ≤ f.next) × (f.next < 65536) × (f.alt < 18446744073709551615)
  unfolding Sound
  frame_fits t e = (sound.4.3, next_small grammar bytes frames rs nodes count f t sound e, sound.4.2)

-- and of a start that is to begin
pub may_begin : (grammar : Grammar) (bytes : List ℕ) (frames : ℕ) (rs : List Frame) (nodes : List Node) (count : ℕ) (c : Start) → Sound grammar bytes frames rs nodes count (Begins c) → (c.node ≤ length nodes) × Inside grammar bytes c
unfolding Sound
may_begin grammar bytes frames rs nodes count c sound = (omega (arith, sound.0, sound.1), sound.3)

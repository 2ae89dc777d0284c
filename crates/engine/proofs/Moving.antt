-- Each step of the engine is a step of the machine.
use Rattle.std.proofs.Common.{◌≡◌, ℕ, suc, ◌+◌, ◌<◌, List, [], ◌∷◌, length, get_or, drop, Ok, Err, sym, refl, ap, ◌∙◌, add-one, arith}
use Rattle.std.proofs.lemmas.List.{get_or_default}
use Rattle.meaning.specs.Syntax.{Grammar}
use Rattle.meaning.specs.Meaning.{Replies}
use Rattle.input.specs.Windows.{cover}
use Rattle.meaning.specs.Meaning.{with_call}
use Rattle.machine.specs.Machine.{step}
use Rattle.meaning.specs.declared.node.Node.{Node}
use Rattle.input.specs.declared.window.Window.{Window}
use Rattle.meaning.specs.declared.run.State.{State}
use Rattle.meaning.specs.declared.run.Limits.{Limits}
use Rattle.stack.specs.declared.refusal.StackRefusal.{StackRefusal}
use Rattle.stack.specs.Stacks.{pop_answer}
use Rattle.engine.specs.declared.frame.Frame.{Frame}
use Rattle.engine.specs.declared.mode.Mode.TheVariants.{Runs, Tries, Returns, GivesUp, Matched, Failed}
use Rattle.machine.specs.Machine.{next_step}
use Rattle.engine.specs.Blanks.{blank_node}
use Rattle.engine.specs.Configs.{tree_at, frame_of, frames_of, stands, Stacked, Sound, Moves, Small}
use Rattle.engine.proofs.Frames.{grown}

abbrev pub with_used : Frame → Window → Frame
with_used f w = record { what = f.what; alt = f.alt; place = f.place; next = f.next; after = f.after; used = w }

module _ (read : Replies) (grammar : Grammar) (limits : Limits) (bytes : List ℕ) where
  pub back_to : (f : Frame) (fs : List Frame) (nodes : List Node) (count : ℕ) (s : State) (me : ℕ)
      → Sound grammar bytes limits.frames (f ∷ fs) nodes count (Returns me)
      → Moves read grammar limits bytes (stands grammar limits.frames (f ∷ fs) nodes count s (Returns me)) fs nodes count s (Runs (with_used f (cover f.used (get_or nodes me blank_node).used)))
  unfolding Sound Stacked stands next_step frames_of frame_of tree_at step with_call
  back_to f fs nodes count s me h =
      let e = grown nodes blank_node (suc f.what.node) me count (omega (arith, h.3.0)) h.0 h.1 in
      record {
        steps = simp e;
        sound = (omega (arith, h.3.0, h.0), h.1, h.2, h.3.1, h.3.2, h.3.3);
      }

  pub back_out : (nodes : List Node) (count : ℕ) (s : State) (me : ℕ)
      → Sound grammar bytes limits.frames [] nodes count (Returns me)
      → Moves read grammar limits bytes (stands grammar limits.frames [] nodes count s (Returns me)) [] nodes count s Matched
  unfolding Sound Stacked stands next_step frames_of step
  back_out nodes count s me h = record { steps = simp h.3; sound = (omega (arith, h.0), h.1) }

  pub up_to : (f : Frame) (fs : List Frame) (nodes : List Node) (count : ℕ) (s : State) (me : ℕ)
      → Sound grammar bytes limits.frames (f ∷ fs) nodes count (GivesUp me)
      → Moves read grammar limits bytes (stands grammar limits.frames (f ∷ fs) nodes count s (GivesUp me)) fs nodes count s (Tries f.what (suc f.alt) f.after)
  unfolding Sound Stacked stands next_step frames_of frame_of step
  up_to f fs nodes count s me h =
      record {
        steps = simp (sym h.2.2.0);
        sound = (omega (arith, h.2.0, h.0), h.1, h.2.1, h.2.2.1, h.2.3);
      }

  pub up_out : (nodes : List Node) (count : ℕ) (s : State) (me : ℕ)
      → Sound grammar bytes limits.frames [] nodes count (GivesUp me)
      → Moves read grammar limits bytes (stands grammar limits.frames [] nodes count s (GivesUp me)) [] nodes count s Failed
  unfolding Sound Stacked stands next_step frames_of step
  up_out nodes count s me h = record { steps = refl; sound = tt }

  module _ (nodes : List Node) (count : ℕ) (s : State) (me : ℕ) where
    pub back : (xs ys : List Frame) (f : Frame) (u : Window) (d : Node) → me < length nodes → Ok f ≡ pop_answer xs → ys ≡ drop 1 xs → u ≡ cover f.used (get_or nodes me d).used
        → Sound grammar bytes limits.frames xs nodes count (Returns me)
        → Moves read grammar limits bytes (stands grammar limits.frames xs nodes count s (Returns me)) ys nodes count s (Runs (with_used f u))
    back [] ys f u d i a b e h = absurd (let z : ◌≡◌ {A = ℕ} 0 1 = cc in omega arith)
    back (g ∷ gs) ys f u d i a b e h =
        let z : f ≡ g = cc in
        let v : u ≡ cover f.used (get_or nodes me blank_node).used = e ∙ ap (λ n. cover f.used n.used) (get_or_default nodes me d blank_node i) in
        rw (b, v, z) (back_to g gs nodes count s me h)

    pub out : (xs ys : List Frame) (r : StackRefusal) → Err r ≡ pop_answer xs → ys ≡ drop 1 xs
        → Sound grammar bytes limits.frames xs nodes count (Returns me)
        → Moves read grammar limits bytes (stands grammar limits.frames xs nodes count s (Returns me)) ys nodes count s Matched
    out [] ys r a b h = rw b (back_out nodes count s me h)
    out (g ∷ gs) ys r a b h = absurd (let z : ◌≡◌ {A = ℕ} 0 1 = cc in omega arith)

    pub up : (xs ys : List Frame) (f : Frame) → Ok f ≡ pop_answer xs → ys ≡ drop 1 xs
        → Sound grammar bytes limits.frames xs nodes count (GivesUp me)
        → Moves read grammar limits bytes (stands grammar limits.frames xs nodes count s (GivesUp me)) ys nodes count s (Tries f.what (f.alt + 1) f.after)
    up [] ys f a b h = absurd (let z : ◌≡◌ {A = ℕ} 0 1 = cc in omega arith)
    up (g ∷ gs) ys f a b h = let z : f ≡ g = cc in rw (b, z, add-one g.alt) (up_to g gs nodes count s me h)

    pub none_up : (xs ys : List Frame) (r : StackRefusal) → Err r ≡ pop_answer xs → ys ≡ drop 1 xs
        → Sound grammar bytes limits.frames xs nodes count (GivesUp me)
        → Moves read grammar limits bytes (stands grammar limits.frames xs nodes count s (GivesUp me)) ys nodes count s Failed
    none_up [] ys r a b h = rw b (up_out nodes count s me h)
    none_up (g ∷ gs) ys r a b h = absurd (let z : ◌≡◌ {A = ℕ} 0 1 = cc in omega arith)

pub small_top : (xs : List Frame) (f : Frame) → Ok f ≡ pop_answer xs → Small xs → f.alt < 18446744073709551615
unfolding Small
small_top [] f e h = absurd (let z : ◌≡◌ {A = ℕ} 0 1 = cc in omega arith)
small_top (g ∷ gs) f e h = let z : f ≡ g = cc in rw z h

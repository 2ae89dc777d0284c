-- The engine's end, and its beginning.
use Rattle.std.proofs.Common.{◌≡◌, ℕ, ◌-◌, ◌<◌, ◌≤◌, List, [], ◌∷◌, length, get_or, take, refl, ap, ◌∙◌, zero-le, arith}
use lib.Seq.{slice, slice-cons}
use Rattle.meaning.specs.Syntax.{Grammar}
use Rattle.meaning.specs.Runs.{Ran}
use Rattle.meaning.specs.Meaning.{Tree, outcome, parse, root, at_first}
use Rattle.meaning.specs.Runs.Ran.{succeeds, fails, stops}
use Rattle.machine.specs.Machine.{next_means, denote, whole}
use Rattle.machine.specs.Machine.Next.{over}
use Rattle.fields.specs.Fields.{Fields}
use Rattle.meaning.specs.Meaning.{read_of}
use Rattle.meaning.specs.declared.answer.Answer.{Answer}
use Rattle.meaning.specs.declared.answer.Answer.TheVariants.{Match, NoMatch}
use Rattle.meaning.specs.declared.node.Node.{Node}
use Rattle.meaning.specs.declared.run.State.{State}
use Rattle.meaning.specs.declared.run.Limits.{Limits}
use Rattle.engine.specs.declared.frame.Frame.{Frame}
use Rattle.engine.specs.declared.mode.Mode.{Mode}
use Rattle.engine.specs.declared.mode.Mode.TheVariants.{Begins, Runs, Tries, Returns, GivesUp, Matched, Failed, Stopped}
use Rattle.engine.specs.Blanks.{blank_node}
use Rattle.engine.specs.Configs.{tree_at, frames_of, stands, Stacked, Sound}
use Rattle.engine.specs.Parses.{told}

module _ (grammar : Grammar) (bytes : List ℕ) (frames : ℕ) (rs : List Frame) (nodes : List Node) (count : ℕ) (s : State) (ran : Ran Tree) where
  abbrev Tells : Answer → ℕ → Type 0
  Tells answer n = (told (record { answer = answer; nodes = n; starts = s.starts; reach = s.reach }) nodes ≡ outcome ran) × (n ≤ length nodes)

  pub end_matched : (m : Mode) → m ≡ Matched → stands grammar frames rs nodes count s m ≡ over ran → Sound grammar bytes frames rs nodes count m → Tells Match count
  unfolding stands Sound outcome tree_at
  end_matched m e h k =
      let z : over (succeeds (tree_at nodes 0 count) s) ≡ over ran = rw e at h in
      let r : succeeds (tree_at nodes 0 count) s ≡ ran = cc in
      let b : (0 < count) × (count ≤ length nodes) = rw e at k in
      let c : take count nodes ≡ get_or nodes 0 blank_node ∷ slice 1 count nodes = slice-cons 0 count nodes blank_node b.0 b.1 in
      (ap (λ ns. record { answer = Match; nodes = ns; starts = s.starts; reach = s.reach }) c ∙ ap outcome r, b.1)

  pub end_stopped : (m : Mode) (n : Answer) → m ≡ Stopped n → stands grammar frames rs nodes count s m ≡ over ran → Tells n 0
  unfolding stands outcome
  end_stopped m n e h =
      let z : over (stops n s) ≡ over ran = rw e at h in
      let r : stops n s ≡ ran = cc in
      (ap outcome r, zero-le)

  pub end_failed : (m : Mode) → (m ≡ Matched → ⊥) → ((n : Answer) → m ≡ Stopped n → ⊥) → stands grammar frames rs nodes count s m ≡ over ran → Tells NoMatch 0
  unfolding stands outcome
  end_failed (Begins c) x y h = absurd (let z : ◌≡◌ {A = ℕ} 0 1 = cc in omega arith)
  end_failed (Runs f) x y h = absurd (let z : ◌≡◌ {A = ℕ} 0 1 = cc in omega arith)
  end_failed (Tries c i k) x y h = absurd (let z : ◌≡◌ {A = ℕ} 0 1 = cc in omega arith)
  end_failed (Returns me) x y h = absurd (let z : ◌≡◌ {A = ℕ} 0 1 = cc in omega arith)
  end_failed (GivesUp me) x y h = absurd (let z : ◌≡◌ {A = ℕ} 0 1 = cc in omega arith)
  end_failed Matched x y h = absurd (x refl)
  end_failed Failed x y h = let r : fails s ≡ ran = cc in (ap outcome r, zero-le)
  end_failed (Stopped n) x y h = absurd (y n refl)

module _ (grammar : Grammar) (limits : Limits) (bytes : List ℕ) (rs : List Frame) (nodes : List Node) (rule n : ℕ) (none : rs ≡ []) (long : n ≡ length bytes) (m : Mode) (begins : m ≡ Begins (root rule n)) where
  pub first_sound : Sound grammar bytes limits.frames rs nodes 0 m
  unfolding Sound Stacked root
  first_sound = rw (none, begins) (refl, zero-le, zero-le, (zero-le, omega arith), refl)

  pub first_means : (fields : Fields) (s : State) → s ≡ at_first → outcome (next_means (read_of fields) grammar limits bytes (stands grammar limits.frames rs nodes 0 s m)) ≡ parse fields grammar limits rule bytes
  unfolding stands denote whole frames_of parse root at_first
  first_means fields s fresh =
      let z : limits.frames - 0 ≡ limits.frames = omega arith in
      simp (begins, fresh, none, z, long)

pub is_first : (s : State) → s.starts ≡ 0 → s.reach.left ≡ 0 → s.reach.right ≡ 0 → s ≡ at_first
unfolding at_first
is_first s a b c = rw (a, b, c) refl

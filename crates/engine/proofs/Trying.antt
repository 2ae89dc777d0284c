-- An alternative begins, or there is none left.
use Rattle.std.proofs.Common.{◌≡◌, ℕ, zero, suc, ◌+◌, ◌-◌, ◌<◌, ◌≤◌, List, [], ◌∷◌, length, get_or, drop, set, replicate, Some, None, refl, ap, add-one, arith}
use lib.Seq.{slice_empty}
use Rattle.std.proofs.lemmas.List.{get_or-set_same, length-set}
use Rattle.meaning.specs.Syntax.{Grammar, Alternative}
use Rattle.meaning.specs.Meaning.{Replies}
use Rattle.meaning.specs.Meaning.{nothing_yet}
use Rattle.machine.specs.Machine.{step}
use Rattle.meaning.specs.declared.node.Node.{Node}
use Rattle.input.specs.declared.window.Window.{Window}
use Rattle.meaning.specs.declared.run.Start.{Start}
use Rattle.meaning.specs.declared.run.State.{State}
use Rattle.meaning.specs.declared.run.Limits.{Limits}
use Rattle.sealed.specs.Grammars.{terms_in}
use Rattle.engine.specs.declared.frame.Frame.{Frame}
use Rattle.engine.specs.declared.mode.Mode.TheVariants.{Runs, Tries, GivesUp}
use Rattle.std.specs.Prelude.{option_map, slice_get}
use Rattle.machine.specs.Machine.{next_step}
use Rattle.engine.specs.Blanks.{blank_node}
use Rattle.engine.specs.Configs.{frame_of, stands, Sound, Moves}
use Rattle.engine.proofs.Frames.{frames_kept}

none_there : (xs : List Alternative) (i : ℕ) → None ≡ option_map length (slice_get xs i) → drop i xs ≡ []
none_there [] zero e = refl
none_there [] (suc i) e = refl
none_there (a ∷ xs) zero e = absurd (let z : ◌≡◌ {A = ℕ} 0 1 = cc in omega arith)
none_there (a ∷ xs) (suc i) e = none_there xs i e

-- what stands at a place, and behind it
dropped : {X : Type 0} (xs : List X) (i : ℕ) (d a : X) (more : List X) → drop i xs ≡ a ∷ more → (get_or xs i d ≡ a) × (drop (suc i) xs ≡ more)
dropped [] zero d a more e = absurd (let z : ◌≡◌ {A = ℕ} 0 1 = cc in omega arith)
dropped [] (suc i) d a more e = absurd (let z : ◌≡◌ {A = ℕ} 0 1 = cc in omega arith)
dropped (x ∷ xs) zero d a more e = (cc, cc)
dropped (x ∷ xs) (suc i) d a more e = dropped xs i d a more e

record Cut (xs : List Alternative) (n : ℕ) : Type 0 where
  pub head : Alternative
  pub tail : List Alternative
  pub is : xs ≡ head ∷ tail
  pub long : n ≡ length head

some_there : (xs : List Alternative) (i n : ℕ) → Some n ≡ option_map length (slice_get xs i) → Cut (drop i xs) n
some_there [] i n e = absurd (let z : ◌≡◌ {A = ℕ} 0 1 = cc in omega arith)
some_there (a ∷ xs) zero n e = record { head = a; tail = xs; is = refl; long = cc }
some_there (a ∷ xs) (suc i) n e = some_there xs i n e

pub terms_fit : (xs : List Alternative) (i k n : ℕ) → Some n ≡ option_map length (slice_get xs i) → k + terms_in (drop i xs) ≤ 65536 → k + n ≤ 65536
unfolding terms_in
terms_fit xs i k n e h =
    let cut = some_there xs i n e in
    let z : terms_in (drop i xs) ≡ length cut.head + terms_in cut.tail = ap terms_in cut.is in
    omega (arith, cut.long)

-- there are not so many alternatives that their numbers do not fit
pub place_fits : (xs : List Alternative) (i n : ℕ) → Some n ≡ option_map length (slice_get xs i) → i < length xs
place_fits [] i n e = absurd (let z : ◌≡◌ {A = ℕ} 0 1 = cc in omega arith)
place_fits (a ∷ xs) zero n e = omega arith
place_fits (a ∷ xs) (suc i) n e = omega (arith, place_fits xs i n e)

module _ (read : Replies) (grammar : Grammar) (limits : Limits) (bytes : List ℕ) (rs : List Frame) (nodes : List Node) (count : ℕ) (s : State) (c : Start) (i k : ℕ) where
  abbrev all : List Alternative
  all = get_or grammar c.number []

  abbrev rest : List Alternative
  rest = drop i all

  pub no_more : None ≡ option_map length (slice_get all i)
      → Sound grammar bytes limits.frames rs nodes count (Tries c i k)
      → Moves read grammar limits bytes (stands grammar limits.frames rs nodes count s (Tries c i k)) rs nodes count s (GivesUp c.node)
  unfolding Sound stands next_step step
  no_more e h =
      let z = none_there all i e in
      let d : limits.frames - length rs ≡ suc (limits.frames - suc (length rs)) = omega (arith, h.1) in
      record {
        steps = simp (z, d);
        sound = (omega (arith, h.0), omega (arith, h.1), h.4);
      }

  abbrev here : Window
  here = record { left = c.window.left; right = c.window.left }

  pub one_more : (n : ℕ) (node : Node) → Some n ≡ option_map length (slice_get all i) → i < 18446744073709551615 → node.slots ≡ replicate 8 0
      → Sound grammar bytes limits.frames rs nodes count (Tries c i k)
      → Moves read grammar limits bytes (stands grammar limits.frames rs nodes count s (Tries c i k)) rs (set nodes c.node node) (c.node + 1) s
      (Runs (record { what = c; alt = i; place = 0; next = k; after = k + n; used = here }))
  unfolding Sound stands next_step step frame_of nothing_yet terms_in
  one_more n node e j q h =
      let cut = some_there all i n e in
      let at = dropped (get_or grammar c.number []) i [] cut.head cut.tail cut.is in
      let kept = frames_kept grammar bytes nodes c.node rs c.node node h.4 (omega arith) in
      let mine = get_or-set_same nodes c.node node blank_node h.0 in
      let none = slice_empty (suc c.node) (set nodes c.node node) in
      let fit : k + terms_in (cut.head ∷ cut.tail) ≤ 65536 = rw cut.is at h.3 in
      let w : k + n + terms_in cut.tail ≤ 65536 = omega (arith, cut.long) in
      let z : k + length cut.head ≡ k + n = omega (arith, cut.long) in
      record {
        steps = simp (add-one c.node, kept, mine, none, at.0, at.1, cut.is, q);
        sound = (omega arith, simp length-set (omega (arith, h.0)), h.1, h.2, (simp at.0 z, simp at.1 w, j, omega arith), h.4);
      }

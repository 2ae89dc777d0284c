-- A term is run.
use Rattle.std.proofs.Common.{◌≡◌, ℕ, suc, ◌+◌, ◌-◌, ◌<◌, ◌≤◌, Bool, true, false, cond, ◌&&◌, leb, List, [], ◌∷◌, length, get_or, drop, set, Some, None, Option, sym, refl, ap, ◌∙◌, add-one, arith, eq-eqb, ne_eqb, leb-true}
use lib.Seq.{slice, length-slice}
use Rattle.std.proofs.lemmas.List.{get_or-set_same, length-set, get_or_default}
use Rattle.std.proofs.lemmas.Bool.{and_parts}
use Rattle.meaning.specs.Syntax.{Grammar, Expr, Term}
use Rattle.meaning.specs.Syntax.Term.{literal, call, attribute, guard}
use Rattle.meaning.specs.Meaning.{Replies}
use Rattle.meaning.specs.Values.{Progress, value, ends, if_some}
use Rattle.input.specs.Windows.{cover}
use Rattle.meaning.specs.Windows.{bytes_in}
use Rattle.meaning.specs.Runs.{◌>>=◌, ◌>>◌, goes_on, have, need}
use Rattle.meaning.specs.Meaning.{reads, matches, same, term, with_literal, with_slot, nested, tree}
use Rattle.machine.specs.Machine.{Next, step, step_term, step_terms, after_term, after_ends, go, advanced, Frame as Unfinished}
use Rattle.machine.specs.Machine.Mode.{runs, tries}
use Rattle.meaning.specs.declared.node.Node.{Node}
use Rattle.input.specs.declared.window.Window.{Window}
use Rattle.meaning.specs.declared.run.Start.{Start}
use Rattle.meaning.specs.declared.run.State.{State}
use Rattle.meaning.specs.declared.run.Limits.{Limits}
use Rattle.engine.specs.declared.frame.Frame.{Frame}
use Rattle.engine.specs.declared.mode.Mode.{Mode}
use Rattle.engine.specs.declared.mode.Mode.TheVariants.{Begins, Runs, Returns}
use Rattle.machine.specs.Machine.{next_step}
use Rattle.engine.specs.Blanks.{blank_node}
use Rattle.engine.specs.Configs.{so_of, onward, next_try, todo_of, more_of, tree_at, frame_of, frames_of, stands, Stacked, Sound, Moves, NextIs}
use Rattle.engine.proofs.Frames.{frames_kept, slice_set}

-- a term's window lies within that of its start
pub ends_within : (c : Start) (so : Progress) (a b : Expr) (w : Window) → Some w ≡ ends c so a b → c.window.left ≤ c.window.right → (w.left ≤ w.right) × (w.right ≤ c.window.right)
unfolding ends if_some
ends_within c so a b w e h = by (value c so a) (value c so b) e
  where
    tested : (p q : ℕ) (t : Bool) → leb p q && leb q (c.window.right - c.window.left) ≡ t → Some w ≡ cond t (Some (record { left = c.window.left + p; right = c.window.left + q })) None → (w.left ≤ w.right) × (w.right ≤ c.window.right)
    tested p q true t e =
        let z : w ≡ record { left = c.window.left + p; right = c.window.left + q } = cc in
        let k = and_parts (leb p q) (leb q (c.window.right - c.window.left)) t in
        rw z (omega (arith, leb-true p q k.0), omega (arith, leb-true q (c.window.right - c.window.left) k.1))
    tested p q false t e = absurd (let z : ◌≡◌ {A = ℕ} 0 1 = cc in omega arith)

    by : (x y : Option ℕ) → Some w ≡ if_some x (λ p. if_some y (λ q. cond (leb p q && leb q (c.window.right - c.window.left)) (Some (record { left = c.window.left + p; right = c.window.left + q })) None)) → (w.left ≤ w.right) × (w.right ≤ c.window.right)
    by None y e = absurd (let z : ◌≡◌ {A = ℕ} 0 1 = cc in omega arith)
    by (Some p) None e = absurd (let z : ◌≡◌ {A = ℕ} 0 1 = cc in omega arith)
    by (Some p) (Some q) e = tested p q _ refl e

module _ (read : Replies) (grammar : Grammar) (limits : Limits) (bytes : List ℕ) (rs : List Frame) (nodes : List Node) (count : ℕ) (s : State) (f : Frame) (sound : Sound grammar bytes limits.frames rs nodes count (Runs f)) where
  abbrev F : Unfinished
  F = frame_of grammar nodes count f

  abbrev d : ℕ
  d = limits.frames - suc (length rs)

  abbrev fs : List Unfinished
  fs = frames_of grammar nodes f.what.node rs

  abbrev Goes : List Frame → List Node → ℕ → State → Mode → Type 0
  Goes rs' nodes' count' s' m = Moves read grammar limits bytes (stands grammar limits.frames rs nodes count s (Runs f)) rs' nodes' count' s' m

  module _ (t : Term) (next : NextIs grammar f t) where
    abbrev ts : List Term
    ts = drop (suc f.place) (get_or (get_or grammar f.what.number []) f.alt [])

    abbrev one : Next
    one = step_term read grammar limits bytes d fs s F ts t

    running : next_step read grammar limits bytes (stands grammar limits.frames rs nodes count s (Runs f)) ≡ one
    unfolding stands next_step step step_terms frame_of NextIs
    running = ap (λ z. step_terms read grammar limits bytes d fs s F z) next

    counted : f.next + suc (length ts) ≡ f.after
    unfolding Sound NextIs
    counted = omega (arith, ap length next, sound.4.0)

    pub falls : (s' : State) (r : Mode) → r ≡ next_try f
        → one ≡ go d fs s' (tries f.what (suc f.alt) (f.next + suc (length ts)) (more_of grammar f)) → Goes rs nodes count s' r
    unfolding stands Sound
    falls s' r q e = rw q (record {
      steps = simp (add-one f.alt, sym counted) (sym (running ∙ e));
      sound = (omega (arith, sound.0, sound.1), sound.2, sound.3, simp (add-one f.alt) sound.4.1, sound.5);
    })

    pub goes : (nodes' : List Node) (s' : State) (u : Window) (g : Frame) (so : Progress) → g ≡ onward f u → one ≡ go d fs s' (runs (advanced F ts so)) → so ≡ so_of nodes' count (onward f u)
        → frames_of grammar nodes' f.what.node rs ≡ fs → length nodes' ≡ length nodes → Goes rs nodes' count s' (Runs g)
    unfolding stands Sound frame_of NextIs
    goes nodes' s' u g so q e z kept long = rw q (record {
      steps = simp (add-one f.place, add-one f.next, kept, sym z) (sym (running ∙ e));
      sound = (sound.0, omega (arith, sound.1), sound.2, sound.3, (simp (add-one f.place, add-one f.next) (omega (arith, counted)), sound.4.1, sound.4.2, omega (arith, sound.4.3)), sound.5);
    })

  abbrev so : Progress
  so = so_of nodes count f

  -- ---- guards

  module _ (e : Expr) (next : NextIs grammar f (guard e)) where
    pub guard_none : (r : Mode) → r ≡ next_try f → None ≡ value f.what so e → Goes rs nodes count s r
    unfolding step_term after_term term frame_of ◌>>=◌ ◌>>◌ goes_on have need
    guard_none r q v = falls (guard e) next s r q (simp (sym v))

    pub guard_zero : (r : Mode) (n : ℕ) → r ≡ next_try f → Some n ≡ value f.what so e → n ≡ 0 → Goes rs nodes count s r
    unfolding step_term after_term term frame_of ◌>>=◌ ◌>>◌ goes_on have need
    guard_zero r n q v z = falls (guard e) next s r q (simp (sym v, eq-eqb n 0 z))

    pub guard_goes : (g : Frame) (n : ℕ) → g ≡ onward f f.used → Some n ≡ value f.what so e → (n ≡ 0 → ⊥) → Goes rs nodes count s (Runs g)
    unfolding step_term after_term term frame_of ◌>>=◌ ◌>>◌ goes_on have need
    guard_goes g n q v z = goes (guard e) next nodes s f.used g so q (simp (sym v, ne_eqb n 0 z)) refl refl refl

  -- ---- attributes

  module _ (k : ℕ) (e : Expr) (next : NextIs grammar f (attribute k e)) where
    pub attribute_none : (r : Mode) → r ≡ next_try f → None ≡ value f.what so e → Goes rs nodes count s r
    unfolding step_term after_term term frame_of ◌>>=◌ ◌>>◌ goes_on have
    attribute_none r q v = falls (attribute k e) next s r q (simp (sym v))

    pub attribute_goes : (g : Frame) (n : ℕ) (node zero_node : Node) → g ≡ onward f f.used → Some n ≡ value f.what so e → node.slots ≡ set (get_or nodes f.what.node zero_node).slots k n
        → Goes rs (set nodes f.what.node node) count s (Runs g)
    unfolding step_term after_term term frame_of with_slot ◌>>=◌ ◌>>◌ goes_on have Sound
    attribute_goes g n node zero_node q v z =
        let me = f.what.node in
        let i : me < length nodes = omega (arith, sound.0, sound.1) in
        let slots : node.slots ≡ set (get_or nodes me blank_node).slots k n = z ∙ ap (λ y. set y.slots k n) (get_or_default nodes me zero_node blank_node i) in
        let mine = get_or-set_same nodes me node blank_node i in
        goes (attribute k e) next (set nodes me node) s f.used g (with_slot so k n) q (simp (sym v))
        (simp (mine, slots, slice_set nodes me count node))
        (frames_kept grammar bytes nodes me rs me node sound.5 (omega arith))
        (length-set nodes me node)

  -- ---- literals

  module _ (l : List ℕ) (a b : Expr) (next : NextIs grammar f (literal l a b)) where
    pub literal_none : (r : Mode) → r ≡ next_try f → None ≡ ends f.what so a b → Goes rs nodes count s r
    unfolding step_term after_term term frame_of ◌>>=◌ ◌>>◌ goes_on have
    literal_none r q v = falls (literal l a b) next s r q (simp (sym v))

    module _ (w : Window) (is : Some w ≡ ends f.what so a b) where
      pub literal_other : (r : Mode) → r ≡ next_try f → (w.right - w.left ≡ length l → ⊥) → Goes rs nodes count s r
      unfolding step_term after_term term frame_of ◌>>=◌ ◌>>◌ goes_on have need
      literal_other r q z = falls (literal l a b) next s r q (simp (sym is, ne_eqb (w.right - w.left) (length l) z))

      abbrev read_on : Window → State
      read_on u = record { starts = s.starts; reach = u }

      pub literal_differs : (r : Mode) (u : Window) → r ≡ next_try f → u ≡ cover s.reach w → w.right - w.left ≡ length l → false ≡ same (bytes_in bytes w) l
          → Goes rs nodes count (read_on u) r
      unfolding step_term after_term term frame_of ◌>>=◌ ◌>>◌ goes_on have need matches reads
      literal_differs r u q x z y = falls (literal l a b) next (read_on u) r q (simp (sym is, eq-eqb (w.right - w.left) (length l) z, sym y, x))

      pub literal_goes : (g : Frame) (u v : Window) → g ≡ onward f v → v ≡ cover f.used w → u ≡ cover s.reach w → w.right - w.left ≡ length l → true ≡ same (bytes_in bytes w) l
          → Goes rs nodes count (read_on u) (Runs g)
      unfolding step_term after_term term frame_of with_literal ◌>>=◌ ◌>>◌ goes_on have need matches reads
      literal_goes g u v q o x z y =
          goes (literal l a b) next nodes (read_on u) v g (with_literal so w) q (simp (sym is, eq-eqb (w.right - w.left) (length l) z, sym y, x)) (simp o) refl refl

  -- ---- calls

  module _ (n : ℕ) (a b : Expr) (next : NextIs grammar f (call n a b)) where
    pub call_none : (r : Mode) → r ≡ next_try f → None ≡ ends f.what so a b → Goes rs nodes count s r
    unfolding step_term after_ends frame_of
    call_none r q v = falls (call n a b) next s r q (simp (sym v))

    pub call_begins : (rs' : List Frame) (g : Frame) (w : Window) (k : ℕ) → k ≡ count → rs' ≡ g ∷ rs → g ≡ onward f f.used → Some w ≡ ends f.what so a b
        → Goes rs' nodes count s (Begins (record { number = n; parent = f.what.node; term = f.next; node = k; window = w }))
    unfolding step_term after_ends frame_of frames_of nested stands Sound Stacked
    call_begins rs' g w k e p q is =
        let me = f.what.node in
        let within = ends_within f.what so a b w is sound.3.0 in
        let z : suc (me + length (slice (suc me) count nodes)) ≡ count = omega (arith, length-slice (suc me) count nodes sound.1, sound.0) in
        let c = counted (call n a b) next in
        rw (p, q, e) (record {
          steps = sym (running (call n a b) next ∙ simp (sym is, z, add-one f.place, add-one f.next));
          sound = (
            refl,
            sound.1,
            sound.2,
            (within.0, omega (arith, within.1, sound.3.1)),
            (sound.0, sound.3, (simp (add-one f.place, add-one f.next) (omega arith), sound.4.1, sound.4.2, omega (arith, sound.4.3)), sound.5),
          );
        })

  -- ---- no term is left

  pub finishes : (node zero_node : Node) → todo_of grammar f ≡ []
      → node ≡ record { number = f.what.number; alternative = f.alt; parent = f.what.parent; term = f.what.term; window = f.what.window; used = f.used; slots = (get_or nodes f.what.node zero_node).slots }
      → Goes rs (set nodes f.what.node node) count s (Returns f.what.node)
  unfolding stands next_step step step_terms frame_of Sound tree_at tree
  finishes node zero_node e z =
      let me = f.what.node in
      let i : me < length nodes = omega (arith, sound.0, sound.1) in
      let mine = get_or-set_same nodes me node blank_node i in
      let own = get_or_default nodes me zero_node blank_node i in
      let left : limits.frames - length rs ≡ suc d = omega (arith, sound.2) in
      let kept = frames_kept grammar bytes nodes me rs me node sound.5 (omega arith) in
      record {
        steps = simp (left, kept, mine, slice_set nodes me count node) (simp (e, z, own));
        sound = (sound.0, simp length-set sound.1, omega (arith, sound.2), sound.5);
      }

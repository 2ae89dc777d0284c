-- Refusals, and what is left behind.
use Rattle.std.proofs.Common.{◌≡◌, ℕ, ◌+◌, ◌-◌, ◌<◌, ◌≤◌, true, leb, List, ◌++◌, map, length, get_or, take, drop, replicate, sym, ap, ◌∙◌, Ok, inl, inr, arith, leb-true, length-drop, length-append}
use Rattle.std.proofs.lemmas.Bool.{and_parts}
use Rattle.std.proofs.lemmas.List.{length-map, length-take-le, take_at}
use Rattle.meaning.specs.Meaning as meaning
use Rattle.meaning.specs.declared.node.Node.{Node}
use Rattle.input.specs.declared.window.Window.{Window}
use Rattle.engine.specs.declared.frame.Frame.{Frame}
use Rattle.engine.specs.declared.outcome.Outcome.{Outcome}
use Rattle.input.specs.Bytes.{in_order}
use Rattle.meaning.specs.Shape.{Shaped, Inside, PartOf}
use Rattle.meaning.specs.Meaning.{whole}
use Rattle.meaning.specs.Syntax.{Grammar}
use Rattle.meaning.specs.declared.run.Limits.{Limits}
use Rattle.engine.specs.Blanks.{blank_node, blank_frame}
use Rattle.engine.specs.Parses.{told, After, leaves}
use Rattle.engine.specs.Places.{placed, absolute, FitAt, NodeFits}

pub ordered_parts : (l r n : ℕ) → in_order l r n ≡ true → (l ≤ r) × (r ≤ n)
ordered_parts l r n e = let p = and_parts (leb l r) (leb r n) e in (leb-true l r p.0, leb-true r n p.1)

-- the node table, moved and blanked
module _ (left : ℕ) (r : Outcome) (run₁ run₂ run₃ : List Node) (o : meaning.Outcome) (is : told r run₁ ≡ o) (few : r.nodes ≤ length run₁) where
  front : take r.nodes run₁ ≡ o.nodes
  front = ap (λ (z : meaning.Outcome). z.nodes) is

  pub count_is : r.nodes ≡ length o.nodes
  count_is = sym (length-take-le r.nodes run₁ few) ∙ ap length front

  pub settled : run₂ ≡ map (absolute left) (take r.nodes run₁) → run₃ ≡ take r.nodes (run₂ ++ drop r.nodes run₁) ++ replicate (length (run₂ ++ drop r.nodes run₁) - r.nodes) blank_node → (n : ℕ) → length run₁ ≡ n
      → run₃ ≡ map (absolute left) o.nodes ++ replicate (n - length o.nodes) blank_node
  settled e q n h =
      let rest = drop r.nodes run₁ in
      let l : length run₂ ≡ r.nodes = ap length e ∙ length-map (take r.nodes run₁) (absolute left) ∙ length-take-le r.nodes run₁ few in
      let t : take r.nodes (run₂ ++ rest) ≡ run₂ = take_at run₂ rest r.nodes l in
      let s : length (run₂ ++ rest) ≡ n = omega (arith, length-append run₂ rest, length-drop r.nodes run₁, l, few, h) in
      q ∙ ap (λ z. z ++ replicate (length (run₂ ++ rest) - r.nodes) blank_node) (t ∙ e ∙ ap (map (absolute left)) front)
      ∙ ap (λ z. map (absolute left) o.nodes ++ replicate z blank_node) (ap (λ z. z - r.nodes) s ∙ ap (λ z. n - z) count_is)

  pub all_left : (w : Window) (frames : List Frame) (f n : ℕ) → w ≡ placed left r.reach → frames ≡ replicate f blank_frame → run₃ ≡ map (absolute left) o.nodes ++ replicate (n - length o.nodes) blank_node
      → ◌≡◌ {A = After} (record { outcome = Ok (record { answer = r.answer; nodes = r.nodes; starts = r.starts; reach = w }); frames = frames; nodes = run₃ }) (leaves left f n o)
  unfolding leaves
  all_left w frames f n e q p =
      let a : r.answer ≡ o.answer = ap (λ (z : meaning.Outcome). z.answer) is in
      let b : r.starts ≡ o.starts = ap (λ (z : meaning.Outcome). z.starts) is in
      let d : r.reach ≡ o.reach = ap (λ (z : meaning.Outcome). z.reach) is in
      let x : w ≡ placed left o.reach = e ∙ ap (placed left) d in
      rw (a, b, x, q, p, count_is)

-- a window that lies within n places
abbrev Fit : ℕ → Window → Type 0
Fit n w = (w.left ≤ n) × (w.right ≤ n)

inside_fits : (n : ℕ) (w : Window) → Inside w (whole n) → Fit n w
inside_fits n w h = (omega (arith, h.1, h.2), h.2)

part_fits : (n : ℕ) (w outer : Window) → Fit n outer → PartOf w outer → Fit n w
part_fits n w outer f (inl h) = (omega (arith, h.1, h.2, f.1), omega (arith, h.2, f.1))
part_fits n w outer f (inr e) = let l : w.left ≡ outer.left = ap (λ (z : Window). z.left) e in let r : w.right ≡ outer.left = ap (λ (z : Window). z.right) e in (omega (arith, f.0), omega (arith, f.0))

-- the places of a window of an input stay numbers
module _ (left n : ℕ) (near : n + left ≤ 16777216) where
  fit_moves : (w : Window) → Fit n w → FitAt left w
  fit_moves w h = (omega (arith, h.0), omega (arith, h.1))

  module _ (grammar : Grammar) (limits : Limits) (rule : ℕ) (r : Outcome) (nodes : List Node) (o : meaning.Outcome) (is : told r nodes ≡ o) (shaped : Shaped grammar limits rule n o) where
    pub reach_moves : FitAt left r.reach
    reach_moves =
        let d : r.reach ≡ o.reach = ap (λ (z : meaning.Outcome). z.reach) is in
        rw d (fit_moves o.reach (part_fits n o.reach (whole n) (omega arith, omega arith) shaped.reached))

    pub nodes_move : (i : ℕ) → i < length (take r.nodes nodes) → NodeFits left (get_or (take r.nodes nodes) i blank_node)
    nodes_move i k =
        let e : take r.nodes nodes ≡ o.nodes = ap (λ (z : meaning.Outcome). z.nodes) is in
        let l : length (take r.nodes nodes) ≡ length o.nodes = ap length e in
        let x = get_or o.nodes i blank_node in
        let p = shaped.placed blank_node i (omega arith) in
        let w = inside_fits n x.window p.held in
        rw e (fit_moves x.window w, fit_moves x.used (part_fits n x.used x.window w p.proper.part))

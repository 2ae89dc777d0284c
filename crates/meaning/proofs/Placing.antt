-- In a list of calls every node's parent stands before it and has called it, and its windows lie in its parent's.
use Rattle.std.proofs.Common.{◌≡◌, ℕ, zero, suc, ◌+◌, ◌-◌, ◌<◌, ◌≤◌, ◌⊎◌, List, ◌∷◌, ◌++◌, length, get_or, sym, refl, ap, ◌∙◌, subst, inl, inr, arith, length-append}
use lib.Seq.{get_or-append_seam}
use Rattle.std.proofs.lemmas.List.{get_or_append_left, get_or-append_right}
use Rattle.std.proofs.lemmas.Bool.{cases_order}
use Rattle.meaning.specs.Syntax.{Grammar}
use Rattle.meaning.specs.Meaning.{whole}
use Rattle.meaning.specs.Shape.{Inside, LiesIn, TermCalls, Proper, Called, Calls, Rooted, Placed, AllPlaced, rule_of}
use Rattle.meaning.specs.Shape.Calls.{none, one_more}
use Rattle.meaning.specs.declared.node.Node.{Node}
use Rattle.input.specs.declared.window.Window.{Window}

within : (u v w : Window) → Inside u v → Inside v w → Inside u w
within u v w h k = (omega (arith, h.0, k.0), h.1, omega (arith, h.2, k.2))

module _ (grammar : Grammar) where
  -- calls before a term are calls before the next, also of a caller that has come further
  pub later : {caller : ℕ} {by : Node} {k : ℕ} {ns : List Node} (to : Node)
      → ((n : Node) → Called grammar caller by n → Called grammar caller to n)
      → Calls grammar caller by k ns → (l : ℕ) → k ≤ l → Calls grammar caller to l ns
  later to h none l m = none
  later to h (one_more earlier n below last e t c b) l m = one_more earlier n below last (later to h e n.term (omega arith)) (omega arith) (h n c) b

  -- the node x of a list of calls, the i-th below the caller, and its parent; outer is the caller's window
  record Below (caller i : ℕ) (outer : Window) (x parent : Node) : Type 0 where
    from : caller ≤ x.parent
    before : x.parent ≤ caller + i
    term : TermCalls (rule_of grammar parent) parent.alternative x.term x.number
    inside : Inside x.window parent.window
    used : LiesIn x.used parent.used
    held : Inside x.window outer
    proper : Proper grammar x

  module _ (d : Node) where
    -- the parent is found by its number, which counts from the caller's
    abbrev Stands : (caller : ℕ) (by : Node) (ns : List Node) (i : ℕ) (x : Node) → Type 0
    Stands caller by ns i x = Below caller i by.window x (get_or (by ∷ ns) (x.parent - caller) d)

    module _ (caller : ℕ) (by : Node) (earlier : List Node) (n : Node) (below : List Node) where
      in_earlier : (x : Node) (i : ℕ) → i < length earlier → Stands caller by earlier i x → Stands caller by (earlier ++ n ∷ below) i x
      in_earlier x i h b =
          let same = get_or_append_left (by ∷ earlier) (n ∷ below) d (x.parent - caller) (omega (arith, b.before)) in
          subst (Below caller i by.window x) (sym same) b

      in_below : Inside n.window by.window → (x : Node) (i j : ℕ) → i ≡ suc (length earlier + j) → Stands (suc (caller + length earlier)) n below j x → Stands caller by (earlier ++ n ∷ below) i x
      in_below w x i j e b =
          let same = get_or-append_right (by ∷ earlier) (n ∷ below) (suc (length earlier)) (x.parent - caller) d refl (omega (arith, b.from)) in
          let place : x.parent - caller - suc (length earlier) ≡ x.parent - suc (caller + length earlier) = omega arith in
          let found = same ∙ ap (λ k. get_or (n ∷ below) k d) place in
          subst (Below caller i by.window x) (sym found)
          (record {
            from = omega (arith, b.from);
            before = omega (arith, b.before);
            term = b.term;
            inside = b.inside;
            used = b.used;
            held = within x.window n.window by.window b.held w;
            proper = b.proper;
          })

      here : (i : ℕ) → Called grammar caller by n → Stands caller by (earlier ++ n ∷ below) i n
      here i c =
          let first : 0 ≡ n.parent - caller = omega (arith, c.parent) in
          subst (λ k. Below caller i by.window n (get_or (by ∷ (earlier ++ n ∷ below)) k d)) first
          (record {
            from = omega (arith, c.parent);
            before = omega (arith, c.parent);
            term = c.term;
            inside = c.window;
            used = c.used;
            held = c.window;
            proper = c.proper;
          })

    -- each node of a list of calls
    all_stand : {caller : ℕ} {by : Node} {k : ℕ} {ns : List Node} → Calls grammar caller by k ns → (i : ℕ) → i < length ns → Stands caller by ns i (get_or ns i d)
    all_stand none i h = absurd (omega arith)
    all_stand {caller} {by} (one_more earlier n below last e t c b) i h =
        go (all_stand e i) (all_stand b (i - suc (length earlier))) (cases_order i (length earlier))
      where
        go : (i < length earlier → Stands caller by earlier i (get_or earlier i d))
            → (i - suc (length earlier) < length below → Stands (suc (caller + length earlier)) n below (i - suc (length earlier)) (get_or below (i - suc (length earlier)) d))
            → (i ≡ length earlier) ⊎ ((i < length earlier) ⊎ (length earlier < i))
            → Stands caller by (earlier ++ n ∷ below) i (get_or (earlier ++ n ∷ below) i d)
        go first second (inl z) =
            let seam : get_or (earlier ++ n ∷ below) i d ≡ n = ap (λ k. get_or (earlier ++ n ∷ below) k d) z ∙ get_or-append_seam earlier n below d in
            subst (Stands caller by (earlier ++ n ∷ below) i) (sym seam) (here caller by earlier n below i c)
        go first second (inr (inl z)) =
            subst (Stands caller by (earlier ++ n ∷ below) i) (sym (get_or_append_left earlier (n ∷ below) d i z)) (in_earlier caller by earlier n below (get_or earlier i d) i z (first z))
        go first second (inr (inr z)) =
            let j : i - length earlier ≡ suc (i - suc (length earlier)) = omega arith in
            let found = get_or-append_right earlier (n ∷ below) (length earlier) i d refl (omega arith) ∙ ap (λ k. get_or (n ∷ below) k d) j in
            let short : i - suc (length earlier) < length below = omega (arith, length-append earlier (n ∷ below)) in
            subst (Stands caller by (earlier ++ n ∷ below) i) (sym found) (in_below caller by earlier n below c.window _ i (i - suc (length earlier)) (omega arith) (second short))

  -- the root and all that is below it
  pub root_placed : {rule n : ℕ} {top : Node} {below : List Node} → Rooted grammar rule n top below → AllPlaced grammar n (top ∷ below)
  root_placed {n = n} {top = top} {below = below} r d zero h =
      let ordered : Inside top.window (whole n) = subst (λ (z : Window). Inside z (whole n)) (sym r.window) (omega arith, omega arith, omega arith) in
      subst (λ k. Placed grammar n 0 top (get_or (top ∷ below) k d)) (sym r.parent)
      (record { before = inr (refl, r.parent); inside = (omega arith, ordered.1, omega arith); used = λ lt. (omega arith, omega arith); held = ordered; proper = r.proper })
  root_placed {n = n} {top = top} {below = below} r d (suc j) h =
      let x = get_or below j d in
      let s : Below 0 j top.window x (get_or (top ∷ below) (x.parent - 0) d) = all_stand d r.calls j (omega arith) in
      let from_zero : x.parent - 0 ≡ x.parent = omega arith in
      subst (λ k. Placed grammar n (suc j) x (get_or (top ∷ below) k d)) from_zero
      (record {
        before = inl (omega (arith, s.before), s.term);
        inside = s.inside;
        used = s.used;
        held = subst (Inside x.window) r.window s.held;
        proper = s.proper;
      })

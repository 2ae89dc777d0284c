-- A table of nodes that are moved, entry by entry.
use Rattle.std.proofs.Common.{◌≡◌, ℕ, ◌+◌, ◌<◌, List, [], ◌∷◌, ◌++◌, map, length, get_or, take, drop, set, sym, ap, ◌∙◌, add-zero, arith}
use Rattle.meaning.specs.declared.node.Node.{Node}
use Rattle.input.specs.declared.window.Window.{Window}
use Rattle.engine.specs.Blanks.{blank_node}
use Rattle.engine.specs.Places.{placed, absolute, NodeFits}
use Rattle.std.proofs.lemmas.List.{take_more_set, map_more, drop-set-lt, drop-drop, get_or-drop, get_or_default}

module _ {X : Type 0} (f : X → X) (xs es : List X) (i : ℕ) (done : take i xs ≡ map f (take i es)) (rest : drop i xs ≡ drop i es) where
  pub same_here : (d : X) → get_or xs i d ≡ get_or es i d
  same_here d =
      let z : i + 0 ≡ i = add-zero i in
      ap (λ j. get_or xs j d) (sym z) ∙ sym (get_or-drop i xs 0 d) ∙ ap (λ l. get_or l 0 d) rest ∙ get_or-drop i es 0 d ∙ ap (λ j. get_or es j d) z

  pub map_next : (y d : X) → i < length xs → i < length es → y ≡ f (get_or xs i d) → take (i + 1) (set xs i y) ≡ map f (take (i + 1) es)
  map_next y d h k e = take_more_set xs i y h ∙ ap (λ z. z ++ y ∷ []) done ∙ ap (λ z. map f (take i es) ++ z ∷ []) (e ∙ ap f (same_here d)) ∙ sym (map_more f es i d k)

  pub rest_next : (y : X) → drop (i + 1) (set xs i y) ≡ drop (i + 1) es
  rest_next y = drop-set-lt (i + 1) xs i y (omega arith) ∙ sym (drop-drop 1 i xs) ∙ ap (drop 1) rest ∙ drop-drop 1 i es

pub fits_now : (xs es : List Node) (i left : ℕ) (d : Node) → drop i xs ≡ drop i es → i < length es → NodeFits left (get_or es i blank_node) → NodeFits left (get_or xs i d)
fits_now xs es i left d rest h fit =
    let z : i + 0 ≡ i = add-zero i in
    let e : get_or xs i d ≡ get_or es i blank_node =
    ap (λ j. get_or xs j d) (sym z) ∙ sym (get_or-drop i xs 0 d) ∙ ap (λ l. get_or l 0 d) rest ∙ get_or-drop i es 0 d ∙ ap (λ j. get_or es j d) z ∙ get_or_default es i d blank_node h in
    rw e fit

pub absolute_is : (n : Node) (left : ℕ) (w u : Window) → w ≡ placed left n.window → u ≡ placed left n.used
    → ◌≡◌ {A = Node} (record { number = n.number; alternative = n.alternative; parent = n.parent; term = n.term; window = w; used = u; slots = n.slots }) (absolute left n)
absolute_is n left w u e q = rw (e, q)

-- What writing a node leaves of the frames, and what popping a pile tells.
use Rattle.std.proofs.Common.{◌≡◌, ℕ, zero, suc, ◌+◌, ◌-◌, ◌<◌, ◌≤◌, ◌≢◌, List, [], ◌∷◌, ◌++◌, length, get_or, take, drop, set, Ok, Err, sym, refl, ap, ◌∙◌, add-one, arith, take-append-drop, length-take-le, get_or-set_other, take-take}
use lib.Seq.{slice, take-set-le, slice-cons, drop-append-le}
use Rattle.stack.specs.declared.refusal.StackRefusal.{StackRefusal}
use Rattle.stack.specs.Stacks.{pop_answer}
use Rattle.meaning.specs.Syntax.{Grammar}
use Rattle.meaning.specs.declared.node.Node.{Node}
use Rattle.engine.specs.declared.frame.Frame.{Frame}
use Rattle.std.proofs.lemmas.List.{drop-take, get_or_default}
use Rattle.meaning.specs.Values.{Progress}
use Rattle.engine.specs.Blanks.{blank_node}
use Rattle.engine.specs.Configs.{so_of, frame_of, frames_of, Stacked}

pub popped : {X : Type 0} (xs : List X) (x : X) → Ok x ≡ pop_answer xs → xs ≡ x ∷ drop 1 xs
popped [] x e = absurd (let z : ◌≡◌ {A = ℕ} 0 1 = cc in omega arith)
popped (y ∷ ys) x e = let z : x ≡ y = cc in ap (λ v. v ∷ ys) (sym z)

pub none_popped : {X : Type 0} (xs : List X) (r : StackRefusal) → Err r ≡ pop_answer xs → xs ≡ []
none_popped [] r e = refl
none_popped (y ∷ ys) r e = absurd (let z : ◌≡◌ {A = ℕ} 0 1 = cc in omega arith)

-- a finished start's node and nodes, behind those before it
slice_joined : (ns : List Node) (a b e : ℕ) → a ≤ b → b ≤ e → e ≤ length ns → slice a b ns ++ slice b e ns ≡ slice a e ns
slice_joined ns a b e h k l =
    let z = take e ns in
    let long : length z ≡ e = length-take-le e ns l in
    let front : length (take b z) ≡ b = length-take-le b z (omega arith) in
    ap (λ y. drop a y ++ drop b z) (sym (take-take b e ns k))
    ∙ sym (drop-append-le a (take b z) (drop b z) (omega arith))
    ∙ ap (drop a) (take-append-drop b z)

pub grown : (ns : List Node) (d : Node) (a b e : ℕ) → a ≤ b → b < e → e ≤ length ns → slice a b ns ++ get_or ns b d ∷ slice (suc b) e ns ≡ slice a e ns
grown ns d a b e h k l = ap (λ z. slice a b ns ++ z) (sym (slice-cons b e ns d k l)) ∙ slice_joined ns a b e h (omega arith) l

module _ (grammar : Grammar) (bytes : List ℕ) where
  -- a node written past them leaves the frames as they are
  pub frames_kept : (nodes : List Node) (end : ℕ) (rs : List Frame) (i : ℕ) (n : Node) → Stacked grammar bytes end rs → end ≤ i → frames_of grammar (set nodes i n) end rs ≡ frames_of grammar nodes end rs
  unfolding frames_of frame_of Stacked
  frames_kept nodes end [] i n h k = refl
  frames_kept nodes end (r ∷ rs) i n h k =
      let other : r.what.node ≢ i = omega (arith, h.0) in
      simp (get_or-set_other nodes i r.what.node n blank_node other, take-set-le end nodes i n k, frames_kept nodes r.what.node rs i n h.3 (omega (arith, h.0)))

-- what an unfinished start has come to, as it is read off the nodes
pub so_is : (nodes : List Node) (f : Frame) (end : ℕ) (d : Node) → f.what.node < end → end ≤ length nodes
    → ◌≡◌ {A = Progress} (record { slots = (get_or nodes f.what.node d).slots; below = take (end - (f.what.node + 1)) (drop (f.what.node + 1) nodes); used = f.used }) (so_of nodes end f)
so_is nodes f end d h k =
    let me = f.what.node in
    let i : me < length nodes = omega arith in
    let z : me + 1 + (end - (me + 1)) ≡ end = omega arith in
    let b : take (end - (me + 1)) (drop (me + 1) nodes) ≡ slice (suc me) end nodes = sym (drop-take (me + 1) (end - (me + 1)) nodes) ∙ ap (λ r. slice (me + 1) r nodes) z ∙ ap (λ r. slice r end nodes) (add-one me) in
    simp (get_or_default nodes me d blank_node i, b)

-- a node that is written leaves those behind it
pub slice_set : {X : Type 0} (l : List X) (i e : ℕ) (a : X) → slice (suc i) e (set l i a) ≡ slice (suc i) e l
slice_set [] i e a = refl
slice_set (x ∷ xs) zero zero a = refl
slice_set (x ∷ xs) zero (suc e) a = refl
slice_set (x ∷ xs) (suc i) zero a = refl
slice_set (x ∷ xs) (suc i) (suc e) a = slice_set xs i e a

-- Parts of lists.
use Rattle.std.proofs.Common.{◌≡◌, ◌-◌, ◌≤◌, List, ◌++◌, map, length, take, drop, sym, ap, ◌∙◌, ⊎_elim, arith, length-append, length-drop, length-take}
use lib.Seq.{take-append-le}
use Rattle.std.proofs.Math.Seq.{drop-append_seam}
use Rattle.std.proofs.lemmas.Bool.Decides.{leb_tells}
use Rattle.std.proofs.lemmas.List.{take_all, take-map, drop-map, drop-append-le}
use Rattle.arena.specs.Parts.{part}
use Rattle.arena.specs.declared.span.Span.{Span}

pub part_short : {X : Type 0} (xs : List X) (s : Span) → length (part s xs) ≤ length xs
part_short xs s = simp (length-take, length-drop) (omega arith)

pub part_map : {X Y : Type 0} (f : X → Y) (s : Span) (xs : List X) → part s (map f xs) ≡ map f (part s xs)
part_map f s xs = ap (take (s.to - s.from)) (drop-map f s.from xs) ∙ take-map f (s.to - s.from) (drop s.from xs)

-- ---- parts of a list that grows
-- the part that was appended
pub part_new : {X : Type 0} (xs ys : List X) (s : Span) → s.from ≡ length xs → s.to ≡ length (xs ++ ys) → part s (xs ++ ys) ≡ ys
part_new xs ys s from to =
    let len = length-append xs ys in
    ap (λ n. take (s.to - s.from) (drop n (xs ++ ys))) from ∙ ap (take (s.to - s.from)) (drop-append_seam xs ys) ∙ take_all _ ys (omega arith)

-- a part of what stood before
pub part_kept : {X : Type 0} (xs ys : List X) (s : Span) → s.to ≤ length xs → part s (xs ++ ys) ≡ part s xs
part_kept xs ys s h =
    ⊎_elim
    (λ t. let inside = t.1 in
    ap (take (s.to - s.from)) (drop-append-le s.from xs ys inside) ∙ take-append-le (s.to - s.from) (drop s.from xs) ys (simp length-drop (omega arith)))
    (λ t. let past = t.1 in
    let none : s.to - s.from ≡ 0 = omega arith in
    ap (λ n. take n (drop s.from (xs ++ ys))) none ∙ sym (ap (λ n. take n (drop s.from xs)) none))
    (leb_tells s.from (length xs))

-- The errata that a patch table holds.
use Rattle.std.proofs.Common.{◌≡◌, ℕ, ◌≤◌, List, map, length, take, set, sym, ap, ◌∙◌, arith}
use Rattle.std.proofs.lemmas.List.{length-map, length-take, take-set, take-take, take-map}
use Rattle.input.specs.Errata.{erratum_of}
use Rattle.input.specs.declared.patch.Patch.{Patch}

pub errata_length : (ps : List Patch) (n : ℕ) → n ≤ length ps → length (map erratum_of (take n ps)) ≡ n
errata_length ps n h = simp (length-map, length-take) (omega arith)

pub errata_less : (ps : List Patch) (n m : ℕ) (p : Patch) → n ≤ m → map erratum_of (take n (set ps n p)) ≡ take n (map erratum_of (take m ps))
errata_less ps n m p h = ap (map erratum_of) (take-set ps n p ∙ sym (take-take n m ps h)) ∙ sym (take-map erratum_of n (take m ps))

-- What a list of calls makes of a bench, and how each call is answered.
use Rattle.std.specs.Prelude.{ℕ, List, [], ◌∷◌, Result}
use Rattle.input.specs.Errata.{Erratum, patch_answer, patched, undo_answer, undone}
use Rattle.input.specs.declared.refusal.Refusal.{Refusal}
use Rattle.replay.specs.declared.Call.{Call}
use Rattle.replay.specs.declared.Call.TheVariants.{Patch, Undo}

-- ---- one call, on a list of n bytes under some errata

-- what a call comes to
abbrev pub Answer : Type 0
Answer = Result (Unit {0}) Refusal

abbrev pub answered : ℕ → List Erratum → Call → Answer
answered n errata (Patch place bytes) = patch_answer n errata place bytes.now
answered n errata Undo = undo_answer errata

abbrev pub errata_then : ℕ → List Erratum → Call → List Erratum
errata_then n errata (Patch place bytes) = patched n errata place bytes.now
errata_then n errata Undo = undone errata

-- ---- a list of calls, one after the other

unfoldable pub errata_from : ℕ → List Erratum → List Call → List Erratum
errata_from n errata [] = errata
errata_from n errata (c ∷ calls) = errata_from n (errata_then n errata c) calls

unfoldable pub answers_from : ℕ → List Erratum → List Call → List Answer
answers_from n errata [] = []
answers_from n errata (c ∷ calls) = answered n errata c ∷ answers_from n (errata_then n errata c) calls

-- a new bench has no errata
abbrev pub errata_after : ℕ → List Call → List Erratum
errata_after n calls = errata_from n [] calls

abbrev pub answers_after : ℕ → List Call → List Answer
answers_after n calls = answers_from n [] calls

-- ---- a lent table

-- a list written over the front of a table, as much as fits
unfoldable pub written : {X : Type 0} → List X → List X → List X
written [] ys = ys
written (x ∷ xs) [] = []
written (x ∷ xs) (y ∷ ys) = x ∷ written xs ys

-- Laws over whole lists of calls, for a list below of any length.
use Rattle.std.specs.Prelude.{◌≡◌, ℕ, List, [], ◌∷◌, ◌++◌, Ok}
use Rattle.std.specs.Borrow.{Bor}
use Rattle.input.specs.Errata.{patch_answer}
use Rattle.replay.specs.declared.Call.{Call}
use Rattle.replay.specs.declared.Call.TheVariants.{Patch, Undo}
use Rattle.replay.specs.Calls.{answered, errata_then, errata_after, answers_after}

-- one call more is answered by the errata so far, changes them as it does, and leaves the earlier answers alone
pub record More (n : ℕ) (calls : List Call) (c : Call) : Type 0 where
  pub errata : errata_after n (calls ++ c ∷ []) ≡ errata_then n (errata_after n calls) c
  pub answers : answers_after n (calls ++ c ∷ []) ≡ answers_after n calls ++ answered n (errata_after n calls) c ∷ []

abbrev pub CallByCall : Type 0
CallByCall = (n : ℕ) (calls : List Call) (c : Call) → More n calls c

-- an undo right after an accepted patch leaves the errata from before it
abbrev pub UndoTakesBack : Type 0
UndoTakesBack =
    (n : ℕ) (calls : List Call) (place : ℕ) (bytes : Bor (List ℕ))
    → patch_answer n (errata_after n calls) place bytes.now ≡ Ok tt
    → errata_after n (calls ++ Patch place bytes ∷ Undo ∷ []) ≡ errata_after n calls

-- Why a text is refused, with the number and the place that are told.
use Rattle.std.specs.Prelude.{ℕ}
use Rattle.expr.specs.declared.Refusal.{Refusal}
use Rattle.expr.specs.declared.Refusal.TheVariants as refusal
use Rattle.draft.specs.declared.refused.Refused.{Refused}
use Rattle.draft.specs.declared.refused.Refused.TheVariants as refused

-- a refusal by the form
abbrev pub refused_for : Refusal → Refused
refused_for (refusal.Form p) = refused.Form p
refused_for (refusal.Deep p) = refused.Deep p

abbrev pub refused_number : Refused → ℕ
refused_number refused.TooLong = 1
refused_number (refused.Token p) = 2
refused_number (refused.Form p) = 3
refused_number (refused.Deep p) = 4
refused_number refused.Limit = 5

-- 0 where no place is told
abbrev pub refused_place : Refused → ℕ
refused_place (refused.Token p) = p
refused_place (refused.Form p) = p
refused_place (refused.Deep p) = p
refused_place _ = 0

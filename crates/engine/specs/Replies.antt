-- The listed numbers of what a parse answers.
use Rattle.std.specs.Prelude.{ℕ}
use Rattle.engine.specs.declared.outcome.Refusal.{Refusal}
use Rattle.engine.specs.declared.outcome.Refusal.TheVariants.{UnknownRule, BadWindow, BadLimits}

-- 21: no such rule; 22: a window out of order or past the end; 23: a limit that is not allowed
abbrev pub refusal_number : Refusal → ℕ
refusal_number UnknownRule = 21
refusal_number BadWindow = 22
refusal_number BadLimits = 23

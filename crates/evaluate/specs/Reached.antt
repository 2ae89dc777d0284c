-- Where a start has come, by its meaning.
use Rattle.input.specs.declared.window.Window.{Window}
use Rattle.meaning.specs.Values.{Progress}
use Rattle.evaluate.specs.declared.Reached.{Reached}

-- with what it has used, on which no value depends
abbrev pub progress : Reached → (used : Window) → Progress
progress r used = record { slots = r.slots.now; below = r.below.now; used = used }

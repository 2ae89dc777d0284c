-- Parts of lists.
use Rattle.std.specs.Prelude.{◌-◌, List, take, drop}
use Rattle.arena.specs.declared.span.Span.{Span}

-- the part of a list from one place up to another, as far as the list goes
abbrev pub part : {X : Type 0} → Span → List X → List X
part s xs = take (s.to - s.from) (drop s.from xs)

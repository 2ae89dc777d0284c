-- How far the parts reach that the tables of a draft tell: no further than what stands there.
use Rattle.std.specs.Prelude.{ℕ, max, List, [], ◌∷◌}
use Rattle.arena.specs.declared.span.Span.{Span}
use Rattle.term.specs.Tables.{Tables, Entry, Head}
use Rattle.term.specs.Tables as entry

-- the highest of the numbers that f tells, or 0
abbrev pub most : {X : Type 0} → (X → ℕ) → List X → ℕ
most f [] = 0
most f (x ∷ xs) = max (f x) (most f xs)

abbrev pub code_end : Entry → ℕ
code_end (entry.literal s e) = max e.left.to e.right.to
code_end (entry.call w e) = max e.left.to e.right.to
code_end (entry.attribute p w s) = s.to
code_end (entry.guard s) = s.to

abbrev pub bytes_end : Entry → ℕ
bytes_end (entry.literal s e) = s.to
bytes_end _ = 0

abbrev pub span_end : Span → ℕ
span_end s = s.to

abbrev pub head_end : Head → ℕ
head_end h = h.branches.to

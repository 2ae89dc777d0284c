-- The listed numbers of a parse's answers.
use Rattle.std.specs.Prelude.{ℕ}
use Rattle.meaning.specs.declared.answer.Answer.{Answer}
use Rattle.meaning.specs.declared.answer.Answer.TheVariants.{Match, NoMatch, Budget, Depth, Nodes}

abbrev pub answer_number : Answer → ℕ
answer_number Match = 0
answer_number NoMatch = 24
answer_number Budget = 25
answer_number Depth = 26
answer_number Nodes = 27

-- The worked cases stand, by computation.
use Rattle.std.proofs.Common.{refl}
use Rattle.cases.specs.Cases.{CasesStand}
use Rattle.input.specs.Windows.{cover}
use Rattle.meaning.specs.Windows.{bytes_in}
use Rattle.operators.specs.Applied.{in_range, applied}
use Rattle.meaning.specs.Values.{if_some, called, value, ends}
use Rattle.meaning.specs.Runs.{goes_on, instead, ◌>>=◌, ◌>>◌, ◌or_else◌, need, have}
use Rattle.meaning.specs.Meaning.{reads, same, matches, read_of, noted, field, one_more, begin, nothing_yet, tree, leaf, with_literal, with_call, with_slot, nested, term, terms, alternatives, start, outcome, root, at_first, parse}

pub cases_stand : CasesStand
unfolding cover bytes_in in_range applied if_some called value ends goes_on instead ◌>>=◌ ◌>>◌ ◌or_else◌ need have reads same matches read_of noted field one_more begin nothing_yet tree leaf with_literal with_call with_slot nested term terms alternatives start outcome root at_first parse
cases_stand = refl

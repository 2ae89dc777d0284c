-- How much stands in tables, and the tables cut back to lengths.
use Rattle.std.specs.Prelude.{length, take}
use Rattle.term.specs.Tables.{Tables}
use Rattle.draft.specs.declared.counts.Counts.{Counts}

abbrev pub sizes_of : Tables → Counts
sizes_of T = record { rules = length T.rules; alternatives = length T.alternatives; terms = length T.terms; bytes = length T.bytes; parts = length T.code }

abbrev pub cut_to : Tables → Counts → Tables
cut_to T n = record { rules = take n.rules T.rules; alternatives = take n.alternatives T.alternatives; terms = take n.terms T.terms; bytes = take n.bytes T.bytes; code = take n.parts T.code }

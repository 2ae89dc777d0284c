-- A bench by its errata, and what it shows.
use Rattle.std.specs.Prelude.{ℕ, ◌≤◌, List, map, length, take}
use Rattle.std.proofs.Common.{arith}
use Rattle.input.specs.Bytes.{Shown, longest}
use Rattle.input.specs.Errata.{Erratum, erratum_of, shows, length_shows}
use Rattle.input.specs.declared.bench.Bench.{Bench}

-- the entries that stand, oldest first
abbrev pub errata : {I : Type 0} → Bench I → List Erratum
errata bench = map erratum_of (take bench.count bench.table)

-- errata leave a list as long as it was
pub shows_short : (list : List ℕ) (errata : List Erratum) → length list ≤ longest → length (shows list errata) ≤ longest
shows_short list errata h = omega (arith, length_shows list errata)

-- the list below with the errata written over it
abbrev pub bench_shown : Shown → List Erratum → Shown
bench_shown s errata = record { bytes = shows s.bytes errata; short = shows_short s.bytes errata s.short }

-- A parse depends on the bytes inside its reach alone, stops included.
use Rattle.std.specs.Prelude.{◌≡◌, ℕ, ◌+◌, ◌<◌, ◌≤◌, ◌⊎◌, List, length, slice_index}
use Rattle.std.proofs.lemmas.List.Edits.{sets}
use Rattle.fields.specs.Fields.{Fields}
use Rattle.meaning.specs.Syntax.{Grammar}
use Rattle.meaning.specs.Meaning.{parse, read_of}
use Rattle.meaning.specs.declared.run.Limits.{Limits}
use Rattle.input.specs.declared.window.Window.{Window}

-- a place of a window
abbrev pub Within : ℕ → Window → Type 0
Within k w = (w.left ≤ k) × (k < w.right)

-- two lists have the same byte at each place of a window
abbrev pub SameIn : Window → List ℕ → List ℕ → Type 0
SameIn w xs ys = (k : ℕ) → Within k w → slice_index xs k ≡ slice_index ys k

-- lists of equal length that show equal bytes within the reach of the parse on the first have equal outcomes
abbrev pub Locality : Type 0
Locality =
    (fields : Fields) (grammar : Grammar) (limits : Limits) (rule : ℕ) (xs ys : List ℕ)
    → length xs ≡ length ys
    → SameIn (parse fields grammar limits rule xs).reach xs ys
    → parse fields grammar limits rule xs ≡ parse fields grammar limits rule ys

-- bytes written over a list outside the reach change nothing
abbrev pub Untouched : Type 0
Untouched =
    (fields : Fields) (grammar : Grammar) (limits : Limits) (rule : ℕ) (xs : List ℕ) (p : ℕ) (bs : List ℕ)
    → ((k : ℕ) → Within k (parse fields grammar limits rule xs).reach → (k < p) ⊎ (p + length bs ≤ k))
    → parse fields grammar limits rule (sets xs p bs) ≡ parse fields grammar limits rule xs

-- readers that answer alike give equal outcomes
abbrev pub SameReaders : Type 0
SameReaders =
    (fields others : Fields) (grammar : Grammar) (limits : Limits) (rule : ℕ) (xs : List ℕ)
    → ((n : ℕ) (w : List ℕ) → read_of fields n w ≡ read_of others n w)
    → parse fields grammar limits rule xs ≡ parse others grammar limits rule xs

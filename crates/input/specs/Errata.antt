-- The errata of a bench: how calls change them, and what they make of a list of bytes.
use Rattle.std.specs.Prelude.{◌≡◌, ℕ, ◌+◌, ◌-◌, ◌<◌, Bool, true, false, cond, ◌&&◌, ◌||◌, List, [], ◌∷◌, ◌++◌, length, take, is_ok, Some, None, Ok, Err, Option, Result, ◌==◌, nat_le, nat_lt, slice_index, slice_set, refl}
use Rattle.std.proofs.Common.{◌∙◌, length-set}
use Rattle.input.specs.declared.refusal.Refusal.{Refusal}
use Rattle.input.specs.declared.refusal.Refusal.TheVariants.{PatchLength, PatchPlace, PatchesFull, NoPatch}
use Rattle.input.specs.declared.patch.Patch.{Patch}

-- an erratum is a place with the bytes to be shown from there on
pub record Erratum : Type 0 where
  pub place : ℕ
  pub bytes : List ℕ

-- ---- how calls are answered, and what they make of the errata (oldest first)

-- whether a patch of these bytes is refused: there are none, or more than 8
abbrev pub unfit : List ℕ → Bool
unfit bytes = length bytes == 0 || nat_lt 8 (length bytes)

-- the answer to a patch of bytes at a place, on a list of n bytes under these errata
abbrev pub patch_answer : (n : ℕ) → List Erratum → (place : ℕ) → (bytes : List ℕ) → Result (Unit {0}) Refusal
patch_answer n errata place bytes =
    cond (unfit bytes) (Err PatchLength)
    (cond (nat_lt n (place + length bytes)) (Err PatchPlace)
    (cond (nat_le 32 (length errata)) (Err PatchesFull) (Ok tt)))

-- an accepted patch is appended, a refused one changes nothing
abbrev pub patched : (n : ℕ) → List Erratum → (place : ℕ) → (bytes : List ℕ) → List Erratum
patched n errata place bytes =
    cond (is_ok (patch_answer n errata place bytes)) (errata ++ record { place = place; bytes = bytes } ∷ []) errata

abbrev pub undo_answer : List Erratum → Result (Unit {0}) Refusal
undo_answer errata = cond (length errata == 0) (Err NoPatch) (Ok tt)

-- all errata but the latest; none of none
abbrev pub undone : List Erratum → List Erratum
undone errata = take (length errata - 1) errata

-- ---- what is shown

-- some bytes written over a list from a place on; what would stand past its end is dropped
abbrev pub over : List ℕ → (place : ℕ) → (bytes : List ℕ) → List ℕ
over list place [] = list
over list place (b ∷ bytes) = over (slice_set list place b) (place + 1) bytes

-- the errata written over a list, oldest first
abbrev pub shows : List ℕ → List Erratum → List ℕ
shows list [] = list
shows list (e ∷ errata) = shows (over list e.place e.bytes) errata

-- writing over a list keeps its length
pub length_over : (list : List ℕ) (place : ℕ) (bytes : List ℕ) → length (over list place bytes) ≡ length list
length_over list place [] = refl
length_over list place (b ∷ bytes) = length_over (slice_set list place b) (place + 1) bytes ∙ length-set list place b

pub length_shows : (list : List ℕ) (errata : List Erratum) → length (shows list errata) ≡ length list
length_shows list [] = refl
length_shows list (e ∷ errata) = length_shows (over list e.place e.bytes) errata ∙ length_over list e.place e.bytes

-- ---- one entry of the patch table

-- the erratum that an entry holds
abbrev pub erratum_of : Patch → Erratum
erratum_of p = record { place = p.place; bytes = take p.len p.bytes }

-- bytes that an entry can hold are held; others are refused
abbrev pub Holds : (place : ℕ) → (bytes : List ℕ) → Result Patch Refusal → Type 0
Holds place bytes (Ok p) = (unfit bytes ≡ false) × (erratum_of p ≡ record { place = place; bytes = bytes })
Holds place bytes (Err e) = (unfit bytes ≡ true) × (e ≡ PatchLength)

-- whether an erratum covers a place
abbrev pub covers : Erratum → ℕ → Bool
covers e k = nat_le e.place k && nat_lt (k - e.place) (length e.bytes)

-- the byte that an erratum puts at a place, if it covers it
abbrev pub erratum_at : Erratum → ℕ → Option ℕ
erratum_at e k = cond (covers e k) (Some (slice_index e.bytes (k - e.place))) None

-- ---- the law above: at each place the latest erratum that covers it shows

-- a byte if there is one, else another
abbrev pub or_default : Option ℕ → ℕ → ℕ
or_default (Some b) d = b
or_default None d = d

-- the first of two bytes that there is
abbrev pub or_else : Option ℕ → Option ℕ → Option ℕ
or_else (Some b) o = Some b
or_else None o = o

-- the byte that the latest erratum covering a place puts there; the errata are oldest first
abbrev pub latest_at : List Erratum → ℕ → Option ℕ
latest_at [] k = None
latest_at (e ∷ errata) k = or_else (latest_at errata k) (erratum_at e k)

-- at each place of a list: the latest erratum's byte, or the list's own where none covers it
abbrev pub LatestShows : Type 0
LatestShows =
    (list : List ℕ) (errata : List Erratum) (k : ℕ) → k < length list
    → slice_index (shows list errata) k ≡ or_default (latest_at errata k) (slice_index list k)

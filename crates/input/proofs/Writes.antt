-- What is shown at a place under errata.
use Rattle.std.proofs.Common.{◌≡◌, ℕ, suc, ◌+◌, ◌-◌, ◌<◌, Bool, true, false, cond, ◌&&◌, ltb, leb, List, [], ◌∷◌, map, length, get_or, set, Some, None, Option, refl, ap, ◌∙◌, ⊎_elim, arith, length-set}
use Rattle.std.proofs.lemmas.List.{get_or-set_same, get_or-set_other}
use Rattle.std.proofs.lemmas.Bool.{cases_order}
use Rattle.std.proofs.lemmas.Bool.Decides.{nat_tests}
use Rattle.std.specs.List.{fold}
use Rattle.std.specs.Option.{unwrap_or}
use Rattle.input.specs.declared.patch.Patch.{Patch}
use Rattle.input.specs.Errata.{Erratum, erratum_of, over, shows, erratum_at, covers, length_over, or_default, or_else, latest_at, LatestShows}

abbrev covered : ℕ → ℕ → ℕ → Bool
covered p n k = leb p k && ltb (k - p) n

over_at : (xs : List ℕ) (p : ℕ) (bs : List ℕ) (k : ℕ) → k < length xs → get_or (over xs p bs) k 0 ≡ cond (covered p (length bs) k) (get_or bs (k - p) 0) (get_or xs k 0)
over_at xs p [] k h = grind (arith, nat_tests)
over_at xs p (b ∷ bs) k h =
    let h' : k < length (set xs p b) = simp length-set (omega arith) in
    over_at (set xs p b) (p + 1) bs k h' ∙ ⊎_elim
    (λ (e : k ≡ p).
    let i : p < length xs = omega arith in
    let s : get_or (set xs p b) k 0 ≡ b = rw e (get_or-set_same xs p b 0 i) in
    let n : k - p ≡ 0 = omega arith in
    let t : get_or (b ∷ bs) (k - p) 0 ≡ b = ap (λ i. get_or (b ∷ bs) i 0) n in
    grind (arith, nat_tests))
    (⊎_elim
    (λ (l : k < p). let s : get_or (set xs p b) k 0 ≡ get_or xs k 0 = get_or-set_other xs p k b 0 (omega arith) in grind (arith, nat_tests))
    (λ (m : p < k).
    let s : get_or (set xs p b) k 0 ≡ get_or xs k 0 = get_or-set_other xs p k b 0 (omega arith) in
    let n : k - p ≡ suc (k - (p + 1)) = omega arith in
    let t : get_or (b ∷ bs) (k - p) 0 ≡ get_or bs (k - (p + 1)) 0 = ap (λ i. get_or (b ∷ bs) i 0) n in
    grind (arith, nat_tests)))
    (cases_order k p)

cond_default : (t : Bool) (v d : ℕ) → cond t v d ≡ or_default (cond t (Some v) None) d
cond_default true v d = refl
cond_default false v d = refl

default_is : (o : Option ℕ) (d : ℕ) → or_default o d ≡ unwrap_or o d
default_is (Some b) d = refl
default_is None d = refl

-- one erratum
erratum_over : (xs : List ℕ) (e : Erratum) (k : ℕ) → k < length xs → get_or (over xs e.place e.bytes) k 0 ≡ or_default (erratum_at e k) (get_or xs k 0)
erratum_over xs e k h =
    over_at xs e.place e.bytes k h ∙ cond_default (covers e k) (get_or e.bytes (k - e.place) 0) (get_or xs k 0)

-- what is shown, gathered patch by patch from the oldest on
pub shows_folded : (xs : List ℕ) (ps : List Patch) (k : ℕ) → k < length xs
    → get_or (shows xs (map erratum_of ps)) k 0 ≡ fold (λ shown p. unwrap_or (erratum_at (erratum_of p) k) shown) (get_or xs k 0) ps
shows_folded xs [] k h = refl
shows_folded xs (p ∷ ps) k h =
    let e = erratum_of p in
    let h' : k < length (over xs e.place e.bytes) = omega (arith, length_over xs e.place e.bytes) in
    shows_folded (over xs e.place e.bytes) ps k h'
    ∙ ap (λ first. fold (λ shown p. unwrap_or (erratum_at (erratum_of p) k) shown) first ps) (erratum_over xs e k h ∙ default_is (erratum_at e k) (get_or xs k 0))

default_twice : (o p : Option ℕ) (d : ℕ) → or_default o (or_default p d) ≡ or_default (or_else o p) d
default_twice (Some b) p d = refl
default_twice None p d = refl

pub latest_shows : LatestShows
latest_shows xs [] k h = refl
latest_shows xs (e ∷ es) k h =
    let h' : k < length (over xs e.place e.bytes) = omega (arith, length_over xs e.place e.bytes) in
    latest_shows (over xs e.place e.bytes) es k h'
    ∙ ap (or_default (latest_at es k)) (erratum_over xs e k h)
    ∙ default_twice (latest_at es k) (erratum_at e k) (get_or xs k 0)

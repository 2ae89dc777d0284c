-- While a list of calls is met: what the calls that are left make of the bench is what all make of a new one.
use Rattle.std.proofs.Common.{◌≡◌, ℕ, zero, suc, ◌+◌, ◌<◌, ◌≤◌, List, [], ◌∷◌, ◌++◌, length, get_or, take, drop, set, sym, refl, ap, ◌∙◌, arith, take-append-drop}
use Rattle.std.proofs.lemmas.List.{at_drop_more, at_drop_all}
use Rattle.input.specs.Errata.{Erratum}
use Rattle.replay.specs.Calls.{Answer}
use Rattle.replay.specs.declared.Call.{Call}
use Rattle.replay.specs.Calls.{errata_then, answered, errata_from, answers_from, errata_after, answers_after, written}

written_none : {X : Type 0} (xs : List X) → written xs [] ≡ []
unfolding written
written_none [] = refl
written_none (x ∷ xs) = refl

-- one answer more; where the table ends before it, nothing is written
written_next : {X : Type 0} (x : X) (xs ys : List X) (i : ℕ) → take i ys ++ written (x ∷ xs) (drop i ys) ≡ take (suc i) (set ys i x) ++ written xs (drop (suc i) (set ys i x))
unfolding written
written_next x xs [] zero = sym (written_none xs)
written_next x xs [] (suc i) = sym (written_none xs)
written_next x xs (y ∷ ys) zero = refl
written_next x xs (y ∷ ys) (suc i) = ap (λ zs. y ∷ zs) (written_next x xs ys i)

module _ (n : ℕ) (cs : List Call) (ys₀ : List Answer) where
  -- after i calls: what the rest comes to is what all come to
  pub record Going (i : ℕ) (es : List Erratum) (ys : List Answer) : Type 0 where
    pub errata : errata_from n es (drop i cs) ≡ errata_after n cs
    pub answers : take i ys ++ written (answers_from n es (drop i cs)) (drop i ys) ≡ written (answers_after n cs) ys₀

  pub begins : (es : List Erratum) → es ≡ [] → Going 0 es ys₀
  begins es e = record {
    errata = ap (λ z. errata_from n z cs) e;
    answers = ap (λ z. written (answers_from n z cs) ys₀) e;
  }

  module _ (i : ℕ) (es es' : List Erratum) (ys ys' : List Answer) (d : Call) (x : Answer) (n' : ℕ) (same : n' ≡ n) (h : i < length cs) (going : Going i es ys)
      (e' : es' ≡ errata_then n' es (get_or cs i d)) (a' : x ≡ answered n' es (get_or cs i d)) where
    e : es' ≡ errata_then n es (get_or cs i d)
    e = e' ∙ ap (λ z. errata_then z es (get_or cs i d)) same

    a : x ≡ answered n es (get_or cs i d)
    a = a' ∙ ap (λ z. answered z es (get_or cs i d)) same

    errata_next : errata_from n es' (drop (i + 1) cs) ≡ errata_after n cs
    unfolding errata_from
    errata_next =
        let s : errata_from n es (drop i cs) ≡ errata_from n (errata_then n es (get_or cs i d)) (drop (i + 1) cs) = at_drop_more (errata_from n es) cs i d h in
        ap (λ z. errata_from n z (drop (i + 1) cs)) e ∙ sym s ∙ going.errata

    rest_next : answers_from n es (drop i cs) ≡ x ∷ answers_from n es' (drop (i + 1) cs)
    unfolding answers_from
    rest_next =
        let s : answers_from n es (drop i cs) ≡ answered n es (get_or cs i d) ∷ answers_from n (errata_then n es (get_or cs i d)) (drop (i + 1) cs) = at_drop_more (answers_from n es) cs i d h in
        rw (e, a) s

    abbrev rest : List Answer
    rest = answers_from n es' (drop (i + 1) cs)

    pub goes_on : ys' ≡ set ys i x → Going (i + 1) es' ys'
    goes_on p =
        let next : suc i ≡ i + 1 = omega arith in record {
          errata = errata_next;
          answers = ap (λ zs. take (i + 1) zs ++ written rest (drop (i + 1) zs)) p
              ∙ ap (λ k. take k (set ys i x) ++ written rest (drop k (set ys i x))) (sym next)
              ∙ sym (written_next x rest ys i)
              ∙ ap (λ z. take i ys ++ written z (drop i ys)) (sym rest_next)
              ∙ going.answers;
        }

  -- all calls are met
  pub record Done (es : List Erratum) (ys : List Answer) : Type 0 where
    pub errata : es ≡ errata_after n cs
    pub answers : ys ≡ written (answers_after n cs) ys₀

  pub ends : (i : ℕ) (es : List Erratum) (ys : List Answer) → length cs ≤ i → Going i es ys → Done es ys
  unfolding errata_from answers_from written
  ends i es ys h going = record {
    errata = sym (at_drop_all (errata_from n es) cs i h) ∙ going.errata;
    answers = sym (take-append-drop i ys) ∙ sym (ap (λ z. take i ys ++ written z (drop i ys)) (at_drop_all (answers_from n es) cs i h)) ∙ going.answers;
  }

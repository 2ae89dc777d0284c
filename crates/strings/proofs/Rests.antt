-- What is decoded so far, and what is left.
use Rattle.std.proofs.Common.{◌≡◌, ℕ, ◌+◌, ◌<◌, ◌≤◌, true, false, ◌&&◌, ◌==◌, List, [], ◌∷◌, length, get_or, Some, None, Option, is_none, sym, refl, ap, ◌∙◌, arith}
use Rattle.std.proofs.lemmas.Bool.{false≢true}
use Rattle.std.proofs.lemmas.Bool.Decides.{nat_tests}
use Rattle.arena.specs.Bounded.{upto}
use Rattle.arena.proofs.Bounds.{twice, by_none}
use Rattle.strings.specs.Decoding.{plain, decode, consed, decoded_length, or_empty, bytes_of}

none_after_none : (o : Option (List ℕ)) → consed None o ≡ None
none_after_none (Some vs) = refl
none_after_none None = refl

-- a front that neither stands for itself nor begins an escape
pub refused_front : (bs : List ℕ) → 1 ≤ length bs → plain (get_or bs 0 0) ≡ false → (4 ≤ length bs → get_or bs 0 0 ≡ 0x5C → get_or bs 1 0 ≡ 0x78 → ⊥) → decode bs ≡ None
refused_front [] h p q = absurd (omega arith)
refused_front (a ∷ []) h p q = rw p refl
refused_front (a ∷ b ∷ []) h p q = rw p (none_after_none _)
refused_front (a ∷ b ∷ c ∷ []) h p q = rw p (none_after_none _)
refused_front (a ∷ b ∷ c ∷ d ∷ bs) h p q =
    let apart : (a == 0x5C && b == 0x78) ≡ false = grind (arith, nat_tests) in
    rw (p, apart) (none_after_none _)

-- ---- the length alone
abbrev pub counted : ℕ → Option (List ℕ) → Option ℕ
counted n (Some vs) = Some (n + length vs)
counted n None = None

pub counted_none : (o : Option (List ℕ)) → decoded_length o ≡ counted 0 o
counted_none (Some vs) = ap Some (omega arith)
counted_none None = refl

pub counted_more : (n v : ℕ) (o : Option (List ℕ)) → counted n (consed (Some v) o) ≡ counted (n + 1) o
counted_more n v (Some vs) = ap Some (omega arith)
counted_more n v None = refl

-- ---- the bytes, appended one by one
pub record Going (body rest out entry : List ℕ) : Type 0 where
  pub whole : upto 513 out (bytes_of rest) ≡ upto 513 entry (bytes_of body)
  pub allowed : (decode rest ≡ None) → ⊥

pub goes_on : (body rest more out later entry : List ℕ) (b : ℕ) → Going body rest out entry → decode rest ≡ consed (Some b) (decode more) → later ≡ upto 513 out (b ∷ []) → Going body more later entry
unfolding bytes_of
goes_on body rest more out later entry b g is put = go (decode more) refl
  where
    go : (o : Option (List ℕ)) → decode more ≡ o → Going body more later entry
    go None e = absurd (g.allowed (is ∙ ap (consed (Some b)) e))
    go (Some vs) e =
        let left : bytes_of rest ≡ b ∷ vs = ap or_empty (is ∙ ap (consed (Some b)) e) in
        let right : bytes_of more ≡ vs = ap or_empty e in
        record {
          whole = ap (λ l. upto 513 later l) right ∙ ap (λ l. upto 513 l vs) put ∙ twice 513 out (b ∷ []) vs ∙ ap (upto 513 out) (sym left) ∙ g.whole;
          allowed = λ none. some_not_none (sym e ∙ none);
        }
      where
        some_not_none : {vs : List ℕ} → Some vs ≡ None → ⊥
        some_not_none h = grind arith

pub all_there : (body rest out entry : List ℕ) → Going body rest out entry → (0 < length rest → decode rest ≡ None) → out ≡ upto 513 entry (bytes_of body)
unfolding bytes_of
all_there body [] out entry g none = sym (by_none 513 out) ∙ g.whole
all_there body (b ∷ rest) out entry g none = absurd (g.allowed (none (omega arith)))

pub not_allowed : (body out : List ℕ) → is_none (decoded_length (decode body)) ≡ true → out ≡ upto 513 out (bytes_of body)
unfolding bytes_of
not_allowed body out h = go (decode body) h
  where
    go : (o : Option (List ℕ)) → is_none (decoded_length o) ≡ true → out ≡ upto 513 out (or_empty o)
    go None e = sym (by_none 513 out)
    go (Some vs) e = absurd (false≢true e)

pub begins : (body out : List ℕ) → is_none (decoded_length (decode body)) ≡ false → Going body body out out
begins body out h = record { whole = refl; allowed = λ none. false≢true (sym h ∙ ap (λ o. is_none (decoded_length o)) none) }

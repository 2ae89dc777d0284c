-- A loop that reads one item after another.
use Rattle.std.proofs.Common.{◌≡◌, ℕ, zero, suc, ◌<◌, ◌≤◌, Bool, true, false, cond, List, [], ◌∷◌, ◌++◌, length, Ok, Err, sym, refl, ap, ◌∙◌, subst, append_assoc, arith}
use Rattle.token.specs.Tokens.{Tok}
use Rattle.expr.specs.declared.Refusal.{Refusal}
use Rattle.expr.specs.Reading.{Read, ok, form, deep, and_then, Refuses}
use Rattle.expr.proofs.Turns.{refused_too}
use Rattle.term.specs.Tables.{Tables, Kept}
use Rattle.term.specs.Reading.{Adds}
use Rattle.term.proofs.Puts.{kept_on}
use Rattle.rule.specs.Form.{several}
use Rattle.rule.specs.Emission.{emit_all}
use Rattle.rule.specs.Keeping.{emit_kept}
use Rattle.rule.specs.Reading.{AddsItem}

-- items before what is read
abbrev pub joined : {X : Type 0} → List X → Read (List X) → Read (List X)
joined sofar r = and_then r (λ xs ts. ok (sofar ++ xs) ts)

joined_none : {X : Type 0} (r : Read (List X)) → r ≡ joined [] r
joined_none (ok xs ts) = refl
joined_none (form p) = refl
joined_none (deep p) = refl

joined_more : {X : Type 0} (sofar : List X) (x : X) (r : Read (List X)) → joined sofar (and_then r (λ xs ts. ok (x ∷ xs) ts)) ≡ joined (sofar ++ x ∷ []) r
joined_more sofar x (ok xs ts) = ap (λ l. ok l ts) (sym (append_assoc sofar (x ∷ []) xs))
joined_more sofar x (form p) = refl
joined_more sofar x (deep p) = refl

-- one more item
pub emit_more : {X : Type 0} (emit : Tables → X → Tables) (T : Tables) (xs : List X) (x : X) → emit_all emit T (xs ++ x ∷ []) ≡ emit (emit_all emit T xs) x
emit_more emit T [] x = refl
emit_more emit T (y ∷ xs) x = emit_more emit (emit T y) xs x

module _ {X : Type 0} (item : List Tok → Read (X × Bool)) where
  several_last : (n : ℕ) (ts us : List Tok) (x : X) → item ts ≡ ok (x, true) us → several item n ts ≡ ok (x ∷ []) us
  several_last zero ts us x e = ap (λ r. and_then r (λ x us. ok (x.0 ∷ []) us)) e
  several_last (suc n) ts us x e = ap (λ r. and_then r (λ x us. cond x.1 (ok (x.0 ∷ []) us) (and_then (several item n us) (λ xs vs. ok (x.0 ∷ xs) vs)))) e

  several_more : (n : ℕ) (ts us : List Tok) (x : X) → item ts ≡ ok (x, false) us → length us < n → (m : ℕ) × (length us ≤ m) × (several item n ts ≡ and_then (several item m us) (λ xs vs. ok (x ∷ xs) vs))
  several_more zero ts us x e h = absurd (omega arith)
  several_more (suc n) ts us x e h = (n, omega arith, ap (λ r. and_then r (λ x us. cond x.1 (ok (x.0 ∷ []) us) (and_then (several item n us) (λ xs vs. ok (x.0 ∷ xs) vs)))) e)

  several_refused : (n : ℕ) (ts : List Tok) (e : Refusal) → Refuses e (item ts) → Refuses e (several item n ts)
  several_refused zero ts e h = refused_too e (item ts) _ h
  several_refused (suc n) ts e h = refused_too e (item ts) _ h

-- items read so far and added to the tables `entry`, and enough turns left to read the whole from the tokens after them
pub record Going {X : Type 0} (item : List Tok → Read (X × Bool)) (emit : Tables → X → Tables) (toks rest : List Tok) (entry now : Tables) : Type 0 where
  pub sofar : List X
  pub turns : ℕ
  pub enough : length rest ≤ turns
  pub whole : several item (length toks) toks ≡ joined sofar (several item turns rest)
  pub grown : now ≡ emit_all emit entry sofar

module _ {X : Type 0} (item : List Tok → Read (X × Bool)) (emit : Tables → X → Tables) (toks : List Tok) (T : Tables) where
  pub begins : Going item emit toks toks T T
  begins = record { sofar = []; turns = length toks; enough = omega arith; whole = joined_none (several item (length toks) toks); grown = refl }

  module _ (rest : List Tok) (U : Tables) (going : Going item emit toks rest T U) where
    pub ends : (left : List Tok) (V : Tables) → AddsItem (Ok true) (item rest) left emit U V → Adds (Ok tt) (several item (length toks) toks) left (emit_all emit) T V
    ends left V told = (
      going.sofar ++ told.0 ∷ [],
      going.whole ∙ ap (joined going.sofar) (several_last item going.turns rest left told.0 told.1),
      told.2 ∙ ap (λ u. emit u told.0) going.grown ∙ sym (emit_more emit T going.sofar told.0),
    )

    pub refused : ((T : Tables) (x : X) → Kept T (emit T x)) → (e : Refusal) (left : List Tok) (V : Tables) → AddsItem (Err e) (item rest) left emit U V → Adds (Err e) (several item (length toks) toks) left (emit_all emit) T V
    refused kept e left V told = (
      subst (Refuses e) (sym going.whole) (refused_too e (several item going.turns rest) _ (several_refused item going.turns rest e told.0)),
      kept_on T U V (subst (Kept T) (sym going.grown) (emit_kept emit kept T going.sofar)) told.1,
    )

    pub goes_on : (left : List Tok) (V : Tables) → AddsItem (Ok false) (item rest) left emit U V → length left < length rest → Going item emit toks left T V
    goes_on left V told short =
        let step = several_more item going.turns rest left told.0 told.1 (omega (arith, going.enough)) in
        record {
          sofar = going.sofar ++ told.0 ∷ [];
          turns = step.0;
          enough = step.1;
          whole = going.whole ∙ ap (joined going.sofar) step.2 ∙ joined_more going.sofar told.0 (several item step.0 left);
          grown = told.2 ∙ ap (λ u. emit u told.0) going.grown ∙ sym (emit_more emit T going.sofar told.0);
        }

-- The value of digits, from a place on.
use Rattle.std.proofs.Common.{◌≡◌, ℕ, ◌+◌, ◌-◌, ◌*◌, ◌^◌, ◌<◌, ◌≤◌, true, ◌&&◌, leb, List, [], ◌∷◌, length, get_or, drop, Some, None, sym, refl, ap, ◌∙◌, arith, lit<}
use Rattle.std.proofs.lemmas.List.{at_drop_more, at_drop_all}
use Rattle.std.proofs.lemmas.Bool.Decides.{nat_tests}
use Rattle.script.specs.Numbers.{digits, decimal, number_of, appended}

-- more digits never make a value less
decimal_grows : (v : ℕ) (bs : List ℕ) → v ≤ decimal v bs
unfolding decimal
decimal_grows v [] = omega arith
decimal_grows v (b ∷ bs) = omega (arith, decimal_grows (v * 10 + (b - 48)) bs)

-- what is still to be read: all digits so far, with this value
pub record Going (w : List ℕ) (i v : ℕ) : Type 0 where
  pub some : 0 < length w
  pub fits : v < 2 ^ 64
  pub value : decimal v (drop i w) ≡ decimal 0 w
  pub all : digits (drop i w) ≡ digits w

pub begins : (w : List ℕ) → 0 < length w → Going w 0 0
begins w h = record { some = h; fits = lit< tt; value = refl; all = refl }

module _ (w : List ℕ) (i v d : ℕ) (h : i < length w) (going : Going w i v) where
  abbrev b : ℕ
  b = get_or w i d

  abbrev next : ℕ
  next = v * 10 + (b - 48)

  value_on : decimal next (drop (i + 1) w) ≡ decimal 0 w
  unfolding decimal
  value_on = sym (at_drop_more (decimal v) w i d h) ∙ going.value

  all_on : (leb 48 b && leb b 57 && digits (drop (i + 1) w)) ≡ digits w
  unfolding digits
  all_on = sym (at_drop_more digits w i d h) ∙ going.all

  pub goes_on : (v' : ℕ) → Some v' ≡ appended v b → Going w (i + 1) v'
  unfolding appended
  goes_on v' e =
      let is : v' ≡ next = grind (arith, nat_tests) in
      let digit : (leb 48 b && leb b 57) ≡ true = grind (arith, nat_tests) in
      record {
        some = going.some;
        fits = grind (arith, nat_tests);
        value = ap (λ z. decimal z (drop (i + 1) w)) is ∙ value_on;
        all = sym (ap (λ t. t && digits (drop (i + 1) w)) digit) ∙ all_on;
      }

  pub refused : None ≡ appended v b → number_of w ≡ None
  unfolding appended number_of
  refused e =
      let a = all_on in
      let g : next ≤ decimal 0 w = omega (arith, decimal_grows next (drop (i + 1) w), value_on) in
      grind (arith, nat_tests)

pub ends : (w : List ℕ) (i v : ℕ) → length w ≤ i → Going w i v → number_of w ≡ Some v
unfolding decimal digits number_of
ends w i v h going =
    let is : v ≡ decimal 0 w = sym (at_drop_all (decimal v) w i h) ∙ going.value in
    let all : true ≡ digits w = sym (at_drop_all digits w i h) ∙ going.all in
    let some = going.some in
    let f = going.fits in
    grind (arith, nat_tests)

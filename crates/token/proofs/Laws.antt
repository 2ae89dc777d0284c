-- What one more byte does to an open token.
use Rattle.std.proofs.Common.{◌≡◌, ℕ, zero, suc, ◌+◌, ◌^◌, ◌<◌, ◌≤◌, Bool, true, false, cond, ◌&&◌, eqb, ltb, leb, List, [], ◌∷◌, ◌++◌, length, take, drop, Some, None, codes, Option, sym, refl, ap, ◌∙◌, append_assoc, append-nil, arith, length-drop}
use Rattle.std.specs.Str.{bytes_eq}
use Rattle.std.proofs.lemmas.Bool.Decides.{nat_tests}
use Rattle.strings.specs.Decoding.{decode, decoded_length, or_empty, bytes_of}
use Rattle.token.specs.Classes.{byte_class, class_of}
use Rattle.token.specs.declared.Class.{Class}
use Rattle.token.specs.declared.Class.TheVariants as class
use Rattle.operators.specs.declared.Op.{Op}
use Rattle.operators.specs.declared.Op.TheVariants as op
use Rattle.token.specs.Tokens.{refused, cons, text, number, eoi, guard, name, Sized, few_bytes, front, back, word_of, value, allowed_body, Rest, text_end, run, mark, operator, name_byte, number_byte, text_byte, width_of, start, lex, lexed}

-- << and < differ in no test that treats all operators alike
pub same_class : {X : Type 0} (t : Class → X) → t (class.Operator op.Shift) ≡ t (class.Operator op.Less) → (b : ℕ) (bs : List ℕ) → t (class_of (b ∷ bs)) ≡ t (byte_class b)
same_class t e b [] = refl
same_class t e b (c ∷ bs) = go (eqb b 0x3C && eqb c 0x3C) refl
  where
    go : (x : Bool) → (eqb b 0x3C && eqb c 0x3C) ≡ x → t (cond x (class.Operator op.Shift) (byte_class b)) ≡ t (byte_class b)
    go false h = refl
    go true h =
        let is : b ≡ 0x3C = grind (arith, nat_tests) in
        e ∙ sym (ap (λ n. t (byte_class n)) is)

-- ---- runs, of the bytes whose class passes
abbrev by_class : (Class → Bool) → ℕ → Bool
by_class t b = t (byte_class b)

module _ (t : Class → Bool) (alike : t (class.Operator op.Shift) ≡ t (class.Operator op.Less)) (none : t class.End ≡ false) (end : List ℕ → Rest) (w : List ℕ) (at : ℕ) where
  pub run_grows : (bs : List ℕ) → t (class_of bs) ≡ true → run end (by_class t) w at bs ≡ run end (by_class t) (w ++ take 1 bs) (at + 1) (drop 1 bs)
  run_grows [] h = absurd (grind (arith, sym none ∙ h))
  run_grows (b ∷ bs) h =
      let passes : t (byte_class b) ≡ true = sym (same_class t alike b bs) ∙ h in
      let more : front (by_class t) (b ∷ bs) ≡ b ∷ front (by_class t) bs = rw (passes, front) refl in
      let left : back (by_class t) (b ∷ bs) ≡ back (by_class t) bs = rw (passes, back) refl in
      let place : at + length (b ∷ front (by_class t) bs) ≡ at + 1 + length (front (by_class t) bs) = omega arith in
      rw (more, left, place, append_assoc w (b ∷ []) (front (by_class t) bs)) refl

  pub run_stops : (bs : List ℕ) → t (class_of bs) ≡ false → run end (by_class t) w at bs ≡ end w at bs
  run_stops [] h = rw (append-nil w) (ap (λ n. end w n []) (omega arith))
  run_stops (b ∷ bs) h =
      let fails : t (byte_class b) ≡ false = sym (same_class t alike b bs) ∙ h in
      let no_more : front (by_class t) (b ∷ bs) ≡ [] = rw (fails, front) refl in
      let all_left : back (by_class t) (b ∷ bs) ≡ b ∷ bs = rw (fails, back) refl in
      rw (no_more, all_left, append-nil w) (ap (λ n. end w n (b ∷ bs)) (omega arith))

pub width_some : (o : Op) → 1 ≤ width_of o
width_some op.Equal = omega arith
width_some op.Less = omega arith
width_some op.Plus = omega arith
width_some op.Minus = omega arith
width_some op.Times = omega arith
width_some op.Divide = omega arith
width_some op.Remainder = omega arith
width_some op.Shift = omega arith

-- ---- the budget does not matter where it suffices
back_length : (p : ℕ → Bool) (bs : List ℕ) → length (back p bs) ≤ length bs
back_length p [] = omega arith
back_length p (b ∷ bs) = go (p b) (back_length p bs)
  where
    go : (x : Bool) → length (back p bs) ≤ length bs → length (cond x (back p bs) (b ∷ bs)) ≤ length (b ∷ bs)
    go true h = omega arith
    go false h = omega arith

module _ (f g : Rest) (n : ℕ) (same : (at : ℕ) (bs : List ℕ) → length bs < n → f at bs ≡ g at bs) where
  text_same : (from : ℕ) (w : List ℕ) (at : ℕ) (bs : List ℕ) → length bs < n → text_end f from w at bs ≡ text_end g from w at bs
  text_same from w at [] h = refl
  text_same from w at (q ∷ bs) h = ap (λ r. cond (allowed_body w) (cons (from, text (bytes_of w)) r) (refused from)) (same (at + 1) bs (omega arith))

  start_same : (at : ℕ) (c : Class) (bs : List ℕ) → length bs ≡ n → 0 < n → start f at c bs ≡ start g at c bs
  start_same at class.End bs is some = refl
  start_same at class.Space bs is some = same (at + 1) (drop 1 bs) (simp length-drop (omega arith))
  start_same at class.Letter bs is some =
      let short = back_length name_byte (drop 1 bs) in
      let long = length-drop 1 bs in
      ap (λ r. cond (leb (length (take 1 bs ++ front name_byte (drop 1 bs))) 24) (cons (at, word_of (take 1 bs ++ front name_byte (drop 1 bs))) r) (refused at)) (same _ (back name_byte (drop 1 bs)) (omega arith))
  start_same at (class.Digit d) bs is some =
      let short = back_length number_byte (drop 1 bs) in
      let long = length-drop 1 bs in
      ap (λ r. cond (ltb (value d (front number_byte (drop 1 bs))) (2 ^ 64)) (cons (at, number (value d (front number_byte (drop 1 bs)))) r) (refused at)) (same _ (back number_byte (drop 1 bs)) (omega arith))
  start_same at class.Low bs is some = refl
  start_same at class.Quote bs is some =
      let short = back_length text_byte (drop 1 bs) in
      let long = length-drop 1 bs in
      text_same at (front text_byte (drop 1 bs)) (at + 1 + length (front text_byte (drop 1 bs))) (back text_byte (drop 1 bs)) (omega arith)
  start_same at (class.Mark m) bs is some = ap (cons (at, mark m)) (same (at + 1) (drop 1 bs) (simp length-drop (omega arith)))
  start_same at (class.Operator o) bs is some =
      let wide = width_some o in
      ap (cons (at, operator o)) (same (at + width_of o) (drop (width_of o) bs) (simp length-drop (omega arith)))
  start_same at class.Other bs is some = refl

lex_same : (f g at : ℕ) (bs : List ℕ) → length bs ≤ f → length bs ≤ g → lex f at bs ≡ lex g at bs
lex_same zero zero at bs h k = refl
lex_same zero (suc g) at [] h k = refl
lex_same zero (suc g) at (b ∷ bs) h k = absurd (omega arith)
lex_same (suc f) zero at [] h k = refl
lex_same (suc f) zero at (b ∷ bs) h k = absurd (omega arith)
lex_same (suc f) (suc g) at [] h k = refl
lex_same (suc f) (suc g) at (b ∷ bs) h k = start_same (lex f) (lex g) (length (b ∷ bs)) (λ at' bs' short. lex_same f g at' bs' (omega arith) (omega arith)) at (class_of (b ∷ bs)) (b ∷ bs) refl (omega arith)

-- what stands at the front decides
pub unfolds : (at : ℕ) (bs : List ℕ) → lexed at bs ≡ start lexed at (class_of bs) bs
unfolding lexed
unfolds at [] = refl
unfolds at (b ∷ bs) = start_same (lex (length bs)) (λ at' bs'. lex (length bs') at' bs') (length (b ∷ bs)) (λ at' bs' short. lex_same (length bs) (length bs') at' bs' (omega arith) (omega arith)) at (class_of (b ∷ bs)) (b ∷ bs) refl (omega arith)

pub word_short : (w : List ℕ) → length w ≤ 24 → Sized (word_of w)
word_short w h = go (bytes_eq w (codes "EOI")) (bytes_eq w (codes "guard"))
  where
    go : (a b : Bool) → Sized (cond a eoi (cond b guard (name w)))
    go true b = tt
    go false true = tt
    go false false = h

pub allowed_sized : (w : List ℕ) → allowed_body w ≡ true → Sized (text (bytes_of w))
unfolding bytes_of
allowed_sized w h = go (decode w) h
  where
    go : (o : Option (List ℕ)) → few_bytes (decoded_length o) ≡ true → (1 ≤ length (or_empty o)) × (length (or_empty o) ≤ 16)
    go (Some vs) e = (grind (arith, nat_tests, e), grind (arith, nat_tests, e))
    go None e = absurd (grind (arith, e))

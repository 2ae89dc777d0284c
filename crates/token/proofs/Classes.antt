-- The classes of bytes, and the values of digits.
use Rattle.std.proofs.Common.{◌≡◌, ℕ, ◌+◌, ◌-◌, ◌*◌, ◌≤◌, Bool, true, false, cond, ◌&&◌, eqb, leb, List, [], ◌∷◌, length, sym, refl, ap, ◌∙◌, arith}
use Rattle.std.proofs.lemmas.Bool.Decides.{nat_tests}
use Rattle.token.specs.Classes.{separator, letter, digit, mark_class, byte_class, class_of}
use Rattle.token.specs.declared.Class.{Class}
use Rattle.token.specs.declared.Class.TheVariants as class
use Rattle.token.specs.declared.Mark.{Mark}
use Rattle.token.specs.declared.Mark.TheVariants as mark_of
use Rattle.operators.specs.declared.Op.{Op}
use Rattle.operators.specs.declared.Op.TheVariants as op
use Rattle.token.specs.Tokens.{digit_in, value, width_of}
use Rattle.token.proofs.Laws.{same_class}

abbrev pub begun : Class → Bool
begun class.End = false
begun _ = true

pub begun_some : (bs : List ℕ) → begun (class_of bs) ≡ true → 1 ≤ length bs
begun_some [] h = absurd (grind (arith, h))
begun_some (b ∷ bs) h = omega arith

-- ---- << is no class of one byte
abbrev shift : Class → Bool
shift (class.Operator o) = leb 2 (width_of o)
shift _ = false

keeps : (t : Class → Bool) (y x : Bool) (a b : Class) → t a ≡ y → t b ≡ y → t (cond x a b) ≡ y
keeps t y true a b p q = p
keeps t y false a b p q = q

-- what holds of all the classes that one mark has
module _ (t : Class → Bool) (y : Bool) (marks : (m : Mark) → t (class.Mark m) ≡ y) (operators : (o : Op) → width_of o ≡ 1 → t (class.Operator o) ≡ y) (other : t class.Other ≡ y) where
  mark_all : (b : ℕ) → t (mark_class b) ≡ y
  mark_all b = keeps t y (eqb b 0x3A) _ _ (marks mark_of.Colon) (keeps t y (eqb b 0x5B) _ _ (marks mark_of.OpenSquare) (keeps t y (eqb b 0x5D) _ _ (marks mark_of.CloseSquare) (keeps t y (eqb b 0x28) _ _ (marks mark_of.Open) (keeps t y (eqb b 0x29) _ _ (marks mark_of.Close) (keeps t y (eqb b 0x7B) _ _ (marks mark_of.OpenCurly) (keeps t y (eqb b 0x7D) _ _ (marks mark_of.CloseCurly) (keeps t y (eqb b 0x2C) _ _ (marks mark_of.Comma) (keeps t y (eqb b 0x3B) _ _ (marks mark_of.Semicolon) (keeps t y (eqb b 0x2E) _ _ (marks mark_of.Dot) (keeps t y (eqb b 0x3D) _ _ (operators op.Equal refl) (keeps t y (eqb b 0x3C) _ _ (operators op.Less refl) (keeps t y (eqb b 0x2B) _ _ (operators op.Plus refl) (keeps t y (eqb b 0x2D) _ _ (operators op.Minus refl) (keeps t y (eqb b 0x2A) _ _ (operators op.Times refl) (keeps t y (eqb b 0x2F) _ _ (operators op.Divide refl) (keeps t y (eqb b 0x25) _ _ (operators op.Remainder refl) (other)))))))))))))))))

  -- and of those that one byte has
  module _ (space : t class.Space ≡ y) (letters : t class.Letter ≡ y) (digits : (d : ℕ) → t (class.Digit d) ≡ y) (low : t class.Low ≡ y) (quote : t class.Quote ≡ y) where
    byte_all : (b : ℕ) → t (byte_class b) ≡ y
    byte_all b = keeps t y (separator b) _ _ space (keeps t y (letter b) _ _ letters (keeps t y (digit b) _ _ (digits (b - 0x30)) (keeps t y (eqb b 0x5F) _ _ low (keeps t y (eqb b 0x22) _ _ quote (mark_all b)))))

no_shift : (b : ℕ) → shift (byte_class b) ≡ false
no_shift = byte_all shift false (λ _. refl) (λ o one. ap (leb 2) one) refl refl refl (λ _. refl) refl refl

width_few : (o : Op) → width_of o ≤ 2
width_few op.Equal = omega arith
width_few op.Less = omega arith
width_few op.Plus = omega arith
width_few op.Minus = omega arith
width_few op.Times = omega arith
width_few op.Divide = omega arith
width_few op.Remainder = omega arith
width_few op.Shift = omega arith

pub wide_enough : (bs : List ℕ) (o : Op) → class_of bs ≡ class.Operator o → width_of o ≤ length bs
wide_enough [] o e = absurd (grind (arith, ap begun e))
wide_enough (b ∷ []) o e = let h = sym (ap shift e) ∙ no_shift b in grind (arith, nat_tests, h)
wide_enough (b ∷ c ∷ bs) o e = let two = width_few o in omega arith

pub value_grows : (v : ℕ) (bs : List ℕ) → v ≤ value v bs
value_grows v [] = omega arith
value_grows v (b ∷ bs) = omega (arith, value_grows (v * 10 + digit_in (byte_class b)) bs)

pub not_end : (b : ℕ) (bs : List ℕ) → class_of (b ∷ bs) ≡ class.End → ⊥
not_end b bs h = let some = same_class begun refl b bs ∙ byte_all begun true (λ _. refl) (λ _ _. refl) refl refl refl (λ _. refl) refl refl b in grind (arith, some, ap begun h)

-- ---- classes
abbrev operates : Class → Bool
operates (class.Operator o) = true
operates _ = false

-- << apart, the first byte tells the class
pub one_byte : (b : ℕ) (bs : List ℕ) (c : Class) → class_of (b ∷ bs) ≡ c → operates c ≡ false → byte_class b ≡ c
one_byte b [] c e plain = e
one_byte b (d ∷ bs) c e plain = go (eqb b 0x3C && eqb d 0x3C) e
  where
    go : (x : Bool) → cond x (class.Operator op.Shift) (byte_class b) ≡ c → byte_class b ≡ c
    go true h = absurd (grind (arith, ap operates h ∙ plain))
    go false h = h

abbrev is_space : Class → Bool
is_space class.Space = true
is_space _ = false

no_mark : (b : ℕ) → is_space (mark_class b) ≡ false
no_mark = mark_all is_space false (λ _. refl) (λ _ _. refl) refl

-- no byte but a separator has the class of separators
no_space : (b : ℕ) → separator b ≡ false → byte_class b ≡ class.Space → ⊥
no_space b h e =
    let rest : is_space (byte_class b) ≡ false = ap (λ x. is_space (cond x class.Space (cond (letter b) class.Letter (cond (digit b) (class.Digit (b - 0x30)) (cond (eqb b 0x5F) class.Low (cond (eqb b 0x22) class.Quote (mark_class b))))))) h ∙ keeps is_space false (letter b) _ _ refl (keeps is_space false (digit b) _ _ refl (keeps is_space false (eqb b 0x5F) _ _ refl (keeps is_space false (eqb b 0x22) _ _ refl (no_mark b)))) in
    grind (arith, sym rest ∙ ap is_space e)

-- only separators have the class of separators
pub spaces : (b : ℕ) → byte_class b ≡ class.Space → separator b ≡ true
spaces b e = go (separator b) refl
  where
    go : (x : Bool) → separator b ≡ x → separator b ≡ true
    go true h = h
    go false h = absurd (no_space b h e)

-- The tokens stand where the definition puts them.
use Rattle.std.proofs.Common.{◌≡◌, ℕ, zero, suc, ◌+◌, ◌^◌, ◌<◌, ◌≤◌, Bool, true, false, cond, not, ◌&&◌, ltb, leb, List, [], ◌∷◌, ◌++◌, length, take, drop, sym, refl, ap, ◌∙◌, subst, append_assoc, arith, length-append, length-drop, take-append-drop, length-take}
use Rattle.std.proofs.lemmas.Bool.Decides.{nat_tests}
use Rattle.strings.specs.Decoding.{bytes_of}
use Rattle.token.specs.declared.Class.{Class}
use Rattle.token.specs.declared.Class.TheVariants as class
use Rattle.operators.specs.declared.Op.{Op}
use Rattle.token.specs.Classes.{separator, byte_class, class_of}
use Rattle.token.specs.Tokens.{Lexeme, Lexed, done, refused, cons, text, number, operator, mark, front, back, name_byte, number_byte, text_byte, word_of, value, allowed_body, width_of, text_end, start, lexed}
use Rattle.token.proofs.Laws.{unfolds, width_some}
use Rattle.token.proofs.Classes.{begun, one_byte, spaces, not_end, wide_enough}
use Rattle.token.specs.Laid.{all, stops, Stands, a_word, a_number, a_string, a_mark, an_operator, Laid}

-- ---- runs
module _ (p : ℕ → Bool) where
  front_back : (bs : List ℕ) → front p bs ++ back p bs ≡ bs
  front_back [] = refl
  front_back (b ∷ bs) = go (p b) (front_back bs)
    where
      go : (x : Bool) → front p bs ++ back p bs ≡ bs → cond x (b ∷ front p bs) [] ++ cond x (back p bs) (b ∷ bs) ≡ b ∷ bs
      go true r = ap (λ l. b ∷ l) r
      go false r = refl

  back_stops : (bs : List ℕ) → stops p (back p bs) ≡ true
  back_stops [] = refl
  back_stops (b ∷ bs) = go (p b) refl (back_stops bs)
    where
      go : (x : Bool) → p b ≡ x → stops p (back p bs) ≡ true → stops p (cond x (back p bs) (b ∷ bs)) ≡ true
      go true h r = r
      go false h r = ap not h

  front_all : (bs : List ℕ) → all p (front p bs) ≡ true
  front_all [] = refl
  front_all (b ∷ bs) = go (p b) refl (front_all bs)
    where
      go : (x : Bool) → p b ≡ x → all p (front p bs) ≡ true → all p (cond x (b ∷ front p bs) []) ≡ true
      go true h r = ap (λ x. x && all p (front p bs)) h ∙ r
      go false h r = refl

  back_few : (bs : List ℕ) → length (front p bs) + length (back p bs) ≡ length bs
  back_few bs = sym (length-append (front p bs) (back p bs)) ∙ ap length (front_back bs)

-- ---- one more separator before
gap_more : (at b : ℕ) (bs : List ℕ) (l : Lexed) → separator b ≡ true → Laid (at + 1) bs l → Laid at (b ∷ bs) l
gap_more at b bs done s h = ap (λ x. x && all separator bs) s ∙ h
gap_more at b bs (refused p) s (gap, rest, is, h, e) =
    let further : at + 1 + length gap ≡ at + length (b ∷ gap) = omega arith in
    (b ∷ gap, rest, ap (λ k. b ∷ k) is, ap (λ x. x && all separator gap) s ∙ h, e ∙ further)
gap_more at b bs (cons t l) s (gap, piece, rest, is, h, e, st, d) =
    let further : at + 1 + length gap ≡ at + length (b ∷ gap) = omega arith in
    (b ∷ gap, piece, rest, ap (λ k. b ∷ k) is, ap (λ x. x && all separator gap) s ∙ h, e ∙ further, st, d)

nowhere : (at : ℕ) (bs : List ℕ) → Laid at bs (refused at)
nowhere at bs = ([], bs, refl, refl, omega arith)

-- a token right here
here : (at to : ℕ) (bs piece rest : List ℕ) (t : Lexeme) (l : Lexed) → bs ≡ piece ++ rest → Stands piece rest t → to ≡ at + length piece → Laid to rest l → Laid at bs (cons (at, t) l)
here at to bs piece rest t l is st e d = ([], piece, rest, is, refl, omega arith, st, subst (λ k. Laid k rest l) e d)

turned : (x : Bool) → not x ≡ true → x ≡ false
turned true q = absurd (grind (arith, q))
turned false q = refl

-- ---- the whole text
module _ (n : ℕ) (more : (at : ℕ) (bs : List ℕ) → length bs ≤ n → Laid at bs (lexed at bs)) where
  word_laid : (at b : ℕ) (bs : List ℕ) → length bs ≤ n → byte_class b ≡ class.Letter → (x : Bool) → leb (length (b ∷ front name_byte bs)) 24 ≡ x → Laid at (b ∷ bs) (cond x (cons (at, word_of (b ∷ front name_byte bs)) (lexed (at + 1 + length (front name_byte bs)) (back name_byte bs))) (refused at))
  word_laid at b bs h is false e = nowhere at (b ∷ bs)
  word_laid at b bs h is true e =
      let few : length (b ∷ front name_byte bs) ≤ 24 = grind (arith, nat_tests) in
      let sizes = back_few name_byte bs in
      let to : at + 1 + length (front name_byte bs) ≡ at + length (b ∷ front name_byte bs) = omega arith in
      here at _ (b ∷ bs) (b ∷ front name_byte bs) (back name_byte bs) (word_of (b ∷ front name_byte bs)) (lexed (at + 1 + length (front name_byte bs)) (back name_byte bs)) (ap (λ l. b ∷ l) (sym (front_back name_byte bs))) (a_word b (front name_byte bs) (back name_byte bs) is (front_all name_byte bs) (back_stops name_byte bs) few) to (more (at + 1 + length (front name_byte bs)) (back name_byte bs) (omega arith))

  number_laid : (at b d : ℕ) (bs : List ℕ) → length bs ≤ n → byte_class b ≡ class.Digit d → (x : Bool) → ltb (value d (front number_byte bs)) (2 ^ 64) ≡ x → Laid at (b ∷ bs) (cond x (cons (at, number (value d (front number_byte bs))) (lexed (at + 1 + length (front number_byte bs)) (back number_byte bs))) (refused at))
  number_laid at b d bs h is false e = nowhere at (b ∷ bs)
  number_laid at b d bs h is true e =
      let few : value d (front number_byte bs) < 2 ^ 64 = grind (arith, nat_tests) in
      let sizes = back_few number_byte bs in
      let to : at + 1 + length (front number_byte bs) ≡ at + length (b ∷ front number_byte bs) = omega arith in
      here at _ (b ∷ bs) (b ∷ front number_byte bs) (back number_byte bs) (number (value d (front number_byte bs))) (lexed (at + 1 + length (front number_byte bs)) (back number_byte bs)) (ap (λ l. b ∷ l) (sym (front_back number_byte bs))) (a_number b d (front number_byte bs) (back number_byte bs) is (front_all number_byte bs) (back_stops number_byte bs) few) to (more (at + 1 + length (front number_byte bs)) (back number_byte bs) (omega arith))

  string_closed : (at b : ℕ) (bs : List ℕ) → length bs ≤ n → byte_class b ≡ class.Quote → (r : ℕ) (rest : List ℕ) → back text_byte bs ≡ r ∷ rest → (x : Bool) → allowed_body (front text_byte bs) ≡ x → Laid at (b ∷ bs) (cond x (cons (at, text (bytes_of (front text_byte bs))) (lexed (at + 1 + length (front text_byte bs) + 1) rest)) (refused at))
  string_closed at b bs h is r rest e false k = nowhere at (b ∷ bs)
  string_closed at b bs h is r rest e true k =
      let body = front text_byte bs in
      let all-of-it : bs ≡ body ++ r ∷ rest = sym (front_back text_byte bs) ∙ ap (λ l. body ++ l) e in
      let joined : b ∷ ((body ++ r ∷ []) ++ rest) ≡ b ∷ (body ++ r ∷ rest) = ap (λ l. b ∷ l) (append_assoc body (r ∷ []) rest) in
      let last : not (text_byte r) ≡ true = sym (ap (stops text_byte) e) ∙ back_stops text_byte bs in
      let sizes = back_few text_byte bs in
      let size_back = ap length e in
      let size-piece = length-append body (r ∷ []) in
      let to : at + 1 + length body + 1 ≡ at + length (b ∷ body ++ r ∷ []) = omega arith in
      here at _ (b ∷ bs) (b ∷ body ++ r ∷ []) rest (text (bytes_of body)) (lexed (at + 1 + length body + 1) rest) (ap (λ l. b ∷ l) all-of-it ∙ sym joined) (a_string b r body rest is (front_all text_byte bs) (turned (text_byte r) last) k) to (more (at + 1 + length body + 1) rest (omega arith))

  string_laid : (at b : ℕ) (bs : List ℕ) → length bs ≤ n → byte_class b ≡ class.Quote → (rest : List ℕ) → back text_byte bs ≡ rest → Laid at (b ∷ bs) (text_end lexed at (front text_byte bs) (at + 1 + length (front text_byte bs)) rest)
  string_laid at b bs h is [] e = nowhere at (b ∷ bs)
  string_laid at b bs h is (r ∷ rest) e = string_closed at b bs h is r rest e (allowed_body (front text_byte bs)) refl

  operator_laid : (at : ℕ) (o : Op) (bs : List ℕ) → length bs ≤ suc n → class_of bs ≡ class.Operator o → Laid at bs (start lexed at (class.Operator o) bs)
  operator_laid at o bs h is =
      let parts = take-append-drop (width_of o) bs in
      let wide = wide_enough bs o is in
      let some = width_some o in
      let size : length (take (width_of o) bs) ≡ width_of o = simp length-take (omega arith) in
      let left = length-drop (width_of o) bs in
      let to : at + width_of o ≡ at + length (take (width_of o) bs) = omega arith in
      here at _ bs (take (width_of o) bs) (drop (width_of o) bs) (operator o) (lexed (at + width_of o) (drop (width_of o) bs)) (sym parts) (an_operator (take (width_of o) bs) (drop (width_of o) bs) o (ap class_of parts ∙ is) size) to (more (at + width_of o) (drop (width_of o) bs) (omega arith))

  by_class : (at : ℕ) (c : Class) (bs : List ℕ) → length bs ≤ suc n → class_of bs ≡ c → Laid at bs (start lexed at c bs)
  by_class at class.End [] h e = refl
  by_class at class.End (b ∷ bs) h e = absurd (not_end b bs e)
  by_class at class.Space [] h e = absurd (grind (arith, ap begun e))
  by_class at class.Space (b ∷ bs) h e = gap_more at b bs (lexed (at + 1) bs) (spaces b (one_byte b bs class.Space e refl)) (more (at + 1) bs (omega arith))
  by_class at class.Letter [] h e = absurd (grind (arith, ap begun e))
  by_class at class.Letter (b ∷ bs) h e = word_laid at b bs (omega arith) (one_byte b bs class.Letter e refl) (leb (length (b ∷ front name_byte bs)) 24) refl
  by_class at (class.Digit d) [] h e = absurd (grind (arith, ap begun e))
  by_class at (class.Digit d) (b ∷ bs) h e = number_laid at b d bs (omega arith) (one_byte b bs (class.Digit d) e refl) (ltb (value d (front number_byte bs)) (2 ^ 64)) refl
  by_class at class.Low bs h e = nowhere at bs
  by_class at class.Quote [] h e = absurd (grind (arith, ap begun e))
  by_class at class.Quote (b ∷ bs) h e = string_laid at b bs (omega arith) (one_byte b bs class.Quote e refl) (back text_byte bs) refl
  by_class at (class.Mark m) [] h e = absurd (grind (arith, ap begun e))
  by_class at (class.Mark m) (b ∷ bs) h e = here at (at + 1) (b ∷ bs) (b ∷ []) bs (mark m) (lexed (at + 1) bs) refl (a_mark b m bs (one_byte b bs (class.Mark m) e refl)) refl (more (at + 1) bs (omega arith))
  by_class at (class.Operator o) bs h e = operator_laid at o bs h e
  by_class at class.Other bs h e = nowhere at bs

pub laid : (n at : ℕ) (bs : List ℕ) → length bs ≤ n → Laid at bs (lexed at bs)
laid zero at [] h = subst (Laid at []) (sym (unfolds at [])) refl
laid zero at (b ∷ bs) h = absurd (omega arith)
laid (suc n) at bs h = subst (Laid at bs) (sym (unfolds at bs)) (by_class n (laid n) at (class_of bs) bs h refl)

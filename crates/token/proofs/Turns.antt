-- What each arm of `step` does.
use Rattle.std.proofs.Common.{◌≡◌, ℕ, ◌+◌, ◌-◌, ◌*◌, ◌^◌, ◌<◌, ◌≤◌, Bool, true, false, cond, ltb, leb, List, [], ◌∷◌, ◌++◌, length, take, drop, sym, refl, ap, ◌∙◌, arith, length-append, length-drop, length-take, take-add}
use Rattle.std.proofs.lemmas.List.{take_all, drop-drop}
use Rattle.std.proofs.lemmas.Bool.Decides.{nat_tests}
use Rattle.strings.specs.Decoding.{bytes_of}
use Rattle.token.specs.Classes.{class_of}
use Rattle.token.specs.declared.Class.{Class}
use Rattle.token.specs.declared.Class.TheVariants as class
use Rattle.token.specs.declared.Mark.{Mark}
use Rattle.operators.specs.declared.Op.{Op}
use Rattle.token.specs.declared.scan.State.{State}
use Rattle.token.specs.declared.scan.State.TheVariants as state
use Rattle.token.specs.Tokens.{done, refused, cons, text, number, mark, operator, in_name, in_number, in_text, name_byte, number_byte, front, word_of, digit_in, value, allowed_body, width_of, name_end, number_end, text_end, name_from, number_from, text_from, start, lexed, part, resumed}
use Rattle.token.proofs.Laws.{same_class, run_grows, run_stops, unfolds}
use Rattle.token.proofs.Classes.{begun, begun_some, wide_enough, value_grows, not_end}

-- a class that starts a token or separates
abbrev pub starts : Class → Bool
starts class.End = false
starts class.Low = false
starts class.Other = false
starts _ = true

module _ (bs : List ℕ) (at : ℕ) where
  -- what the code sees from the place `at` on
  abbrev pub seen : List ℕ
  seen = take (length bs - at) (drop at bs)

  rest_is : seen ≡ drop at bs
  rest_is = take_all (length bs - at) (drop at bs) (simp length-drop (omega arith))

  step_drop : drop 1 (drop at bs) ≡ drop (at + 1) bs
  step_drop = drop-drop 1 at bs

  pub class_at : (c : Class) → c ≡ class_of seen → class_of (drop at bs) ≡ c
  class_at c e = ap class_of (sym rest_is) ∙ sym e

  pub inside : (c : Class) → c ≡ class_of seen → begun c ≡ true → at + 1 ≤ length bs
  inside c e h = omega (arith, begun_some (drop at bs) (ap begun (class_at c e) ∙ h), length-drop at bs)

  part_more : (from : ℕ) → from ≤ at → part from at bs ++ take 1 (drop at bs) ≡ part from (at + 1) bs
  part_more from h =
      let more : at + 1 - from ≡ at - from + 1 = omega arith in
      let here : from + (at - from) ≡ at = omega arith in
      sym (ap (λ n. take n (drop from bs)) more ∙ take-add (at - from) 1 (drop from bs) ∙ ap (λ l. take (at - from) (drop from bs) ++ take 1 l) (drop-drop (at - from) from bs ∙ ap (λ n. drop n bs) here))

  -- ---- between tokens
  between : (s : State) (c : Class) → s ≡ state.Between → c ≡ class_of seen → resumed bs s at ≡ start lexed at c (drop at bs)
  between s c is e = ap (λ s. resumed bs s at) is ∙ unfolds at (drop at bs) ∙ ap (λ k. start lexed at k (drop at bs)) (class_at c e)

  pub ended : (s : State) → s ≡ state.Between → class.End ≡ class_of seen → resumed bs s at ≡ done
  ended s is e = between s class.End is e

  pub spaced : (s : State) → s ≡ state.Between → class.Space ≡ class_of seen → resumed bs s at ≡ lexed (at + 1) (drop (at + 1) bs)
  spaced s is e = between s class.Space is e ∙ ap (lexed (at + 1)) step_drop

  pub name_opens : (s : State) → s ≡ state.Between → class.Letter ≡ class_of seen → resumed bs s at ≡ name_from lexed at (part at (at + 1) bs) (at + 1) (drop (at + 1) bs)
  name_opens s is e =
      let one : 1 ≡ at + 1 - at = omega arith in
      between s class.Letter is e ∙ ap (λ n. name_from lexed at (take n (drop at bs)) (at + 1) (drop 1 (drop at bs))) one ∙ ap (name_from lexed at (part at (at + 1) bs) (at + 1)) step_drop

  pub number_opens : (s : State) (d : ℕ) → s ≡ state.Between → class.Digit d ≡ class_of seen → resumed bs s at ≡ number_from lexed at d (at + 1) (drop (at + 1) bs)
  number_opens s d is e = between s (class.Digit d) is e ∙ ap (number_from lexed at d (at + 1)) step_drop

  pub text_opens : (s : State) → s ≡ state.Between → class.Quote ≡ class_of seen → resumed bs s at ≡ text_from lexed at (part (at + 1) (at + 1) bs) (at + 1) (drop (at + 1) bs)
  text_opens s is e =
      let none : 0 ≡ at + 1 - (at + 1) = omega arith in
      between s class.Quote is e ∙ ap (λ n. text_from lexed at (take n (drop (at + 1) bs)) (at + 1) (drop 1 (drop at bs))) none ∙ ap (text_from lexed at (part (at + 1) (at + 1) bs) (at + 1)) step_drop

  pub marked : (s : State) (m : Mark) → s ≡ state.Between → class.Mark m ≡ class_of seen → resumed bs s at ≡ cons (at, mark m) (lexed (at + 1) (drop (at + 1) bs))
  marked s m is e = between s (class.Mark m) is e ∙ ap (λ l. cons (at, mark m) (lexed (at + 1) l)) step_drop

  pub operated : (s : State) (o : Op) (w : ℕ) → s ≡ state.Between → class.Operator o ≡ class_of seen → w ≡ width_of o → resumed bs s at ≡ cons (at, operator o) (lexed (at + w) (drop (at + w) bs))
  operated s o w is e wide = between s (class.Operator o) is e ∙ ap (λ l. cons (at, operator o) (lexed (at + width_of o) l)) (drop-drop (width_of o) at bs) ∙ ap (λ n. cons (at, operator o) (lexed (at + n) (drop (at + n) bs))) (sym wide)

  pub wide_inside : (o : Op) → class.Operator o ≡ class_of seen → at + width_of o ≤ length bs
  wide_inside o e = let h = wide_enough (drop at bs) o (class_at (class.Operator o) e) in let l = length-drop at bs in let i = inside (class.Operator o) e refl in omega arith

  pub no_token : (s : State) (c : Class) → s ≡ state.Between → c ≡ class_of seen → starts c ≡ false → begun c ≡ true → resumed bs s at ≡ refused at
  no_token s c is e bad some = between s c is e ∙ go c bad some
    where
      go : (c : Class) → starts c ≡ false → begun c ≡ true → start lexed at c (drop at bs) ≡ refused at
      go class.End bad some = absurd (grind (arith, some))
      go class.Space bad some = absurd (grind (arith, bad))
      go class.Letter bad some = absurd (grind (arith, bad))
      go (class.Digit d) bad some = absurd (grind (arith, bad))
      go class.Low bad some = refl
      go class.Quote bad some = absurd (grind (arith, bad))
      go (class.Mark m) bad some = absurd (grind (arith, bad))
      go (class.Operator o) bad some = absurd (grind (arith, bad))
      go class.Other bad some = refl

  -- ---- in a name
  module _ (s : State) (from : ℕ) (is : s ≡ state.InName from) (began : from < at) (within : at ≤ length bs) (c : Class) (e : c ≡ class_of seen) where
    abbrev read : List ℕ
    read = part from at bs

    read_length : length read ≡ at - from
    read_length = simp (length-take, length-drop) (omega arith)

    pub name_goes_on : in_name c ≡ true → resumed bs s at ≡ name_from lexed from (part from (at + 1) bs) (at + 1) (drop (at + 1) bs)
    name_goes_on h = ap (λ s. resumed bs s at) is ∙ run_grows in_name refl refl (name_end lexed from) read at (drop at bs) (ap in_name (class_at c e) ∙ h) ∙ ap (λ w. name_from lexed from w (at + 1) (drop 1 (drop at bs))) (part_more from (omega arith)) ∙ ap (name_from lexed from (part from (at + 1) bs) (at + 1)) step_drop

    pub name_ends : in_name c ≡ false → at - from ≤ 24 → resumed bs s at ≡ cons (from, word_of read) (lexed at (drop at bs))
    name_ends h few =
        let short : leb (length read) 24 ≡ true = rw read_length (grind (arith, nat_tests)) in
        ap (λ s. resumed bs s at) is ∙ run_stops in_name refl refl (name_end lexed from) read at (drop at bs) (ap in_name (class_at c e) ∙ h) ∙ rw short refl

    pub name_long : in_name c ≡ true → at + 1 ≤ length bs → 24 ≤ at - from → resumed bs s at ≡ refused from
    name_long h more many =
        let size : length (part from (at + 1) bs) ≡ at + 1 - from = simp (length-take, length-drop) (omega arith) in
        let whole = length-append (part from (at + 1) bs) (front name_byte (drop (at + 1) bs)) in
        let long : leb (length (part from (at + 1) bs ++ front name_byte (drop (at + 1) bs))) 24 ≡ false = grind (arith, nat_tests, size, whole) in
        name_goes_on h ∙ rw long refl

  -- ---- in a number
  module _ (s : State) (from v : ℕ) (is : s ≡ state.InNumber from v) where
    pub number_ends : (c : Class) → c ≡ class_of seen → in_number c ≡ false → v < 2 ^ 64 → resumed bs s at ≡ cons (from, number v) (lexed at (drop at bs))
    number_ends c e h fits =
        let small : ltb v (2 ^ 64) ≡ true = grind (arith, nat_tests) in
        ap (λ s. resumed bs s at) is ∙ run_stops in_number refl refl (λ ds. number_end lexed from (value v ds)) [] at (drop at bs) (ap in_number (class_at c e) ∙ h) ∙ rw small refl

    pub number_goes_on : (d : ℕ) → class.Digit d ≡ class_of seen → resumed bs s at ≡ number_from lexed from (v * 10 + d) (at + 1) (drop (at + 1) bs)
    number_goes_on d e = ap (λ s. resumed bs s at) is ∙ digit_more (drop at bs) (class_at (class.Digit d) e) ∙ ap (number_from lexed from (v * 10 + d) (at + 1)) step_drop
      where
        digit_more : (rest : List ℕ) → class_of rest ≡ class.Digit d → number_from lexed from v at rest ≡ number_from lexed from (v * 10 + d) (at + 1) (drop 1 rest)
        digit_more [] h = absurd (grind (arith, ap begun h))
        digit_more (b ∷ rest) h = run_grows in_number refl refl (λ ds. number_end lexed from (value v ds)) [] at (b ∷ rest) (ap in_number h) ∙ ap (λ k. number_from lexed from (v * 10 + k) (at + 1) rest) (sym (same_class digit_in refl b rest) ∙ ap digit_in h)

    pub number_long : (d : ℕ) → class.Digit d ≡ class_of seen → 2 ^ 64 ≤ v * 10 + d → resumed bs s at ≡ refused from
    number_long d e many =
        let grown = value_grows (v * 10 + d) (front number_byte (drop (at + 1) bs)) in
        let big : ltb (value (v * 10 + d) (front number_byte (drop (at + 1) bs))) (2 ^ 64) ≡ false = grind (arith, nat_tests, grown, many) in
        number_goes_on d e ∙ rw big refl

  -- ---- in a string
  module _ (s : State) (from : ℕ) (is : s ≡ state.InText from) where
    abbrev body : List ℕ
    body = part (from + 1) at bs

    pub text_goes_on : from < at → (c : Class) → c ≡ class_of seen → in_text c ≡ true → resumed bs s at ≡ text_from lexed from (part (from + 1) (at + 1) bs) (at + 1) (drop (at + 1) bs)
    text_goes_on began c e h = ap (λ s. resumed bs s at) is ∙ run_grows in_text refl refl (text_end lexed from) body at (drop at bs) (ap in_text (class_at c e) ∙ h) ∙ ap (λ w. text_from lexed from w (at + 1) (drop 1 (drop at bs))) (part_more (from + 1) (omega arith)) ∙ ap (text_from lexed from (part (from + 1) (at + 1) bs) (at + 1)) step_drop

    text_stops : (c : Class) → c ≡ class_of seen → in_text c ≡ false → resumed bs s at ≡ text_end lexed from body at (drop at bs)
    text_stops c e h = ap (λ s. resumed bs s at) is ∙ run_stops in_text refl refl (text_end lexed from) body at (drop at bs) (ap in_text (class_at c e) ∙ h)

    pub text_unended : class.End ≡ class_of seen → resumed bs s at ≡ refused from
    text_unended e = text_stops class.End e refl ∙ go (drop at bs) (class_at class.End e)
      where
        go : (rest : List ℕ) → class_of rest ≡ class.End → text_end lexed from body at rest ≡ refused from
        go [] h = refl
        go (b ∷ rest) h = absurd (not_end b rest h)

    text_closes : class.Quote ≡ class_of seen → (ok : Bool) → ok ≡ allowed_body body → resumed bs s at ≡ cond ok (cons (from, text (bytes_of body)) (lexed (at + 1) (drop (at + 1) bs))) (refused from)
    text_closes e ok told = text_stops class.Quote e refl ∙ go (drop at bs) (ap begun (class_at class.Quote e)) ∙ ap (λ l. cond ok (cons (from, text (bytes_of body)) (lexed (at + 1) l)) (refused from)) step_drop
      where
        go : (rest : List ℕ) → begun (class_of rest) ≡ true → text_end lexed from body at rest ≡ cond ok (cons (from, text (bytes_of body)) (lexed (at + 1) (drop 1 rest))) (refused from)
        go [] h = absurd (grind (arith, h))
        go (q ∷ rest) h = ap (λ k. cond k (cons (from, text (bytes_of body)) (lexed (at + 1) rest)) (refused from)) (sym told)

    pub text_ends : class.Quote ≡ class_of seen → true ≡ allowed_body body → resumed bs s at ≡ cons (from, text (bytes_of body)) (lexed (at + 1) (drop (at + 1) bs))
    text_ends e told = text_closes e true told

    pub text_refused : class.Quote ≡ class_of seen → false ≡ allowed_body body → resumed bs s at ≡ refused from
    text_refused e told = text_closes e false told

pub ruleset turns = (ended, spaced, name_opens, number_opens, text_opens, no_token, name_goes_on, name_ends, name_long, number_goes_on, text_goes_on, text_ends, text_refused)

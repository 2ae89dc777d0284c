-- Expressions are read as the grammar writes them.
use Rattle.std.proofs.Common.{◌≡◌, ℕ, zero, suc, ◌≤◌, Bool, true, false, cond, ◌&&◌, List, [], ◌∷◌, ◌++◌, length, Some, None, Option, sym, refl, ap, ◌∙◌, subst, append_assoc, append-nil, arith}
use Rattle.token.specs.declared.Mark.{Mark}
use Rattle.token.specs.declared.Mark.TheVariants as mark
use Rattle.operators.specs.declared.Op.{Op}
use Rattle.token.specs.Tokens.{Tok, Lexeme, is_mark, same_mark}
use Rattle.token.specs.Tokens as lexeme
use Rattle.expr.specs.declared.Level.{Level}
use Rattle.expr.specs.declared.Level.TheVariants as level
use Rattle.expr.specs.Trees.{Tree, number, eoi, name, field, bracketed, binary}
use Rattle.expr.specs.declared.Refusal.{Refusal}
use Rattle.expr.specs.declared.Refusal.TheVariants.{Form}
use Rattle.expr.proofs.Turns.{refused_too}
use Rattle.expr.specs.Reading.{Refuses, Read, ok, form, deep, and_then, Reader, level_of, same_level, operator_at, more, chain, compared, expression_of, part_with, part_at, inner, expression_at, field_at, name_at, name_or_field, mark_at}
use Rattle.form_laws.specs.Grammar.{Writing, Part, a_number, an_eoi, a_name, a_field, in_brackets, Joined, alone, joined, Compared, ExpressionOf, Nothing, PartIn, Expression}
use Rattle.form_laws.specs.Grammar as grammar
use Rattle.form_laws.specs.Law.{place_told, place_of}
use Rattle.form_laws.proofs.Right.{ok_value, ok_rest, both_ok, after_both, rest_short, Right, Stuck, both_refused, never_refused, stuck_by, stuck_end, stuck_token, stuck_deep, stuck_shift, told_form, same_front}
use Rattle.form_laws.proofs.Tokens.{mark_is}

-- ---- levels
level_is : (a b : Level) → same_level a b ≡ true → a ≡ b
level_is level.Compare level.Compare h = refl
level_is level.Compare level.Sum h = cc
level_is level.Compare level.Product h = cc
level_is level.Sum level.Compare h = cc
level_is level.Sum level.Sum h = refl
level_is level.Sum level.Product h = cc
level_is level.Product level.Compare h = cc
level_is level.Product level.Sum h = cc
level_is level.Product level.Product h = refl

level_same : (l : Level) → same_level l l ≡ true
level_same level.Compare = refl
level_same level.Sum = refl
level_same level.Product = refl

some_is : {X : Type 0} {x y : X} → Some x ≡ Some y → x ≡ y
some_is h = cc

operator_is : (l : Level) (k : Lexeme) (o : Op) → operator_at l k ≡ Some o → (k ≡ lexeme.operator o) × (level_of o ≡ l)
operator_is l (lexeme.name w) o h = cc
operator_is l (lexeme.text w) o h = cc
operator_is l (lexeme.number n) o h = cc
operator_is l (lexeme.mark m) o h = cc
operator_is l lexeme.eoi o h = cc
operator_is l lexeme.guard o h = cc
operator_is l (lexeme.operator x) o h = go (same_level (level_of x) l) refl h
  where
    go : (b : Bool) → same_level (level_of x) l ≡ b → cond b (Some x) None ≡ Some o → (lexeme.operator x ≡ lexeme.operator o) × (level_of o ≡ l)
    go true e h = (ap lexeme.operator (some_is h), ap level_of (sym (some_is h)) ∙ level_is (level_of x) l e)
    go false e h = cc

operator_found : (l : Level) (o : Op) → level_of o ≡ l → operator_at l (lexeme.operator o) ≡ Some o
operator_found l o e = ap (λ b. cond b (Some o) None) (ap (λ x. same_level x l) e ∙ level_same l)

other_level : (l m : Level) (o : Op) → level_of o ≡ m → same_level m l ≡ false → operator_at l (lexeme.operator o) ≡ None
other_level l m o e f = ap (λ b. cond b (Some o) None) (ap (λ x. same_level x l) e ∙ f)

-- ---- what may follow
-- the operator of a level at the front
abbrev pub front_operator : Level → List Tok → Option Op
front_operator l [] = None
front_operator l (t ∷ ts) = operator_at l t.1

abbrev pub front_dot : List Tok → Bool
front_dot [] = false
front_dot (t ∷ ts) = is_mark mark.Dot t.1

-- its last part is a name without a dot
abbrev pub bare : Tree → Bool
bare (number n) = false
bare eoi = false
bare (name w) = true
bare (field w a) = false
bare (bracketed e) = false
bare (binary o a b) = bare b

-- no dot follows a bare name
abbrev pub AfterPart : Writing Tree
AfterPart t rest = front_dot rest && bare t ≡ false

-- nor an operator of the level
abbrev pub AndNo : Level → Writing Tree → Writing Tree
AndNo l C t rest = C t rest × (front_operator l rest ≡ None)

-- ---- chains
module _ (end : ℕ) (item : Reader) (W C : Writing Tree) (right : Right end item W C) (l : Level) (before_operator : (t : Tree) (p : ℕ) (o : Op) (ts : List Tok) → level_of o ≡ l → C t ((p, lexeme.operator o) ∷ ts)) (last_counts : (o : Op) (a b : Tree) (rest : List Tok) → C b rest → C (binary o a b) rest) (last_told : (o : Op) (a b : Tree) (rest : List Tok) → C (binary o a b) rest → C b rest) where
  abbrev RestOf : Tree → List Tok → List Tok → List Tok → Type 0
  RestOf t before ts rest = (us : List Tok) × (ts ≡ us ++ rest) × Joined W l t (before ++ us) × AndNo l C t rest

  -- nothing more is read
  stops : (left : Tree) (before ts : List Tok) (t : Tree) (rest : List Tok) → Joined W l left before → C left ts → front_operator l ts ≡ None → ok left ts ≡ ok t rest → RestOf t before ts rest
  stops left before ts t rest w c n h = subst (λ x. RestOf x before ts rest) (ok_value h) (subst (RestOf left before ts) (ok_rest h) ([], refl, subst (Joined W l left) (sym (append-nil before)) w, (c, n)))

  more_sound : (f : ℕ) (left : Tree) (before ts : List Tok) (t : Tree) (rest : List Tok) → length ts ≤ f → Joined W l left before → C left ts → more item l f left ts ≡ ok t rest → RestOf t before ts rest
  more_sound zero left before [] t rest short w c h = stops left before [] t rest w c refl h
  more_sound zero left before (x ∷ ts) t rest short w c h = absurd (omega arith)
  more_sound (suc f) left before [] t rest short w c h = stops left before [] t rest w c refl h
  more_sound (suc f) left before (x ∷ ts) t rest short w c h = go (operator_at l x.1) refl (λ left before ts short w c h. more_sound f left before ts t rest short w c h)
    where
      go : (o : Option Op) → operator_at l x.1 ≡ o → ((left : Tree) (before ts : List Tok) → length ts ≤ f → Joined W l left before → C left ts → more item l f left ts ≡ ok t rest → RestOf t before ts rest) → RestOf t before (x ∷ ts) rest
      go None e again = stops left before (x ∷ ts) t rest w c e (rw (e, more) at h)
      go (Some o) e again =
          let parts = both_ok (item ts) (λ right after. more item l f (binary o left right) after) t rest (rw (e, more) at h) in
          let first = right.sound ts parts.0 parts.1 parts.2 in
          let is = operator_is l x.1 o e in
          let written : Joined W l (binary o left parts.0) (before ++ x ∷ first.0) = subst (λ k. Joined W l (binary o left parts.0) (before ++ (x.0, k) ∷ first.0)) (sym is.0) (joined left parts.0 o x.0 before first.0 w is.1 first.2) in
          let short' : length parts.1 ≤ f = (let h : length parts.1 ≤ length ts = rest_short ts first.0 parts.1 first.1 in omega (arith, h, short)) in
          let others = again (binary o left parts.0) (before ++ x ∷ first.0) parts.1 short' written (last_counts o left parts.0 parts.1 first.3) parts.3 in
          (x ∷ first.0 ++ others.0, ap (λ l. x ∷ l) (after_both ts first.0 parts.1 others.0 rest first.1 others.1), subst (Joined W l t) (append_assoc before (x ∷ first.0) others.0) others.2, others.3)

  chain_sound : (ts : List Tok) (t : Tree) (rest : List Tok) → chain item l ts ≡ ok t rest → (us : List Tok) × (ts ≡ us ++ rest) × Joined W l t us × AndNo l C t rest
  chain_sound ts t rest h =
      let parts = both_ok (item ts) (λ left rest. more item l (length rest) left rest) t rest h in
      let first = right.sound ts parts.0 parts.1 parts.2 in
      let others = more_sound (length parts.1) parts.0 first.0 parts.1 t rest (omega arith) (alone parts.0 first.0 first.2) first.3 parts.3 in
      (first.0 ++ others.0, after_both ts first.0 parts.1 others.0 rest first.1 others.1, others.2, others.3)

  -- an operator and an item are read in a turn
  joins : (n : ℕ) (a b : Tree) (o : Op) (p : ℕ) (us rest : List Tok) → level_of o ≡ l → W b us → C b rest → more item l (suc n) a ((p, lexeme.operator o) ∷ us ++ rest) ≡ more item l n (binary o a b) rest
  joins n a b o p us rest e w c = rw (operator_found l o e, more) (ap (λ r. and_then r (λ right after. more item l n (binary o a right) after)) (right.complete b us rest w c))

  -- the items written so far are read, and turns enough for the rest are left
  chain_so_far : (a : Tree) (us : List Tok) → Joined W l a us → (rest : List Tok) → C a rest → (n : ℕ) × (length rest ≤ n) × (chain item l (us ++ rest) ≡ more item l n a rest)
  chain_so_far a us (alone _ _ w) rest c = (length rest, omega arith, ap (λ r. and_then r (λ left rest. more item l (length rest) left rest)) (right.complete a us rest w c))
  chain_so_far _ _ (joined a b o p ts us j e w) rest c = go (chain_so_far a ts j ((p, lexeme.operator o) ∷ us ++ rest) (before_operator a p o (us ++ rest) e))
    where
      go : (n : ℕ) × (length ((p, lexeme.operator o) ∷ us ++ rest) ≤ n) × (chain item l (ts ++ ((p, lexeme.operator o) ∷ us ++ rest)) ≡ more item l n a ((p, lexeme.operator o) ∷ us ++ rest)) → (n : ℕ) × (length rest ≤ n) × (chain item l ((ts ++ (p, lexeme.operator o) ∷ us) ++ rest) ≡ more item l n (binary o a b) rest)
      go (zero, short, h) = absurd (omega arith)
      go (suc n, short, h) = (
        n,
        (let s : length rest ≤ length (us ++ rest) = rest_short (us ++ rest) us rest refl in omega (arith, s, short)),
        (let q : chain item l ((ts ++ (p, lexeme.operator o) ∷ us) ++ rest) ≡ more item l (suc n) a ((p, lexeme.operator o) ∷ us ++ rest) = ap (chain item l) (append_assoc ts ((p, lexeme.operator o) ∷ us) rest) ∙ h in q ∙ joins n a b o p us rest e w (last_told o a b rest c)),
      )

  more_stops : (n : ℕ) (a : Tree) (rest : List Tok) → front_operator l rest ≡ None → more item l n a rest ≡ ok a rest
  more_stops zero a rest h = refl
  more_stops (suc n) a [] h = refl
  more_stops (suc n) a (t ∷ ts) h = rw (h, more) refl

  -- an item is wanting after an operator
  joins_dead : (e : Refusal) (n : ℕ) (a : Tree) (o : Op) (p : ℕ) (us : List Tok) → level_of o ≡ l → length ((p, lexeme.operator o) ∷ us) ≤ n → Refuses e (item us) → Refuses e (more item l n a ((p, lexeme.operator o) ∷ us))
  joins_dead e zero a o p us is short h = absurd (omega arith)
  joins_dead e (suc n) a o p us is short h = rw (operator_found l o is, more) (refused_too e (item us) (λ right after. more item l n (binary o a right) after) h)

  joins_stuck : (e : Refusal) (a : Tree) (before : List Tok) → Joined W l a before → (o : Op) (p : ℕ) → level_of o ≡ l → (ts : List Tok) → Stuck end item W ts e → Stuck end (chain item l) (Joined W l) (before ++ (p, lexeme.operator o) ∷ ts) e
  joins_stuck e a before j o p is ts s = record {
    front = before ++ (p, lexeme.operator o) ∷ s.front;
    rest = s.rest;
    split = ap (λ l. before ++ (p, lexeme.operator o) ∷ l) s.split ∙ sym (append_assoc before ((p, lexeme.operator o) ∷ s.front) s.rest);
    place = s.place;
    others = s.others;
    made = binary o a s.made;
    written = subst (Joined W l (binary o a s.made)) (sym (append_assoc before ((p, lexeme.operator o) ∷ s.front) s.others)) (joined a s.made o p before (s.front ++ s.others) j is s.written);
    dead = λ t us e' vs.
        let r = chain_so_far a before j ((p, lexeme.operator o) ∷ s.front ++ t ∷ vs) (before_operator a p o (s.front ++ t ∷ vs) is) in
        subst (Refuses e) (sym (ap (chain item l) (append_assoc before ((p, lexeme.operator o) ∷ s.front) (t ∷ vs)) ∙ r.2)) (joins_dead e r.0 a o p (s.front ++ t ∷ vs) is r.1 (s.dead t us e' vs));
  }

  more_stuck : (e : Refusal) (f : ℕ) (left : Tree) (before ts : List Tok) → Joined W l left before → Refuses e (more item l f left ts) → Stuck end (chain item l) (Joined W l) (before ++ ts) e
  more_stuck e zero left before ts j h = never_refused e left ts h
  more_stuck e (suc f) left before [] j h = never_refused e left [] h
  more_stuck e (suc f) left before (x ∷ ts) j h = go (operator_at l x.1) refl (λ left before ts j h. more_stuck e f left before ts j h)
    where
      go : (o : Option Op) → operator_at l x.1 ≡ o → ((left : Tree) (before ts : List Tok) → Joined W l left before → Refuses e (more item l f left ts) → Stuck end (chain item l) (Joined W l) (before ++ ts) e) → Stuck end (chain item l) (Joined W l) (before ++ x ∷ ts) e
      go None is again = never_refused e left (x ∷ ts) (rw (is, more) at h)
      go (Some o) is again =
          let op_is = operator_is l x.1 o is in
          both_refused e (item ts) (λ right after. more item l f (binary o left right) after) (rw (is, more) at h) (λ h. subst (λ k. Stuck end (chain item l) (Joined W l) (before ++ (x.0, k) ∷ ts) e) (sym op_is.0) (joins_stuck e left before j o x.0 op_is.1 ts (right.stuck ts e h))) (λ b mid read h.
          let first = right.sound ts b mid read in
          let written : Joined W l (binary o left b) (before ++ x ∷ first.0) = subst (λ k. Joined W l (binary o left b) (before ++ (x.0, k) ∷ first.0)) (sym op_is.0) (joined left b o x.0 before first.0 j op_is.1 first.2) in
          subst (λ l'. Stuck end (chain item l) (Joined W l) l' e) (append_assoc before (x ∷ first.0) mid ∙ ap (λ m. before ++ x ∷ m) (sym first.1)) (again (binary o left b) (before ++ x ∷ first.0) mid written h))

  chain_stuck : (ts : List Tok) (e : Refusal) → Refuses e (chain item l ts) → Stuck end (chain item l) (Joined W l) ts e
  chain_stuck ts e h = both_refused e (item ts) (λ left rest. more item l (length rest) left rest) h (λ h. stuck_by end item W (chain item l) (Joined W l) (λ x. x) e (λ x ts w. alone x ts w) (λ ts h. refused_too e (item ts) (λ left rest. more item l (length rest) left rest) h) ts (right.stuck ts e h)) (λ a mid read h.
      let first = right.sound ts a mid read in
      subst (λ l'. Stuck end (chain item l) (Joined W l) l' e) (sym first.1) (more_stuck e (length mid) a first.0 mid (alone a first.0 first.2) h))

  pub chain_right : Right end (chain item l) (Joined W l) (AndNo l C)
  chain_right = record {
    start = (right.start.0, right.start.1, alone right.start.0 right.start.1 right.start.2);
    ahead = λ x t us vs c. (right.ahead x t us vs c.0, c.1);
    stuck = chain_stuck;
    sound = chain_sound;
    complete = λ a us rest j c. let r = chain_so_far a us j rest c.0 in r.2 ∙ more_stops r.0 a rest c.1;
  }

-- ---- comparisons
abbrev pub comparison : Tree → Bool
comparison (number n) = false
comparison eoi = false
comparison (name w) = false
comparison (field w a) = false
comparison (bracketed e) = false
comparison (binary o a b) = same_level (level_of o) level.Compare

-- no comparison follows what is none
abbrev pub AndCompared : Writing Tree → Writing Tree
AndCompared C t rest = C t rest × (comparison t ≡ false → front_operator level.Compare rest ≡ None)

joined_plain : (W : Writing Tree) (l : Level) → ((a : Tree) (ts : List Tok) → W a ts → comparison a ≡ false) → same_level l level.Compare ≡ false → (a : Tree) (ts : List Tok) → Joined W l a ts → comparison a ≡ false
joined_plain W l h f a ts (alone _ _ w) = h a ts w
joined_plain W l h f _ _ (joined a b o p ts us j e w) = ap (λ x. same_level x level.Compare) e ∙ f

module _ (end : ℕ) (item : Reader) (W C : Writing Tree) (right : Right end item W C) (is_plain : (a : Tree) (ts : List Tok) → W a ts → comparison a ≡ false) (before_operator : (t : Tree) (p : ℕ) (o : Op) (ts : List Tok) → level_of o ≡ level.Compare → C t ((p, lexeme.operator o) ∷ ts)) (last_counts : (o : Op) (a b : Tree) (rest : List Tok) → C b rest → C (binary o a b) rest) (last_told : (o : Op) (a b : Tree) (rest : List Tok) → C (binary o a b) rest → C b rest) where
  abbrev Compares : Tree → List Tok → List Tok → List Tok → Type 0
  Compares t before ts rest = (us : List Tok) × (ts ≡ us ++ rest) × Compared W t (before ++ us) × AndCompared C t rest

  as_read : {a b : Tree} {mid rest : List Tok} (before ts : List Tok) → ok a mid ≡ ok b rest → Compares a before ts mid → Compares b before ts rest
  as_read {b = b} {mid = mid} before ts h r = subst (Compares b before ts) (ok_rest h) (subst (λ x. Compares x before ts mid) (ok_value h) r)

  one_only : (left : Tree) (before ts : List Tok) → W left before → C left ts → front_operator level.Compare ts ≡ None → Compares left before ts ts
  one_only left before ts w c n = ([], refl, subst (Compared W left) (sym (append-nil before)) (grammar.plain left before w), (c, λ _. n))

  compared_sound : (left : Tree) (before ts : List Tok) (t : Tree) (rest : List Tok) → W left before → C left ts → compared item left ts ≡ ok t rest → Compares t before ts rest
  compared_sound left before [] t rest w c h = as_read before [] h (one_only left before [] w c refl)
  compared_sound left before (x ∷ ts) t rest w c h = go (operator_at level.Compare x.1) refl
    where
      go : (o : Option Op) → operator_at level.Compare x.1 ≡ o → Compares t before (x ∷ ts) rest
      go None e = as_read before (x ∷ ts) (rw (e, compared) at h) (one_only left before (x ∷ ts) w c e)
      go (Some o) e =
          let parts = both_ok (item ts) (λ right rest. ok (binary o left right) rest) t rest (rw (e, compared) at h) in
          let second = right.sound ts parts.0 parts.1 parts.2 in
          let is = operator_is level.Compare x.1 o e in
          let is_one : same_level (level_of o) level.Compare ≡ true = ap (λ y. same_level y level.Compare) is.1 in
          as_read before (x ∷ ts) parts.3 (
            x ∷ second.0,
            ap (λ l. x ∷ l) second.1,
            subst (λ k. Compared W (binary o left parts.0) (before ++ (x.0, k) ∷ second.0)) (sym is.0) (grammar.compared left parts.0 o x.0 before second.0 w is.1 second.2),
            (last_counts o left parts.0 parts.1 second.3, λ none. cc (sym none ∙ is_one)),
          )

  none_compared : (a : Tree) (rest : List Tok) → front_operator level.Compare rest ≡ None → compared item a rest ≡ ok a rest
  none_compared a [] h = refl
  none_compared a (t ∷ ts) h = rw (h, compared) refl

  one_compared : (a b : Tree) (o : Op) (p : ℕ) (us rest : List Tok) → level_of o ≡ level.Compare → W b us → C b rest → compared item a ((p, lexeme.operator o) ∷ us ++ rest) ≡ ok (binary o a b) rest
  one_compared a b o p us rest e w c = rw (operator_found level.Compare o e, compared) (ap (λ r. and_then r (λ right rest. ok (binary o a right) rest)) (right.complete b us rest w c))

  compared_complete : (t : Tree) (us rest : List Tok) → Compared W t us → AndCompared C t rest → and_then (item (us ++ rest)) (λ left rest. compared item left rest) ≡ ok t rest
  compared_complete t us rest (grammar.plain _ _ w) c = ap (λ r. and_then r (λ left rest. compared item left rest)) (right.complete t us rest w c.0) ∙ none_compared t rest (c.1 (is_plain t us w))
  compared_complete _ _ rest (grammar.compared a b o p ts us v e w) c =
      ap (λ l. and_then (item l) (λ left rest. compared item left rest)) (append_assoc ts ((p, lexeme.operator o) ∷ us) rest) ∙ ap (λ r. and_then r (λ left rest. compared item left rest)) (right.complete a ts ((p, lexeme.operator o) ∷ us ++ rest) v (before_operator a p o (us ++ rest) e)) ∙ one_compared a b o p us rest e w (last_told o a b rest c.0)

  compared_dead : (e : Refusal) (a : Tree) (o : Op) (p : ℕ) (us : List Tok) → level_of o ≡ level.Compare → Refuses e (item us) → Refuses e (compared item a ((p, lexeme.operator o) ∷ us))
  compared_dead e a o p us is h = rw (operator_found level.Compare o is, compared) (refused_too e (item us) (λ right rest. ok (binary o a right) rest) h)

  abbrev whole : Reader
  whole ts = and_then (item ts) (λ left rest. compared item left rest)

  second_stuck : (e : Refusal) (a : Tree) (before : List Tok) → W a before → (o : Op) (p : ℕ) → level_of o ≡ level.Compare → (ts : List Tok) → Stuck end item W ts e → Stuck end whole (Compared W) (before ++ (p, lexeme.operator o) ∷ ts) e
  second_stuck e a before j o p is ts s = record {
    front = before ++ (p, lexeme.operator o) ∷ s.front;
    rest = s.rest;
    split = ap (λ l. before ++ (p, lexeme.operator o) ∷ l) s.split ∙ sym (append_assoc before ((p, lexeme.operator o) ∷ s.front) s.rest);
    place = s.place;
    others = s.others;
    made = binary o a s.made;
    written = subst (Compared W (binary o a s.made)) (sym (append_assoc before ((p, lexeme.operator o) ∷ s.front) s.others)) (grammar.compared a s.made o p before (s.front ++ s.others) j is s.written);
    dead = λ t us e' vs. subst (λ r. Refuses e (and_then r (λ left rest. compared item left rest))) (sym (ap item (append_assoc before ((p, lexeme.operator o) ∷ s.front) (t ∷ vs)) ∙ right.complete a before ((p, lexeme.operator o) ∷ s.front ++ t ∷ vs) j (before_operator a p o (s.front ++ t ∷ vs) is))) (compared_dead e a o p (s.front ++ t ∷ vs) is (s.dead t us e' vs));
  }

  rest_stuck : (e : Refusal) (left : Tree) (before ts : List Tok) → W left before → Refuses e (compared item left ts) → Stuck end whole (Compared W) (before ++ ts) e
  rest_stuck e left before [] w h = never_refused e left [] h
  rest_stuck e left before (x ∷ ts) w h = go (operator_at level.Compare x.1) refl
    where
      go : (o : Option Op) → operator_at level.Compare x.1 ≡ o → Stuck end whole (Compared W) (before ++ x ∷ ts) e
      go None is = never_refused e left (x ∷ ts) (rw (is, compared) at h)
      go (Some o) is =
          let op_is = operator_is level.Compare x.1 o is in
          both_refused e (item ts) (λ right rest. ok (binary o left right) rest) (rw (is, compared) at h) (λ h. subst (λ k. Stuck end whole (Compared W) (before ++ (x.0, k) ∷ ts) e) (sym op_is.0) (second_stuck e left before w o x.0 op_is.1 ts (right.stuck ts e h))) (λ b mid read h. never_refused e (binary o left b) mid h)

  whole_stuck : (ts : List Tok) (e : Refusal) → Refuses e (whole ts) → Stuck end whole (Compared W) ts e
  whole_stuck ts e h = both_refused e (item ts) (λ left rest. compared item left rest) h (λ h. stuck_by end item W whole (Compared W) (λ x. x) e (λ x ts w. grammar.plain x ts w) (λ ts h. refused_too e (item ts) (λ left rest. compared item left rest) h) ts (right.stuck ts e h)) (λ a mid read h.
      let first = right.sound ts a mid read in
      subst (λ l. Stuck end whole (Compared W) l e) (sym first.1) (rest_stuck e a first.0 mid first.2 h))

  pub compared_right : Right end (λ ts. and_then (item ts) (λ left rest. compared item left rest)) (Compared W) (AndCompared C)
  compared_right = record {
    start = (right.start.0, right.start.1, grammar.plain right.start.0 right.start.1 right.start.2);
    ahead = λ x t us vs c. (right.ahead x t us vs c.0, c.1);
    stuck = whole_stuck;
    sound = λ ts t rest h.
        let parts = both_ok (item ts) (λ left rest. compared item left rest) t rest h in
        let first = right.sound ts parts.0 parts.1 parts.2 in
        let others = compared_sound parts.0 first.0 parts.1 t rest first.2 first.3 parts.3 in
        (first.0 ++ others.0, after_both ts first.0 parts.1 others.0 rest first.1 others.1, others.2, others.3);
    complete = compared_complete;
  }

-- ---- an expression over its parts
abbrev pub AfterSum : Writing Tree
AfterSum = AndNo level.Sum (AndNo level.Product AfterPart)

abbrev pub AfterExpression : Writing Tree
AfterExpression = AndCompared AfterSum

module _ (end : ℕ) (part : Reader) (P : Writing Tree) (right : Right end part P AfterPart) (is_plain : (a : Tree) (ts : List Tok) → P a ts → comparison a ≡ false) where
  product_right : Right end (chain part level.Product) (Joined P level.Product) (AndNo level.Product AfterPart)
  product_right = chain_right end part P AfterPart right level.Product (λ t p o ts e. refl) (λ o a b rest c. c) (λ o a b rest c. c)

  sum_right : Right end (chain (chain part level.Product) level.Sum) (Joined (Joined P level.Product) level.Sum) AfterSum
  sum_right = chain_right end (chain part level.Product) (Joined P level.Product) (AndNo level.Product AfterPart) product_right level.Sum (λ t p o ts e. (refl, other_level level.Product level.Sum o e refl)) (λ o a b rest c. c) (λ o a b rest c. c)

  sum_plain : (a : Tree) (ts : List Tok) → Joined (Joined P level.Product) level.Sum a ts → comparison a ≡ false
  sum_plain = joined_plain (Joined P level.Product) level.Sum (joined_plain P level.Product is_plain refl) refl

  pub expression_of_right : Right end (expression_of part) (ExpressionOf P) AfterExpression
  expression_of_right = compared_right end (chain (chain part level.Product) level.Sum) (Joined (Joined P level.Product) level.Sum) AfterSum sum_right sum_plain (λ t p o ts e. ((refl, other_level level.Product level.Compare o e refl), other_level level.Sum level.Compare o e refl)) (λ o a b rest c. c) (λ o a b rest c. c)

-- ---- parts
part_plain : (E : Writing Tree) (a : Tree) (ts : List Tok) → Part E a ts → comparison a ≡ false
part_plain E _ _ (a_number p n) = refl
part_plain E _ _ (an_eoi p) = refl
part_plain E _ _ (a_name p w) = refl
part_plain E _ _ (a_field p q r w a) = refl
part_plain E _ _ (in_brackets p q e ts w) = refl

and_false : (b : Bool) → b && false ≡ false
and_false true = refl
and_false false = refl

not_both : (b : Bool) → b && true ≡ false → b ≡ false
not_both true h = h
not_both false h = refl

abbrev Inside : ℕ → Option Reader → Writing Tree → Type 0
Inside end (Some read) E = Right end read E AfterExpression
Inside end None E = (e : Tree) (ts : List Tok) → E e ts → ⊥

module _ (end : ℕ) (E : Writing Tree) where
  abbrev Found : List Tok → Tree → List Tok → Type 0
  Found ts t rest = (us : List Tok) × (ts ≡ us ++ rest) × Part E t us × AfterPart t rest

  found_as : {a b : Tree} {mid rest : List Tok} (ts : List Tok) → ok a mid ≡ ok b rest → Found ts a mid → Found ts b rest
  found_as {b = b} {mid = mid} ts h r = subst (Found ts b) (ok_rest h) (subst (λ x. Found ts x mid) (ok_value h) r)

  abbrev by_field : List ℕ → Read (Option (List ℕ)) → Read Tree
  by_field w r = and_then r (λ a us. ok (name_or_field w a) us)

  abbrev after_dot : List Tok → Read (Option (List ℕ))
  after_dot ts = and_then (name_at end ts) (λ n us. ok (Some n.1) us)

  dotted_sound : (p q : ℕ) (w : List ℕ) (ts : List Tok) (t : Tree) (rest : List Tok) → by_field w (after_dot ts) ≡ ok t rest → Found ((p, lexeme.name w) ∷ (q, lexeme.mark mark.Dot) ∷ ts) t rest
  dotted_sound p q w [] t rest h = cc
  dotted_sound p q w ((r, lexeme.name a) ∷ ts) t rest h = found_as _ h ((p, lexeme.name w) ∷ (q, lexeme.mark mark.Dot) ∷ (r, lexeme.name a) ∷ [], refl, a_field p q r w a, and_false (front_dot ts))
  dotted_sound p q w ((r, lexeme.text a) ∷ ts) t rest h = cc
  dotted_sound p q w ((r, lexeme.number n) ∷ ts) t rest h = cc
  dotted_sound p q w ((r, lexeme.operator o) ∷ ts) t rest h = cc
  dotted_sound p q w ((r, lexeme.mark m) ∷ ts) t rest h = cc
  dotted_sound p q w ((r, lexeme.eoi) ∷ ts) t rest h = cc
  dotted_sound p q w ((r, lexeme.guard) ∷ ts) t rest h = cc

  name_sound : (p : ℕ) (w : List ℕ) (ts : List Tok) (t : Tree) (rest : List Tok) → by_field w (field_at end ts) ≡ ok t rest → Found ((p, lexeme.name w) ∷ ts) t rest
  name_sound p w [] t rest h = found_as _ h ((p, lexeme.name w) ∷ [], refl, a_name p w, refl)
  name_sound p w (d ∷ ts) t rest h = go (is_mark mark.Dot d.1) refl h
    where
      go : (b : Bool) → is_mark mark.Dot d.1 ≡ b → by_field w (cond b (after_dot ts) (ok None (d ∷ ts))) ≡ ok t rest → Found ((p, lexeme.name w) ∷ d ∷ ts) t rest
      go false e h = found_as _ h ((p, lexeme.name w) ∷ [], refl, a_name p w, ap (λ b. b && true) e)
      go true e h = subst (λ k. Found ((p, lexeme.name w) ∷ (d.0, k) ∷ ts) t rest) (sym (mark_is mark.Dot d.1 e)) (dotted_sound p d.0 w ts t rest h)

  abbrev closing : Tree → List Tok → Read Tree
  closing e rest = and_then (mark_at mark.Close end rest) (λ _ us. ok (bracketed e) us)

  close_sound : (p : ℕ) (e : Tree) (us mid : List Tok) (t : Tree) (rest : List Tok) → E e us → closing e mid ≡ ok t rest → Found ((p, lexeme.mark mark.Open) ∷ us ++ mid) t rest
  close_sound p e us [] t rest w h = cc
  close_sound p e us (c ∷ mid) t rest w h = go (is_mark mark.Close c.1) refl h
    where
      go : (b : Bool) → is_mark mark.Close c.1 ≡ b → and_then (cond b (ok (tt {0}) mid) (form c.0)) (λ _ us. ok (bracketed e) us) ≡ ok t rest → Found ((p, lexeme.mark mark.Open) ∷ us ++ c ∷ mid) t rest
      go false f h = cc
      go true f h = found_as _ h (
        (p, lexeme.mark mark.Open) ∷ us ++ c ∷ [],
        ap (λ l. (p, lexeme.mark mark.Open) ∷ l) (sym (append_assoc us (c ∷ []) mid)),
        subst (λ k. Part E (bracketed e) ((p, lexeme.mark mark.Open) ∷ us ++ (c.0, k) ∷ [])) (sym (mark_is mark.Close c.1 f)) (in_brackets p c.0 e us w),
        and_false (front_dot mid),
      )

  bracket_sound : (inner? : Option Reader) → Inside end inner? E → (p : ℕ) (m : Mark) (b : Bool) → same_mark m mark.Open ≡ b → (ts : List Tok) (t : Tree) (rest : List Tok) → cond b (elim inner? [ None ↦ deep p | Some read ↦ and_then (read ts) closing ]) (form p) ≡ ok t rest → Found ((p, lexeme.mark m) ∷ ts) t rest
  bracket_sound inner? s p m false e ts t rest h = cc
  bracket_sound None s p m true e ts t rest h = cc
  bracket_sound (Some read) s p m true e ts t rest h =
      let parts = both_ok (read ts) closing t rest h in
      let first = s.sound ts parts.0 parts.1 parts.2 in
      let found = close_sound p parts.0 first.0 parts.1 t rest first.2 parts.3 in
      subst (λ k. Found ((p, k) ∷ ts) t rest) (sym (mark_is mark.Open (lexeme.mark m) e)) (subst (λ l. Found ((p, lexeme.mark mark.Open) ∷ l) t rest) (sym first.1) found)

  part_sound : (inner? : Option Reader) → Inside end inner? E → (ts : List Tok) (t : Tree) (rest : List Tok) → part_with end inner? ts ≡ ok t rest → Found ts t rest
  part_sound inner? s [] t rest h = cc
  part_sound inner? s ((p, lexeme.name w) ∷ ts) t rest h = name_sound p w ts t rest h
  part_sound inner? s ((p, lexeme.text w) ∷ ts) t rest h = cc
  part_sound inner? s ((p, lexeme.number n) ∷ ts) t rest h = found_as _ h ((p, lexeme.number n) ∷ [], refl, a_number p n, and_false (front_dot ts))
  part_sound inner? s ((p, lexeme.operator o) ∷ ts) t rest h = cc
  part_sound inner? s ((p, lexeme.mark m) ∷ ts) t rest h = bracket_sound inner? s p m (same_mark m mark.Open) refl ts t rest h
  part_sound inner? s ((p, lexeme.eoi) ∷ ts) t rest h = found_as _ h ((p, lexeme.eoi) ∷ [], refl, an_eoi p, and_false (front_dot ts))
  part_sound inner? s ((p, lexeme.guard) ∷ ts) t rest h = cc

  name_complete : (w : List ℕ) (rest : List Tok) → AfterPart (name w) rest → by_field w (field_at end rest) ≡ ok (name w) rest
  name_complete w [] c = refl
  name_complete w (d ∷ rest) c = ap (λ b. by_field w (cond b (after_dot rest) (ok None (d ∷ rest)))) (not_both (is_mark mark.Dot d.1) c)

  bracket_complete : (inner? : Option Reader) → Inside end inner? E → (p q : ℕ) (e : Tree) (ts rest : List Tok) → E e ts → part_with end inner? ((p, lexeme.mark mark.Open) ∷ (ts ++ (q, lexeme.mark mark.Close) ∷ []) ++ rest) ≡ ok (bracketed e) rest
  bracket_complete None s p q e ts rest w = absurd (s e ts w)
  bracket_complete (Some read) s p q e ts rest w = ap (λ l. and_then (read l) closing) (append_assoc ts ((q, lexeme.mark mark.Close) ∷ []) rest) ∙ ap (λ r. and_then r closing) (s.complete e ts ((q, lexeme.mark mark.Close) ∷ rest) w (((refl, refl), refl), λ _. refl))

  part_complete : (inner? : Option Reader) → Inside end inner? E → (t : Tree) (us rest : List Tok) → Part E t us → AfterPart t rest → part_with end inner? (us ++ rest) ≡ ok t rest
  part_complete inner? s _ _ rest (a_number p n) c = refl
  part_complete inner? s _ _ rest (an_eoi p) c = refl
  part_complete inner? s _ _ rest (a_name p w) c = name_complete w rest c
  part_complete inner? s _ _ rest (a_field p q r w a) c = refl
  part_complete inner? s _ _ rest (in_brackets p q e ts w) c = bracket_complete inner? s p q e ts rest w

  abbrev some_part : (t : Tree) × (us : List Tok) × Part E t us
  some_part = (number 0, (0, lexeme.number 0) ∷ [], a_number 0 0)

  dotted_stuck : (inner? : Option Reader) (e : Refusal) (p q : ℕ) (w : List ℕ) (ts : List Tok) → Refuses e (part_with end inner? ((p, lexeme.name w) ∷ (q, lexeme.mark mark.Dot) ∷ ts)) → Stuck end (part_with end inner?) (Part E) ((p, lexeme.name w) ∷ (q, lexeme.mark mark.Dot) ∷ ts) e
  dotted_stuck inner? e p q w ts h = stuck_shift end (p, lexeme.name w) (part_with end inner?) (Part E) ((q, lexeme.mark mark.Dot) ∷ ts) e (stuck_shift end (q, lexeme.mark mark.Dot) (λ l. part_with end inner? ((p, lexeme.name w) ∷ l)) (λ t us. Part E t ((p, lexeme.name w) ∷ us)) ts e (go ts h))
    where
      read : Reader
      read l = part_with end inner? ((p, lexeme.name w) ∷ (q, lexeme.mark mark.Dot) ∷ l)

      V : Writing Tree
      V t us = Part E t ((p, lexeme.name w) ∷ (q, lexeme.mark mark.Dot) ∷ us)

      some : (t : Tree) × (us : List Tok) × V t us
      some = (field w [], (0, lexeme.name []) ∷ [], a_field p q 0 w [])

      go : (ts : List Tok) → Refuses e (read ts) → Stuck end read V ts e
      go [] h = stuck_end end read V e some refl h
      go ((r, lexeme.name a) ∷ ts) h = never_refused e (field w a) ts h
      go ((r, lexeme.text a) ∷ ts) h = stuck_token end read V e some (r, lexeme.text a) ts (λ vs. refl) h
      go ((r, lexeme.number n) ∷ ts) h = stuck_token end read V e some (r, lexeme.number n) ts (λ vs. refl) h
      go ((r, lexeme.operator o) ∷ ts) h = stuck_token end read V e some (r, lexeme.operator o) ts (λ vs. refl) h
      go ((r, lexeme.mark m) ∷ ts) h = stuck_token end read V e some (r, lexeme.mark m) ts (λ vs. refl) h
      go ((r, lexeme.eoi) ∷ ts) h = stuck_token end read V e some (r, lexeme.eoi) ts (λ vs. refl) h
      go ((r, lexeme.guard) ∷ ts) h = stuck_token end read V e some (r, lexeme.guard) ts (λ vs. refl) h

  name_stuck : (inner? : Option Reader) (e : Refusal) (p : ℕ) (w : List ℕ) (ts : List Tok) → Refuses e (part_with end inner? ((p, lexeme.name w) ∷ ts)) → Stuck end (part_with end inner?) (Part E) ((p, lexeme.name w) ∷ ts) e
  name_stuck inner? e p w [] h = never_refused e (name w) [] h
  name_stuck inner? e p w (d ∷ ts) h = go (is_mark mark.Dot d.1) refl
    where
      go : (b : Bool) → is_mark mark.Dot d.1 ≡ b → Stuck end (part_with end inner?) (Part E) ((p, lexeme.name w) ∷ d ∷ ts) e
      go false f = never_refused e (name w) (d ∷ ts) (subst (λ b. Refuses e (by_field w (cond b (after_dot ts) (ok None (d ∷ ts))))) f h)
      go true f =
          let is = mark_is mark.Dot d.1 f in
          subst (λ k. Stuck end (part_with end inner?) (Part E) ((p, lexeme.name w) ∷ (d.0, k) ∷ ts) e) (sym is) (dotted_stuck inner? e p d.0 w ts (subst (λ k. Refuses e (part_with end inner? ((p, lexeme.name w) ∷ (d.0, k) ∷ ts))) is h))

  closing_told : (x : Tree) (mid : List Tok) (e : Refusal) → Refuses e (closing x mid) → (place_told e ≡ place_of end mid) × ((t : Tok) (us : List Tok) → mid ≡ t ∷ us → (vs : List Tok) → Refuses e (closing x (t ∷ vs)))
  closing_told x [] e h = (ap place_told (told_form Tree e end h), λ t us is vs. cc)
  closing_told x (c ∷ mid) e h = go (is_mark mark.Close c.1) refl
    where
      by : Bool → List Tok → Read Tree
      by b vs = and_then (cond b (ok (tt {0}) vs) (form c.0)) (λ _ us. ok (bracketed x) us)

      go : (b : Bool) → is_mark mark.Close c.1 ≡ b → (place_told e ≡ c.0) × ((t : Tok) (us : List Tok) → c ∷ mid ≡ t ∷ us → (vs : List Tok) → Refuses e (closing x (t ∷ vs)))
      go true f = never_refused e (bracketed x) mid (subst (λ b. Refuses e (by b mid)) f h)
      go false f =
          let told : e ≡ Form c.0 = told_form Tree e c.0 (subst (λ b. Refuses e (by b mid)) f h) in
          (ap place_told told, λ t us is vs. subst (λ t. Refuses e (closing x (t ∷ vs))) (same_front is) (subst (λ e. Refuses e (closing x (c ∷ vs))) (sym told) (ap (λ b. by b vs) f)))

  open_stuck : (read : Reader) → Right end read E AfterExpression → (p : ℕ) (ts : List Tok) (e : Refusal) → Refuses e (and_then (read ts) closing) → Stuck end (λ l. and_then (read l) closing) (λ t us. Part E t ((p, lexeme.mark mark.Open) ∷ us)) ts e
  open_stuck read r p ts e h = both_refused e (read ts) closing h (λ h.
      let s = r.stuck ts e h in
      record {
        front = s.front;
        rest = s.rest;
        split = s.split;
        place = s.place;
        others = s.others ++ (0, lexeme.mark mark.Close) ∷ [];
        made = bracketed s.made;
        written = subst (λ l. Part E (bracketed s.made) ((p, lexeme.mark mark.Open) ∷ l)) (append_assoc s.front s.others ((0, lexeme.mark mark.Close) ∷ [])) (in_brackets p 0 s.made (s.front ++ s.others) s.written);
        dead = λ t us is vs. refused_too e (read (s.front ++ t ∷ vs)) closing (s.dead t us is vs);
      }) (λ x mid is h.
      let f = r.sound ts x mid is in
      let told = closing_told x mid e h in
      record {
        front = f.0;
        rest = mid;
        split = f.1;
        place = told.0;
        others = (0, lexeme.mark mark.Close) ∷ [];
        made = bracketed x;
        written = in_brackets p 0 x f.0 f.2;
        dead = λ t us is vs. subst (λ z. Refuses e (and_then z closing)) (sym (r.complete x f.0 (t ∷ vs) f.2 (r.ahead x t us vs (subst (AfterExpression x) is f.3)))) (told.1 t us is vs);
      })

  bracket_stuck : (inner? : Option Reader) → Inside end inner? E → (e : Refusal) (p : ℕ) (ts : List Tok) → Refuses e (part_with end inner? ((p, lexeme.mark mark.Open) ∷ ts)) → Stuck end (part_with end inner?) (Part E) ((p, lexeme.mark mark.Open) ∷ ts) e
  bracket_stuck None s e p ts h = stuck_deep end (part_with end None) (Part E) e some_part (p, lexeme.mark mark.Open) ts (λ vs. refl) h
  bracket_stuck (Some read) s e p ts h = stuck_shift end (p, lexeme.mark mark.Open) (part_with end (Some read)) (Part E) ts e (open_stuck read s p ts e h)

  mark_stuck : (inner? : Option Reader) → Inside end inner? E → (e : Refusal) (p : ℕ) (m : Mark) (ts : List Tok) → Refuses e (part_with end inner? ((p, lexeme.mark m) ∷ ts)) → Stuck end (part_with end inner?) (Part E) ((p, lexeme.mark m) ∷ ts) e
  mark_stuck inner? s e p m ts h = go (same_mark m mark.Open) refl
    where
      go : (b : Bool) → same_mark m mark.Open ≡ b → Stuck end (part_with end inner?) (Part E) ((p, lexeme.mark m) ∷ ts) e
      go true f =
          let is = mark_is mark.Open (lexeme.mark m) f in
          subst (λ k. Stuck end (part_with end inner?) (Part E) ((p, k) ∷ ts) e) (sym is) (bracket_stuck inner? s e p ts (subst (λ k. Refuses e (part_with end inner? ((p, k) ∷ ts))) is h))
      go false f = stuck_token end (part_with end inner?) (Part E) e some_part (p, lexeme.mark m) ts (λ vs. ap (λ b. cond b (elim inner? [ None ↦ deep p | Some read ↦ and_then (read vs) closing ]) (form p)) f) h

  part_stuck : (inner? : Option Reader) → Inside end inner? E → (ts : List Tok) (e : Refusal) → Refuses e (part_with end inner? ts) → Stuck end (part_with end inner?) (Part E) ts e
  part_stuck inner? s [] e h = stuck_end end (part_with end inner?) (Part E) e some_part refl h
  part_stuck inner? s ((p, lexeme.name w) ∷ ts) e h = name_stuck inner? e p w ts h
  part_stuck inner? s ((p, lexeme.text w) ∷ ts) e h = stuck_token end (part_with end inner?) (Part E) e some_part (p, lexeme.text w) ts (λ vs. refl) h
  part_stuck inner? s ((p, lexeme.number n) ∷ ts) e h = never_refused e (number n) ts h
  part_stuck inner? s ((p, lexeme.operator o) ∷ ts) e h = stuck_token end (part_with end inner?) (Part E) e some_part (p, lexeme.operator o) ts (λ vs. refl) h
  part_stuck inner? s ((p, lexeme.mark m) ∷ ts) e h = mark_stuck inner? s e p m ts h
  part_stuck inner? s ((p, lexeme.eoi) ∷ ts) e h = never_refused e eoi ts h
  part_stuck inner? s ((p, lexeme.guard) ∷ ts) e h = stuck_token end (part_with end inner?) (Part E) e some_part (p, lexeme.guard) ts (λ vs. refl) h

  part_right : (inner? : Option Reader) → Inside end inner? E → Right end (part_with end inner?) (Part E) AfterPart
  part_right inner? s = record { start = some_part; ahead = λ x t us vs c. c; stuck = part_stuck inner? s; sound = part_sound inner? s; complete = part_complete inner? s }

parts_right : (end d : ℕ) → Right end (part_at end d) (PartIn d) AfterPart
parts_right end zero = part_right end Nothing None (λ e ts w. w)
parts_right end (suc d) = part_right end (ExpressionOf (PartIn d)) (inner end (suc d)) (expression_of_right end (part_at end d) (PartIn d) (parts_right end d) (deep_plain d))
  where
    deep_plain : (d : ℕ) (a : Tree) (ts : List Tok) → PartIn d a ts → comparison a ≡ false
    deep_plain zero = part_plain Nothing
    deep_plain (suc d) = part_plain (ExpressionOf (PartIn d))

pub expression_right : (end : ℕ) → Right end (expression_at end 16) Expression AfterExpression
expression_right end = expression_of_right end (part_at end 16) (PartIn 16) (parts_right end 16) (part_plain (ExpressionOf (PartIn 15)))

-- When a reader reads what a grammar writes, and how such readers are put together.
use Rattle.std.proofs.Common.{◌≡◌, ℕ, zero, suc, ◌<◌, ◌≤◌, Bool, true, false, cond, List, [], ◌∷◌, ◌++◌, length, sym, refl, ap, ◌∙◌, subst, append_assoc, append-nil, arith, length-append}
use Rattle.token.specs.Tokens.{Tok, Lexeme}
use Rattle.expr.specs.declared.Refusal.{Refusal}
use Rattle.expr.specs.declared.Refusal.TheVariants.{Form, Deep}
use Rattle.expr.specs.Reading.{Read, ok, form, deep, and_then, Refuses}
use Rattle.expr.proofs.Turns.{refused_too}
use Rattle.rule.specs.Form.{several}
use Rattle.form_laws.specs.Grammar.{Writing}
use Rattle.form_laws.specs.Law.{place_told, place_of}

-- ---- readers' results
pub ok_value : {X : Type 0} {x y : X} {ts us : List Tok} → ok x ts ≡ ok y us → x ≡ y
ok_value h = cc

pub ok_rest : {X : Type 0} {x y : X} {ts us : List Tok} → ok x ts ≡ ok y us → ts ≡ us
ok_rest h = cc

pub both_ok : {X Y : Type 0} (r : Read X) (k : X → List Tok → Read Y) (y : Y) (rest : List Tok) → and_then r k ≡ ok y rest → (x : X) × (mid : List Tok) × (r ≡ ok x mid) × (k x mid ≡ ok y rest)
both_ok (ok x mid) k y rest h = (x, mid, refl, h)
both_ok (form p) k y rest h = cc
both_ok (deep p) k y rest h = cc

-- what was read first, before what was read then
pub after_both : (ts us mid vs rest : List Tok) → ts ≡ us ++ mid → mid ≡ vs ++ rest → ts ≡ (us ++ vs) ++ rest
after_both ts us mid vs rest e f = e ∙ ap (λ l. us ++ l) f ∙ sym (append_assoc us vs rest)

pub rest_short : (ts us rest : List Tok) → ts ≡ us ++ rest → length rest ≤ length ts
rest_short ts us rest e = let h : length ts ≡ _ = ap length e ∙ length-append us rest in omega (arith, h)

-- ---- readers
abbrev pub Reads : Type 0 → Type 0
Reads X = List Tok → Read X

-- where a reader refuses: what stands before the place goes on in some way to what W writes, and with the token at the place the reader refuses whatever follows
pub record StuckAt {X : Type 0} (end : ℕ) (Dead : List Tok → Type 0) (W : Writing X) (ts : List Tok) (e : Refusal) : Type 0 where
  pub front : List Tok
  pub rest : List Tok
  pub split : ts ≡ front ++ rest
  pub place : place_told e ≡ place_of end rest
  pub others : List Tok
  pub made : X
  pub written : W made (front ++ others)
  pub dead : (t : Tok) (us : List Tok) → rest ≡ t ∷ us → (vs : List Tok) → Dead (front ++ t ∷ vs)

abbrev pub Stuck : {X : Type 0} → ℕ → Reads X → Writing X → List Tok → Refusal → Type 0
Stuck end read W ts e = StuckAt end (λ l. Refuses e (read l)) W ts e

-- what is read is written, and C holds of what follows it; what is written is read where C holds of what follows; something is written; C looks one token ahead; refusals are told where they must be
pub record Right {X : Type 0} (end : ℕ) (read : Reads X) (W C : Writing X) : Type 0 where
  pub sound : (ts : List Tok) (x : X) (rest : List Tok) → read ts ≡ ok x rest → (us : List Tok) × (ts ≡ us ++ rest) × W x us × C x rest
  pub complete : (x : X) (us rest : List Tok) → W x us → C x rest → read (us ++ rest) ≡ ok x rest
  pub start : (x : X) × (us : List Tok) × W x us
  pub ahead : (x : X) (t : Tok) (us vs : List Tok) → C x (t ∷ us) → C x (t ∷ vs)
  pub stuck : (ts : List Tok) (e : Refusal) → Refuses e (read ts) → Stuck end read W ts e

-- anything may follow
abbrev pub Any : {X : Type 0} → Writing X
Any x ts = Unit {0}

-- ---- refusals
pub never_refused : {Z X : Type 0} (e : Refusal) (x : X) (ts : List Tok) → Refuses e (ok x ts) → Z
never_refused (Form p) x ts h = cc (sym h)
never_refused (Deep p) x ts h = cc (sym h)

pub both_refused : {Z X Y : Type 0} (e : Refusal) (r : Read X) (k : X → List Tok → Read Y) → Refuses e (and_then r k) → (Refuses e r → Z) → ((x : X) (mid : List Tok) → r ≡ ok x mid → Refuses e (k x mid) → Z) → Z
both_refused e (ok x mid) k h f g = g x mid refl h
both_refused (Form q) (form p) k h f g = f (cc)
both_refused (Deep q) (form p) k h f g = cc
both_refused (Form q) (deep p) k h f g = cc (sym h)
both_refused (Deep q) (deep p) k h f g = f (cc)

pub ahead_on : {X : Type 0} (C : Writing X) → ((x : X) (t : Tok) (us vs : List Tok) → C x (t ∷ us) → C x (t ∷ vs)) → (x : X) (front : List Tok) (t : Tok) (us vs : List Tok) → C x (front ++ t ∷ us) → C x (front ++ t ∷ vs)
ahead_on C ahead x [] t us vs c = ahead x t us vs c
ahead_on C ahead x (y ∷ ys) t us vs c = ahead x y (ys ++ t ∷ us) (ys ++ t ∷ vs) c

pub stuck_by : {X Y : Type 0} (end : ℕ) (read : Reads X) (V : Writing X) (read' : Reads Y) (W : Writing Y) (f : X → Y) (e : Refusal) → ((x : X) (ts : List Tok) → V x ts → W (f x) ts) → ((ts : List Tok) → Refuses e (read ts) → Refuses e (read' ts)) → (ts : List Tok) → Stuck end read V ts e → Stuck end read' W ts e
stuck_by end read V read' W f e to too ts s = record {
  front = s.front;
  rest = s.rest;
  split = s.split;
  place = s.place;
  others = s.others;
  made = f s.made;
  written = to s.made (s.front ++ s.others) s.written;
  dead = λ t us is vs. too (s.front ++ t ∷ vs) (s.dead t us is vs);
}

pub told_form : (X : Type 0) (e : Refusal) (p : ℕ) → Refuses {X = X} e (form p) → e ≡ Form p
told_form X (Form q) p h = cc
told_form X (Deep q) p h = cc

told_deep : (X : Type 0) (e : Refusal) (p : ℕ) → Refuses {X = X} e (deep p) → e ≡ Deep p
told_deep X (Form q) p h = cc (sym h)
told_deep X (Deep q) p h = cc

pub same_front : {t u : Tok} {ts us : List Tok} → t ∷ ts ≡ u ∷ us → t ≡ u
same_front h = cc

module _ {X : Type 0} (end : ℕ) (read : Reads X) (W : Writing X) (e : Refusal) (start : (x : X) × (us : List Tok) × W x us) where
  -- tokens are wanting
  pub stuck_end : read [] ≡ form end → Refuses e (read []) → Stuck end read W [] e
  stuck_end is h = record { front = []; rest = []; split = refl; place = ap place_told (told_form X e end (subst (Refuses e) is h)); others = start.1; made = start.0; written = start.2; dead = λ t us no_token vs. cc }

  -- the first token is refused
  stuck_first : (t : Tok) (ts : List Tok) → place_told e ≡ t.0 → ((vs : List Tok) → Refuses e (read (t ∷ vs))) → Stuck end read W (t ∷ ts) e
  stuck_first t ts place d = record { front = []; rest = t ∷ ts; split = refl; place = place; others = start.1; made = start.0; written = start.2; dead = λ u us is vs. subst (λ u. Refuses e (read (u ∷ vs))) (same_front is) (d vs) }

  pub stuck_token : (t : Tok) (ts : List Tok) → ((vs : List Tok) → read (t ∷ vs) ≡ form t.0) → Refuses e (read (t ∷ ts)) → Stuck end read W (t ∷ ts) e
  stuck_token t ts is h =
      let told : e ≡ Form t.0 = told_form X e t.0 (subst (Refuses e) (is ts) h) in
      stuck_first t ts (ap place_told told) (λ vs. subst (λ e. Refuses e (read (t ∷ vs))) (sym told) (is vs))

  pub stuck_deep : (t : Tok) (ts : List Tok) → ((vs : List Tok) → read (t ∷ vs) ≡ deep t.0) → Refuses e (read (t ∷ ts)) → Stuck end read W (t ∷ ts) e
  stuck_deep t ts is h =
      let told : e ≡ Deep t.0 = told_deep X e t.0 (subst (Refuses e) (is ts) h) in
      stuck_first t ts (ap place_told told) (λ vs. subst (λ e. Refuses e (read (t ∷ vs))) (sym told) (is vs))

-- a token that was read before
pub stuck_shift : {X : Type 0} (end : ℕ) (x : Tok) (read : Reads X) (W : Writing X) (ts : List Tok) (e : Refusal) → Stuck end (λ l. read (x ∷ l)) (λ y us. W y (x ∷ us)) ts e → Stuck end read W (x ∷ ts) e
stuck_shift end x read W ts e s = record { front = x ∷ s.front; rest = s.rest; split = ap (λ l. x ∷ l) s.split; place = s.place; others = s.others; made = s.made; written = s.written; dead = s.dead }

pub right_by : {X : Type 0} (end : ℕ) (read : Reads X) (V W C : Writing X) → ((x : X) (ts : List Tok) → V x ts → W x ts) → ((x : X) (ts : List Tok) → W x ts → V x ts) → Right end read V C → Right end read W C
right_by end read V W C to from r = record {
  sound = λ ts x rest h. let s = r.sound ts x rest h in (s.0, s.1, to x s.0 s.2, s.3);
  complete = λ x us rest w c. r.complete x us rest (from x us w) c;
  start = (r.start.0, r.start.1, to r.start.0 r.start.1 r.start.2);
  ahead = r.ahead;
  stuck = λ ts e h. stuck_by end read V read W (λ x. x) e to (λ ts h. h) ts (r.stuck ts e h);
}

-- ---- one after another
pub data Seq {X Y : Type 0} (V : Writing X) (W : X → Writing Y) : Y → List Tok → Type 0 where
  seq : (x : X) (y : Y) (us vs : List Tok) → V x us → W x y vs → Seq V W y (us ++ vs)

module _ {X Y : Type 0} (end : ℕ) (read : Reads X) (k : X → Reads Y) (V C : Writing X) (W : X → Writing Y) (D : Writing Y) (r : Right end read V C) (q : (x : X) → Right end (k x) (W x) D) (follow : (x : X) (y : Y) (vs rest : List Tok) → W x y vs → D y rest → C x (vs ++ rest)) where
  seq_complete : (y : Y) (us rest : List Tok) → Seq V W y us → D y rest → and_then (read (us ++ rest)) k ≡ ok y rest
  seq_complete y _ rest (seq x _ us vs v w) d =
      ap (λ l. and_then (read l) k) (append_assoc us vs rest) ∙ ap (λ s. and_then s k) (r.complete x us (vs ++ rest) v (follow x y vs rest w d)) ∙ (q x).complete y vs rest w d

  seq_sound : (ts : List Tok) (y : Y) (rest : List Tok) → and_then (read ts) k ≡ ok y rest → (us : List Tok) × (ts ≡ us ++ rest) × Seq V W y us × D y rest
  seq_sound ts y rest h =
      let parts = both_ok (read ts) k y rest h in
      let first = r.sound ts parts.0 parts.1 parts.2 in
      let second = (q parts.0).sound parts.1 y rest parts.3 in
      (first.0 ++ second.0, after_both ts first.0 parts.1 second.0 rest first.1 second.1, seq parts.0 y first.0 second.0 first.2 second.2, second.3)

  first_stuck : (ts : List Tok) (e : Refusal) → Stuck end read V ts e → Stuck end (λ ts. and_then (read ts) k) (Seq V W) ts e
  first_stuck ts e s =
      let b = (q s.made).start in
      record {
        front = s.front;
        rest = s.rest;
        split = s.split;
        place = s.place;
        others = s.others ++ b.1;
        made = b.0;
        written = subst (Seq V W b.0) (append_assoc s.front s.others b.1) (seq s.made b.0 (s.front ++ s.others) b.1 s.written b.2);
        dead = λ t us is vs. refused_too e (read (s.front ++ t ∷ vs)) k (s.dead t us is vs);
      }

  second_stuck : (ts : List Tok) (e : Refusal) (x : X) (us mid : List Tok) → ts ≡ us ++ mid → V x us → C x mid → Stuck end (k x) (W x) mid e → Stuck end (λ ts. and_then (read ts) k) (Seq V W) ts e
  second_stuck ts e x us mid split v c s = record {
    front = us ++ s.front;
    rest = s.rest;
    split = after_both ts us mid s.front s.rest split s.split;
    place = s.place;
    others = s.others;
    made = s.made;
    written = subst (Seq V W s.made) (sym (append_assoc us s.front s.others)) (seq x s.made us (s.front ++ s.others) v s.written);
    dead = λ t ws is vs. subst (λ z. Refuses e (and_then z k)) (sym (ap read (append_assoc us s.front (t ∷ vs)) ∙ r.complete x us (s.front ++ t ∷ vs) v (ahead_on C r.ahead x s.front t ws vs (subst (C x) (s.split ∙ ap (λ l. s.front ++ l) is) c)))) (s.dead t ws is vs);
  }

  seq_stuck : (ts : List Tok) (e : Refusal) → Refuses e (and_then (read ts) k) → Stuck end (λ ts. and_then (read ts) k) (Seq V W) ts e
  seq_stuck ts e h = both_refused e (read ts) k h (λ h. first_stuck ts e (r.stuck ts e h)) (λ x mid is h. let f = r.sound ts x mid is in second_stuck ts e x f.0 mid f.1 f.2 f.3 ((q x).stuck mid e h))

  seq_start : (y : Y) × (us : List Tok) × Seq V W y us
  seq_start =
      let a = r.start in
      let b = (q a.0).start in
      (b.0, a.1 ++ b.1, seq a.0 b.0 a.1 b.1 a.2 b.2)

  pub seq_right : Right end (λ ts. and_then (read ts) k) (Seq V W) D
  seq_right = record { sound = seq_sound; complete = seq_complete; start = seq_start; ahead = (q r.start.0).ahead; stuck = seq_stuck }

-- nothing is read, and what is told of the rest is told rightly
pub data Done {Y : Type 0} (y : Y) : Y → List Tok → Type 0 where
  done : Done y y []

pub done_right : {Y : Type 0} (end : ℕ) (y : Y) → Right end (λ ts. ok y ts) (Done y) Any
done_right end y = record { start = (y, [], done); ahead = λ x t us vs c. tt; stuck = λ ts e h. never_refused e y ts h; sound = λ ts x rest h. ([], ok_rest h, subst (λ z. Done y z []) (ok_value h) done, tt); complete = λ x us rest w c. go x us rest w }
  where
    go : (x : _) (us rest : List Tok) → Done y x us → ok y (us ++ rest) ≡ ok x rest
    go _ _ rest done = refl

-- what is read is put into another form
pub data Mapped {X Y : Type 0} (f : X → Y) (W : Writing X) : Y → List Tok → Type 0 where
  mapped : (x : X) (us : List Tok) → W x us → Mapped f W (f x) us

module _ {X Y : Type 0} (end : ℕ) (f : X → Y) (read : Reads X) (W : Writing X) (right : Right end read W Any) where
  mapped_complete : (y : Y) (us rest : List Tok) → Mapped f W y us → Unit {0} → and_then (read (us ++ rest)) (λ x ts. ok (f x) ts) ≡ ok y rest
  mapped_complete _ _ rest (mapped x us w) c = ap (λ r. and_then r (λ x ts. ok (f x) ts)) (right.complete x us rest w tt)

  mapped_sound : (ts : List Tok) (y : Y) (rest : List Tok) → and_then (read ts) (λ x ts. ok (f x) ts) ≡ ok y rest → (us : List Tok) × (ts ≡ us ++ rest) × Mapped f W y us × Unit {0}
  mapped_sound ts y rest h =
      let parts = both_ok (read ts) (λ x ts. ok (f x) ts) y rest h in
      let first = right.sound ts parts.0 parts.1 parts.2 in
      (first.0, first.1 ∙ ap (λ l. first.0 ++ l) (ok_rest parts.3), subst (λ z. Mapped f W z first.0) (ok_value parts.3) (mapped parts.0 first.0 first.2), tt)

  mapped_stuck : (ts : List Tok) (e : Refusal) → Refuses e (and_then (read ts) (λ x ts. ok (f x) ts)) → Stuck end (λ ts. and_then (read ts) (λ x ts. ok (f x) ts)) (Mapped f W) ts e
  mapped_stuck ts e h = both_refused e (read ts) (λ x ts. ok (f x) ts) h (λ h. stuck_by end read W (λ ts. and_then (read ts) (λ x ts. ok (f x) ts)) (Mapped f W) f e (λ x ts w. mapped x ts w) (λ ts h. refused_too e (read ts) (λ x ts. ok (f x) ts) h) ts (right.stuck ts e h)) (λ x mid is h. never_refused e (f x) mid h)

  pub mapped_right : Right end (λ ts. and_then (read ts) (λ x ts. ok (f x) ts)) (Mapped f W) Any
  mapped_right = record { start = (f right.start.0, right.start.1, mapped right.start.0 right.start.1 right.start.2); ahead = λ x t us vs c. tt; stuck = mapped_stuck; sound = mapped_sound; complete = mapped_complete }

pub data Flagged {Y : Type 0} (y : Y) : Y × Bool → List Tok → Type 0 where
  flagged : (b : Bool) → Flagged y (y, b) []

abbrev pub Told : {Y : Type 0} → (List Tok → Bool) → Writing (Y × Bool)
Told f x rest = f rest ≡ x.1

pub flagged_right : {Y : Type 0} (end : ℕ) (f : List Tok → Bool) → ((t : Tok) (us vs : List Tok) → f (t ∷ us) ≡ f (t ∷ vs)) → (y : Y) → Right end (λ ts. ok (y, f ts) ts) (Flagged y) (Told f)
flagged_right end f first y = record { start = ((y, true), [], flagged true); ahead = λ x t us vs c. first t vs us ∙ c; stuck = λ ts e h. never_refused e (y, f ts) ts h; sound = λ ts x rest h. ([], ok_rest h, subst (λ z. Flagged y z []) (ok_value h) (flagged (f ts)), ap f (sym (ok_rest h)) ∙ ap (λ z. z.1) (ok_value h)); complete = go }
  where
    go : (x : _) (us rest : List Tok) → Flagged y x us → Told f x rest → ok (y, f (us ++ rest)) (us ++ rest) ≡ ok x rest
    go _ _ rest (flagged b) c = ap (λ b. ok (y, b) rest) c

-- ---- one token
pub data One (k : Lexeme) : List Tok → Type 0 where
  the : (p : ℕ) → One k ((p, k) ∷ [])

abbrev pub Token : Lexeme → Writing (Unit {0})
Token k x ts = One k ts

module _ (k : Lexeme) (test : Lexeme → Bool) (is : (j : Lexeme) → test j ≡ true → j ≡ k) (self : test k ≡ true) (end : ℕ) (read : Reads (Unit {0})) (none : read [] ≡ form end) (some : (t : Tok) (ts : List Tok) → read (t ∷ ts) ≡ cond (test t.1) (ok tt ts) (form t.0)) where
  token_sound : (ts : List Tok) (x : Unit {0}) (rest : List Tok) → read ts ≡ ok x rest → (us : List Tok) × (ts ≡ us ++ rest) × One k us × Unit {0}
  token_sound [] x rest h = cc (sym none ∙ h)
  token_sound (t ∷ ts) x rest h = go (test t.1) refl (sym (some t ts) ∙ h)
    where
      go : (b : Bool) → test t.1 ≡ b → cond b (ok tt ts) (form t.0) ≡ ok x rest → (us : List Tok) × (t ∷ ts ≡ us ++ rest) × One k us × Unit {0}
      go false e h = cc
      go true e h = (t ∷ [], ap (λ l. t ∷ l) (ok_rest h), subst (λ j. One k ((t.0, j) ∷ [])) (sym (is t.1 e)) (the t.0), tt)

  token_complete : (x : Unit {0}) (us rest : List Tok) → One k us → Unit {0} → read (us ++ rest) ≡ ok x rest
  token_complete x _ rest (the p) c = some (p, k) rest ∙ ap (λ b. cond b (ok tt rest) (form p)) self

  token_stuck : (ts : List Tok) (e : Refusal) → Refuses e (read ts) → Stuck end read (Token k) ts e
  token_stuck [] e h = stuck_end end read (Token k) e (tt, (0, k) ∷ [], the 0) none h
  token_stuck (t ∷ ts) e h = go (test t.1) refl
    where
      go : (b : Bool) → test t.1 ≡ b → Stuck end read (Token k) (t ∷ ts) e
      go true f = never_refused e tt ts (subst (Refuses e) (some t ts ∙ ap (λ b. cond b (ok tt ts) (form t.0)) f) h)
      go false f = stuck_token end read (Token k) e (tt, (0, k) ∷ [], the 0) t ts (λ vs. some t vs ∙ ap (λ b. cond b (ok tt vs) (form t.0)) f) h

  pub token_right : Right end read (Token k) Any
  token_right = record { start = (tt, (0, k) ∷ [], the 0); ahead = λ x t us vs c. tt; stuck = token_stuck; sound = token_sound; complete = token_complete }

-- ---- one item after another, each of which tells whether it is the last
pub data Run {X : Type 0} (W : Writing (X × Bool)) : List X → List Tok → Type 0 where
  last : (x : X) (us : List Tok) → W (x, true) us → Run W (x ∷ []) us
  on : (x : X) (xs : List X) (us vs : List Tok) → W (x, false) us → Run W xs vs → Run W (x ∷ xs) (us ++ vs)

module _ {X : Type 0} (end : ℕ) (item : Reads (X × Bool)) (W : Writing (X × Bool)) (C : Bool → List Tok → Type 0) (right : Right end item W (λ x rest. C x.1 rest)) (start_last : (x : X) × (us : List Tok) × W (x, true) us) (some : (x : X × Bool) (us : List Tok) → W x us → 1 ≤ length us) (follow : (x : X × Bool) (us rest : List Tok) → W x us → C false (us ++ rest)) where
  abbrev Items : List X → List Tok → List Tok → Type 0
  Items xs ts rest = (us : List Tok) × (ts ≡ us ++ rest) × Run W xs us × C true rest

  items_as : {xs ys : List X} {mid rest : List Tok} (ts : List Tok) → ok xs mid ≡ ok ys rest → Items xs ts mid → Items ys ts rest
  items_as {ys = ys} {mid = mid} ts h r = subst (Items ys ts) (ok_rest h) (subst (λ x. Items x ts mid) (ok_value h) r)

  -- an item takes a token
  shorter : (x : X × Bool) (ts us mid : List Tok) → ts ≡ us ++ mid → W x us → length mid < length ts
  shorter x ts us mid e w =
      let h : length ts ≡ _ = ap length e ∙ length-append us mid in
      let s : 1 ≤ length us = some x us w in
      omega (arith, h, s)

  several_sound : (n : ℕ) (ts : List Tok) (xs : List X) (rest : List Tok) → length ts ≤ n → several item n ts ≡ ok xs rest → Items xs ts rest
  several_sound zero ts xs rest short h =
      let parts = both_ok (item ts) (λ x us. ok (x.0 ∷ []) us) xs rest h in
      let first = right.sound ts parts.0 parts.1 parts.2 in
      let s : length parts.1 < length ts = shorter parts.0 ts first.0 parts.1 first.1 first.2 in
      absurd (omega (arith, s, short))
  several_sound (suc n) ts xs rest short h =
      let parts = both_ok (item ts) (λ x us. cond x.1 (ok (x.0 ∷ []) us) (and_then (several item n us) (λ xs vs. ok (x.0 ∷ xs) vs))) xs rest h in
      let first = right.sound ts parts.0 parts.1 parts.2 in
      let s : length parts.1 < length ts = shorter parts.0 ts first.0 parts.1 first.1 first.2 in
      let s' : length parts.1 ≤ n = omega (arith, s, short) in
      go parts.0.0 parts.0.1 parts.1 first.0 first.1 first.2 first.3 (λ xs rest h. several_sound n parts.1 xs rest s' h) parts.3
    where
      go : (x : X) (b : Bool) (mid us : List Tok) → ts ≡ us ++ mid → W (x, b) us → C b mid → ((xs : List X) (rest : List Tok) → several item n mid ≡ ok xs rest → Items xs mid rest) → cond b (ok (x ∷ []) mid) (and_then (several item n mid) (λ xs vs. ok (x ∷ xs) vs)) ≡ ok xs rest → Items xs ts rest
      go x true mid us e w c again h = items_as ts h (us, e, last x us w, c)
      go x false mid us e w c again h =
          let parts = both_ok (several item n mid) (λ xs vs. ok (x ∷ xs) vs) xs rest h in
          let others = again parts.0 parts.1 parts.2 in
          items_as ts parts.3 (us ++ others.0, after_both ts us mid others.0 parts.1 e others.1, on x parts.0 us others.0 w others.2, others.3)

  several_complete : (xs : List X) (us : List Tok) → Run W xs us → (n : ℕ) (rest : List Tok) → length (us ++ rest) ≤ n → C true rest → several item n (us ++ rest) ≡ ok xs rest
  several_complete _ _ (last x us w) zero rest short c = ap (λ r. and_then r (λ x us. ok (x.0 ∷ []) us)) (right.complete (x, true) us rest w c)
  several_complete _ _ (last x us w) (suc n) rest short c = ap (λ r. and_then r (λ x us. cond x.1 (ok (x.0 ∷ []) us) (and_then (several item n us) (λ xs vs. ok (x.0 ∷ xs) vs)))) (right.complete (x, true) us rest w c)
  several_complete _ _ (on x xs us vs w r) zero rest short c =
      let s : length (vs ++ rest) < length ((us ++ vs) ++ rest) = shorter (x, false) ((us ++ vs) ++ rest) us (vs ++ rest) (append_assoc us vs rest) w in
      absurd (omega (arith, s, short))
  several_complete _ _ (on x xs us vs w r) (suc n) rest short c =
      let s : length (vs ++ rest) < length ((us ++ vs) ++ rest) = shorter (x, false) ((us ++ vs) ++ rest) us (vs ++ rest) (append_assoc us vs rest) w in
      let s' : length (vs ++ rest) ≤ n = omega (arith, s, short) in
      let first : item ((us ++ vs) ++ rest) ≡ ok (x, false) (vs ++ rest) = ap item (append_assoc us vs rest) ∙ right.complete (x, false) us (vs ++ rest) w (next xs vs rest r) in
      let others : several item n (vs ++ rest) ≡ ok xs rest = several_complete xs vs r n rest s' c in
      ap (λ r. and_then r (λ x us. cond x.1 (ok (x.0 ∷ []) us) (and_then (several item n us) (λ xs vs. ok (x.0 ∷ xs) vs)))) first ∙ ap (λ r. and_then r (λ xs vs. ok (x ∷ xs) vs)) others
    where
      next : (xs : List X) (vs rest : List Tok) → Run W xs vs → C false (vs ++ rest)
      next _ _ rest (last y vs w) = follow (y, true) vs rest w
      next _ _ rest (on y ys vs ws w r) = subst (C false) (sym (append_assoc vs ws rest)) (follow (y, false) vs (ws ++ rest) w)

  -- ---- refusals
  -- an item goes on to a whole run
  run_from : (x : X) (b : Bool) (us : List Tok) → W (x, b) us → (xs : List X) × (vs : List Tok) × Run W xs (us ++ vs)
  run_from x true us w = (x ∷ [], [], subst (Run W (x ∷ [])) (sym (append-nil us)) (last x us w))
  run_from x false us w = (x ∷ start_last.0 ∷ [], start_last.1, on x (start_last.0 ∷ []) us start_last.1 w (last start_last.0 start_last.1 start_last.2))

  -- refused with turns enough
  abbrev Dead : Refusal → List Tok → Type 0
  Dead e l = (m : ℕ) → length l ≤ m → Refuses e (several item m l)

  item_dead : (e : Refusal) (l : List Tok) → Refuses e (item l) → Dead e l
  item_dead e l h zero short = refused_too e (item l) (λ x us. ok (x.0 ∷ []) us) h
  item_dead e l h (suc m) short = refused_too e (item l) (λ x us. cond x.1 (ok (x.0 ∷ []) us) (and_then (several item m us) (λ xs vs. ok (x.0 ∷ xs) vs))) h

  item_stuck : (ts : List Tok) (e : Refusal) → Stuck end item W ts e → StuckAt end (Dead e) (Run W) ts e
  item_stuck ts e s =
      let r = run_from s.made.0 s.made.1 (s.front ++ s.others) s.written in
      record {
        front = s.front;
        rest = s.rest;
        split = s.split;
        place = s.place;
        others = s.others ++ r.1;
        made = r.0;
        written = subst (Run W r.0) (append_assoc s.front s.others r.1) r.2;
        dead = λ t us is vs. item_dead e (s.front ++ t ∷ vs) (s.dead t us is vs);
      }

  later_dead : (e : Refusal) (x : X) (us l : List Tok) → W (x, false) us → C false l → Dead e l → Dead e (us ++ l)
  later_dead e x us l w c d zero short =
      let s : length l < length (us ++ l) = shorter (x, false) (us ++ l) us l refl w in
      absurd (omega (arith, s, short))
  later_dead e x us l w c d (suc m) short =
      let s : length l < length (us ++ l) = shorter (x, false) (us ++ l) us l refl w in
      let s' : length l ≤ m = omega (arith, s, short) in
      subst (λ r. Refuses e (and_then r (λ x us. cond x.1 (ok (x.0 ∷ []) us) (and_then (several item m us) (λ xs vs. ok (x.0 ∷ xs) vs))))) (sym (right.complete (x, false) us l w c)) (refused_too e (several item m l) (λ xs vs. ok (x ∷ xs) vs) (d m s'))

  later_stuck : (ts : List Tok) (e : Refusal) (x : X) (us mid : List Tok) → ts ≡ us ++ mid → W (x, false) us → C false mid → StuckAt end (Dead e) (Run W) mid e → StuckAt end (Dead e) (Run W) ts e
  later_stuck ts e x us mid split w c s = record {
    front = us ++ s.front;
    rest = s.rest;
    split = after_both ts us mid s.front s.rest split s.split;
    place = s.place;
    others = s.others;
    made = x ∷ s.made;
    written = subst (Run W (x ∷ s.made)) (sym (append_assoc us s.front s.others)) (on x s.made us (s.front ++ s.others) w s.written);
    dead = λ t ws is vs. subst (Dead e) (sym (append_assoc us s.front (t ∷ vs))) (later_dead e x us (s.front ++ t ∷ vs) w (ahead_on (λ x rest. C x.1 rest) right.ahead (x, false) s.front t ws vs (subst (C false) (s.split ∙ ap (λ l. s.front ++ l) is) c)) (s.dead t ws is vs));
  }

  several_stuck : (n : ℕ) (ts : List Tok) (e : Refusal) → Refuses e (several item n ts) → StuckAt end (Dead e) (Run W) ts e
  several_stuck zero ts e h = both_refused e (item ts) (λ x us. ok (x.0 ∷ []) us) h (λ h. item_stuck ts e (right.stuck ts e h)) (λ x mid is h. never_refused e (x.0 ∷ []) mid h)
  several_stuck (suc n) ts e h = both_refused e (item ts) (λ x us. cond x.1 (ok (x.0 ∷ []) us) (and_then (several item n us) (λ xs vs. ok (x.0 ∷ xs) vs))) h (λ h. item_stuck ts e (right.stuck ts e h)) (λ x mid is h. let f = right.sound ts x mid is in go x.0 x.1 mid f.0 f.1 f.2 f.3 (λ h. several_stuck n mid e h) h)
    where
      go : (x : X) (b : Bool) (mid us : List Tok) → ts ≡ us ++ mid → W (x, b) us → C b mid → (Refuses e (several item n mid) → StuckAt end (Dead e) (Run W) mid e) → Refuses e (cond b (ok (x ∷ []) mid) (and_then (several item n mid) (λ xs vs. ok (x ∷ xs) vs))) → StuckAt end (Dead e) (Run W) ts e
      go x true mid us split w c again h = never_refused e (x ∷ []) mid h
      go x false mid us split w c again h = both_refused e (several item n mid) (λ xs vs. ok (x ∷ xs) vs) h (λ h. later_stuck ts e x us mid split w c (again h)) (λ xs vs is h. never_refused e (x ∷ xs) vs h)

  all_stuck : (ts : List Tok) (e : Refusal) → StuckAt end (Dead e) (Run W) ts e → Stuck end (λ ts. several item (length ts) ts) (Run W) ts e
  all_stuck ts e s = record { front = s.front; rest = s.rest; split = s.split; place = s.place; others = s.others; made = s.made; written = s.written; dead = λ t us is vs. s.dead t us is vs (length (s.front ++ t ∷ vs)) (omega arith) }

  pub several_right : Right end (λ ts. several item (length ts) ts) (Run W) (λ xs rest. C true rest)
  several_right = record {
    sound = λ ts xs rest h. several_sound (length ts) ts xs rest (omega arith) h;
    complete = λ xs us rest r c. several_complete xs us r (length (us ++ rest)) rest (omega arith) c;
    start = (start_last.0 ∷ [], start_last.1, last start_last.0 start_last.1 start_last.2);
    ahead = λ xs t us vs c. right.ahead (start_last.0, true) t us vs c;
    stuck = λ ts e h. all_stuck ts e (several_stuck (length ts) ts e h);
  }

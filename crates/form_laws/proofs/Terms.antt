-- Terms are read as the grammar writes them.
use Rattle.std.proofs.Common.{◌≡◌, ℕ, Bool, true, false, cond, ◌&&◌, List, [], ◌∷◌, ◌++◌, sym, refl, ap, subst}
use Rattle.token.specs.declared.Mark.{Mark}
use Rattle.token.specs.declared.Mark.TheVariants as mark
use Rattle.operators.specs.declared.Op.TheVariants as op
use Rattle.token.specs.Tokens.{Tok, Lexeme, is_mark, same_mark, is_operator}
use Rattle.token.specs.Tokens as lexeme
use Rattle.expr.specs.Trees.{Tree}
use Rattle.expr.specs.declared.Refusal.{Refusal}
use Rattle.expr.specs.Reading.{Refuses, ok, form, and_then, mark_at, name_at}
use Rattle.term.specs.Form.{TermTree, equals_at, expr_at, range_at, attribute_at, guard_at, term_at}
use Rattle.term.specs.Form as term
use Rattle.form_laws.specs.Grammar.{Writing, Expression, Window, a_window, Term, a_literal, a_call, an_attribute, a_guard}
use Rattle.form_laws.proofs.Right.{Stuck, never_refused, stuck_end, stuck_token, stuck_shift, stuck_by, ok_value, ok_rest, Reads, Right, Any, right_by, Seq, seq, seq_right, Done, done, done_right, Mapped, mapped, mapped_right, the, Token, token_right}
use Rattle.form_laws.proofs.Tokens.{mark_is, mark_self, op_is}
use Rattle.form_laws.proofs.Expressions.{AfterExpression, bare, expression_right}

pub mark_right : (m : Mark) (end : ℕ) → Right end (mark_at m end) (Token (lexeme.mark m)) Any
mark_right m end = token_right (lexeme.mark m) (is_mark m) (mark_is m) (mark_self m) end (mark_at m end) refl (λ t ts. refl)

equals_right : (end : ℕ) → Right end (equals_at end) (Token (lexeme.operator op.Equal)) Any
equals_right end = token_right (lexeme.operator op.Equal) (is_operator op.Equal) (op_is op.Equal) refl end (equals_at end) refl (λ t ts. refl)

pub data Named : ℕ × List ℕ → List Tok → Type 0 where
  named : (p : ℕ) (w : List ℕ) → Named (p, w) ((p, lexeme.name w) ∷ [])

module _ (end : ℕ) where
  name_sound : (ts : List Tok) (x : ℕ × List ℕ) (rest : List Tok) → name_at end ts ≡ ok x rest → (us : List Tok) × (ts ≡ us ++ rest) × Named x us × Unit {0}
  name_sound [] x rest h = cc
  name_sound ((p, lexeme.name w) ∷ ts) x rest h = ((p, lexeme.name w) ∷ [], ap (λ l. (p, lexeme.name w) ∷ l) (ok_rest h), subst (λ y. Named y ((p, lexeme.name w) ∷ [])) (ok_value h) (named p w), tt)
  name_sound ((p, lexeme.text w) ∷ ts) x rest h = cc
  name_sound ((p, lexeme.number n) ∷ ts) x rest h = cc
  name_sound ((p, lexeme.operator o) ∷ ts) x rest h = cc
  name_sound ((p, lexeme.mark m) ∷ ts) x rest h = cc
  name_sound ((p, lexeme.eoi) ∷ ts) x rest h = cc
  name_sound ((p, lexeme.guard) ∷ ts) x rest h = cc

  name_complete : (x : ℕ × List ℕ) (us rest : List Tok) → Named x us → Unit {0} → name_at end (us ++ rest) ≡ ok x rest
  name_complete _ _ rest (named p w) c = refl

  abbrev some_name : (x : ℕ × List ℕ) × (us : List Tok) × Named x us
  some_name = ((0, []), (0, lexeme.name []) ∷ [], named 0 [])

  name_stuck : (ts : List Tok) (e : Refusal) → Refuses e (name_at end ts) → Stuck end (name_at end) Named ts e
  name_stuck [] e h = stuck_end end (name_at end) Named e some_name refl h
  name_stuck ((p, lexeme.name w) ∷ ts) e h = never_refused e (p, w) ts h
  name_stuck ((p, lexeme.text w) ∷ ts) e h = stuck_token end (name_at end) Named e some_name (p, lexeme.text w) ts (λ vs. refl) h
  name_stuck ((p, lexeme.number n) ∷ ts) e h = stuck_token end (name_at end) Named e some_name (p, lexeme.number n) ts (λ vs. refl) h
  name_stuck ((p, lexeme.operator o) ∷ ts) e h = stuck_token end (name_at end) Named e some_name (p, lexeme.operator o) ts (λ vs. refl) h
  name_stuck ((p, lexeme.mark m) ∷ ts) e h = stuck_token end (name_at end) Named e some_name (p, lexeme.mark m) ts (λ vs. refl) h
  name_stuck ((p, lexeme.eoi) ∷ ts) e h = stuck_token end (name_at end) Named e some_name (p, lexeme.eoi) ts (λ vs. refl) h
  name_stuck ((p, lexeme.guard) ∷ ts) e h = stuck_token end (name_at end) Named e some_name (p, lexeme.guard) ts (λ vs. refl) h

  pub name_right : Right end (name_at end) Named Any
  name_right = record { start = some_name; ahead = λ x t us vs c. tt; stuck = name_stuck; sound = name_sound; complete = name_complete }

  -- a mark, and what comes then
  pub mark_then : {Y : Type 0} (m : Mark) (k : Reads Y) (V D : Writing Y) → Right end k V D → Right end (λ ts. and_then (mark_at m end ts) (λ _ ts. k ts)) (Seq (Token (lexeme.mark m)) (λ _. V)) D
  mark_then m k V D r = seq_right end (mark_at m end) (λ _ ts. k ts) (Token (lexeme.mark m)) Any (λ _. V) D (mark_right m end) (λ _. r) (λ x y vs rest w d. tt)

  before_mark : {Y : Type 0} (m : Mark) → same_mark m mark.Dot ≡ false → (V : Writing Y) (e : Tree) (y : Y) (vs rest : List Tok) → Seq (Token (lexeme.mark m)) (λ _. V) y vs → AfterExpression e (vs ++ rest)
  before_mark m other V e _ _ rest (seq _ y _ vs (the p) w) = (((ap (λ b. b && bare e) other, refl), refl), λ _. refl)

  -- an expression, a mark, and what comes then
  expression_then : {Y : Type 0} (m : Mark) → same_mark m mark.Dot ≡ false → (k : Tree → Reads Y) (V : Tree → Writing Y) → ((e : Tree) → Right end (k e) (V e) Any) → Right end (λ ts. and_then (expr_at end ts) (λ e ts. and_then (mark_at m end ts) (λ _ ts. k e ts))) (Seq Expression (λ e. Seq (Token (lexeme.mark m)) (λ _. V e))) Any
  expression_then m other k V r = seq_right end (expr_at end) (λ e ts. and_then (mark_at m end ts) (λ _ ts. k e ts)) Expression AfterExpression (λ e. Seq (Token (lexeme.mark m)) (λ _. V e)) Any (expression_right end) (λ e. mark_then m (k e) (V e) Any (r e)) (λ e y vs rest w d. before_mark m other (V e) e y vs rest w)

-- ---- windows
abbrev WindowParts : Writing (Tree × Tree)
WindowParts = Seq (Token (lexeme.mark mark.OpenSquare)) (λ _. Seq Expression (λ a. Seq (Token (lexeme.mark mark.Comma)) (λ _. Seq Expression (λ b. Seq (Token (lexeme.mark mark.CloseSquare)) (λ _. Done (a, b))))))

window_to : (x : Tree × Tree) (ts : List Tok) → WindowParts x ts → Window x ts
window_to _ _ (seq _ _ _ _ (the p) (seq a _ ts _ v (seq _ _ _ _ (the q) (seq b _ us _ w (seq _ _ _ _ (the r) done))))) = a_window p q r a b ts us v w

window_from : (x : Tree × Tree) (ts : List Tok) → Window x ts → WindowParts x ts
window_from _ _ (a_window p q r a b ts us v w) = seq tt _ _ _ (the p) (seq a _ ts _ v (seq tt _ _ _ (the q) (seq b _ us _ w (seq tt _ _ _ (the r) done))))

window_right : (end : ℕ) → Right end (range_at end) Window Any
window_right end = right_by end (range_at end) WindowParts Window Any window_to window_from (mark_then end mark.OpenSquare _ _ Any (expression_then end mark.Comma refl _ _ (λ a. expression_then end mark.CloseSquare refl _ _ (λ b. done_right end (a, b)))))

-- ---- attributes and guards, after their first token
abbrev AttributeParts : Writing TermTree
AttributeParts = Seq Named (λ n. Seq (Token (lexeme.operator op.Equal)) (λ _. Seq Expression (λ e. Seq (Token (lexeme.mark mark.CloseCurly)) (λ _. Done (term.attribute n.0 n.1 e)))))

abbrev GuardParts : Writing TermTree
GuardParts = Seq (Token (lexeme.mark mark.Open)) (λ _. Seq Expression (λ e. Seq (Token (lexeme.mark mark.Close)) (λ _. Done (term.guard e))))

attribute_right : (end : ℕ) → Right end (attribute_at end) AttributeParts Any
attribute_right end = seq_right end (name_at end) _ Named Any _ Any (name_right end) (λ n. seq_right end (equals_at end) _ (Token (lexeme.operator op.Equal)) Any _ Any (equals_right end) (λ _. expression_then end mark.CloseCurly refl (λ e ts. ok (term.attribute n.0 n.1 e) ts) _ (λ e. done_right end (term.attribute n.0 n.1 e))) (λ x y vs rest w d. tt)) (λ x y vs rest w d. tt)

guard_right : (end : ℕ) → Right end (guard_at end) GuardParts Any
guard_right end = mark_then end mark.Open _ _ Any (expression_then end mark.Close refl (λ e ts. ok (term.guard e) ts) _ (λ e. done_right end (term.guard e)))

literal_to : (p : ℕ) (bs : List ℕ) (t : TermTree) (us : List Tok) → Mapped (λ e. term.literal bs e.0 e.1) Window t us → Term t ((p, lexeme.text bs) ∷ us)
literal_to p bs _ _ (mapped e us w) = a_literal p bs e us w

call_to : (p : ℕ) (n : List ℕ) (t : TermTree) (us : List Tok) → Mapped (λ e. term.call n e.0 e.1) Window t us → Term t ((p, lexeme.name n) ∷ us)
call_to p n _ _ (mapped e us w) = a_call p n e us w

attribute_to : (p : ℕ) (t : TermTree) (us : List Tok) → AttributeParts t us → Term t ((p, lexeme.mark mark.OpenCurly) ∷ us)
attribute_to p _ _ (seq _ _ _ _ (named q a) (seq _ _ _ _ (the r) (seq e _ ts _ w (seq _ _ _ _ (the s) done)))) = an_attribute p q r s a e ts w

guard_to : (p : ℕ) (t : TermTree) (us : List Tok) → GuardParts t us → Term t ((p, lexeme.guard) ∷ us)
guard_to p _ _ (seq _ _ _ _ (the q) (seq e _ ts _ w (seq _ _ _ _ (the r) done))) = a_guard p q r e ts w

-- ---- terms
module _ (end : ℕ) where
  abbrev Found : List Tok → TermTree → List Tok → Type 0
  Found ts t rest = (us : List Tok) × (ts ≡ us ++ rest) × Term t us × Unit {0}

  -- the first token, and what comes then
  led : (V : Writing TermTree) (x : Tok) (ts : List Tok) (t : TermTree) (rest : List Tok) → ((us : List Tok) → V t us → Term t (x ∷ us)) → (us : List Tok) × (ts ≡ us ++ rest) × V t us × Unit {0} → Found (x ∷ ts) t rest
  led V x ts t rest to s = (x ∷ s.0, ap (λ l. x ∷ l) s.1, to s.0 s.2, tt)

  literal_right : (bs : List ℕ) → Right end (term.literal_at bs end) (Mapped (λ e. term.literal bs e.0 e.1) Window) Any
  literal_right bs = mapped_right end (λ e. term.literal bs e.0 e.1) (range_at end) Window (window_right end)

  call_right : (w : List ℕ) → Right end (term.call_at w end) (Mapped (λ e. term.call w e.0 e.1) Window) Any
  call_right w = mapped_right end (λ e. term.call w e.0 e.1) (range_at end) Window (window_right end)

  curly_sound : (p : ℕ) (m : Mark) (b : Bool) → same_mark m mark.OpenCurly ≡ b → (ts : List Tok) (t : TermTree) (rest : List Tok) → cond b (attribute_at end ts) (form p) ≡ ok t rest → Found ((p, lexeme.mark m) ∷ ts) t rest
  curly_sound p m false e ts t rest h = cc
  curly_sound p m true e ts t rest h = subst (λ k. Found ((p, k) ∷ ts) t rest) (sym (mark_is mark.OpenCurly (lexeme.mark m) e)) (led AttributeParts (p, lexeme.mark mark.OpenCurly) ts t rest (attribute_to p t) ((attribute_right end).sound ts t rest h))

  term_sound : (ts : List Tok) (t : TermTree) (rest : List Tok) → term_at end ts ≡ ok t rest → Found ts t rest
  term_sound [] t rest h = cc
  term_sound ((p, lexeme.name w) ∷ ts) t rest h = led (Mapped (λ e. term.call w e.0 e.1) Window) (p, lexeme.name w) ts t rest (call_to p w t) ((call_right w).sound ts t rest h)
  term_sound ((p, lexeme.text w) ∷ ts) t rest h = led (Mapped (λ e. term.literal w e.0 e.1) Window) (p, lexeme.text w) ts t rest (literal_to p w t) ((literal_right w).sound ts t rest h)
  term_sound ((p, lexeme.number n) ∷ ts) t rest h = cc
  term_sound ((p, lexeme.operator o) ∷ ts) t rest h = cc
  term_sound ((p, lexeme.mark m) ∷ ts) t rest h = curly_sound p m (same_mark m mark.OpenCurly) refl ts t rest h
  term_sound ((p, lexeme.eoi) ∷ ts) t rest h = cc
  term_sound ((p, lexeme.guard) ∷ ts) t rest h = led GuardParts (p, lexeme.guard) ts t rest (guard_to p t) ((guard_right end).sound ts t rest h)

  term_complete : (t : TermTree) (us rest : List Tok) → Term t us → Unit {0} → term_at end (us ++ rest) ≡ ok t rest
  term_complete _ _ rest (a_literal p bs e ts w) c = (literal_right bs).complete (term.literal bs e.0 e.1) ts rest (mapped e ts w) tt
  term_complete _ _ rest (a_call p n e ts w) c = (call_right n).complete (term.call n e.0 e.1) ts rest (mapped e ts w) tt
  term_complete _ _ rest (an_attribute p q r s a e ts w) c = (attribute_right end).complete (term.attribute q a e) ((q, lexeme.name a) ∷ (r, lexeme.operator op.Equal) ∷ ts ++ (s, lexeme.mark mark.CloseCurly) ∷ []) rest (seq (q, a) _ _ _ (named q a) (seq tt _ _ _ (the r) (seq e _ ts _ w (seq tt _ _ _ (the s) done)))) tt
  term_complete _ _ rest (a_guard p q r e ts w) c = (guard_right end).complete (term.guard e) ((q, lexeme.mark mark.Open) ∷ ts ++ (r, lexeme.mark mark.Close) ∷ []) rest (seq tt _ _ _ (the q) (seq e _ ts _ w (seq tt _ _ _ (the r) done))) tt

  some_term : (t : TermTree) × (us : List Tok) × Term t us
  some_term = let w = (window_right end).start in (term.call [] w.0.0 w.0.1, (0, lexeme.name []) ∷ w.1, a_call 0 [] w.0 w.1 w.2)

  led_stuck : (x : Tok) (read : Reads TermTree) (V : Writing TermTree) (e : Refusal) → ((t : TermTree) (us : List Tok) → V t us → Term t (x ∷ us)) → ((l : List Tok) → Refuses e (read l) → Refuses e (term_at end (x ∷ l))) → (ts : List Tok) → Stuck end read V ts e → Stuck end (term_at end) Term (x ∷ ts) e
  led_stuck x read V e to too ts s = stuck_shift end x (term_at end) Term ts e (stuck_by end read V (λ l. term_at end (x ∷ l)) (λ t us. Term t (x ∷ us)) (λ t. t) e to too ts s)

  curly_stuck : (p : ℕ) (m : Mark) (ts : List Tok) (e : Refusal) → Refuses e (term_at end ((p, lexeme.mark m) ∷ ts)) → Stuck end (term_at end) Term ((p, lexeme.mark m) ∷ ts) e
  curly_stuck p m ts e h = go (same_mark m mark.OpenCurly) refl
    where
      go : (b : Bool) → same_mark m mark.OpenCurly ≡ b → Stuck end (term_at end) Term ((p, lexeme.mark m) ∷ ts) e
      go true f =
          let is = mark_is mark.OpenCurly (lexeme.mark m) f in
          subst (λ k. Stuck end (term_at end) Term ((p, k) ∷ ts) e) (sym is) (led_stuck (p, lexeme.mark mark.OpenCurly) (attribute_at end) AttributeParts e (attribute_to p) (λ l h. h) ts ((attribute_right end).stuck ts e (subst (λ k. Refuses e (term_at end ((p, k) ∷ ts))) is h)))
      go false f = stuck_token end (term_at end) Term e some_term (p, lexeme.mark m) ts (λ vs. ap (λ b. cond b (attribute_at end vs) (form p)) f) h

  term_stuck : (ts : List Tok) (e : Refusal) → Refuses e (term_at end ts) → Stuck end (term_at end) Term ts e
  term_stuck [] e h = stuck_end end (term_at end) Term e some_term refl h
  term_stuck ((p, lexeme.name w) ∷ ts) e h = led_stuck (p, lexeme.name w) (term.call_at w end) (Mapped (λ e. term.call w e.0 e.1) Window) e (call_to p w) (λ l h. h) ts ((call_right w).stuck ts e h)
  term_stuck ((p, lexeme.text w) ∷ ts) e h = led_stuck (p, lexeme.text w) (term.literal_at w end) (Mapped (λ e. term.literal w e.0 e.1) Window) e (literal_to p w) (λ l h. h) ts ((literal_right w).stuck ts e h)
  term_stuck ((p, lexeme.number n) ∷ ts) e h = stuck_token end (term_at end) Term e some_term (p, lexeme.number n) ts (λ vs. refl) h
  term_stuck ((p, lexeme.operator o) ∷ ts) e h = stuck_token end (term_at end) Term e some_term (p, lexeme.operator o) ts (λ vs. refl) h
  term_stuck ((p, lexeme.mark m) ∷ ts) e h = curly_stuck p m ts e h
  term_stuck ((p, lexeme.eoi) ∷ ts) e h = stuck_token end (term_at end) Term e some_term (p, lexeme.eoi) ts (λ vs. refl) h
  term_stuck ((p, lexeme.guard) ∷ ts) e h = led_stuck (p, lexeme.guard) (guard_at end) GuardParts e (guard_to p) (λ l h. h) ts ((guard_right end).stuck ts e h)

  pub term_right : Right end (term_at end) Term Any
  term_right = record { start = some_term; ahead = λ x t us vs c. tt; stuck = term_stuck; sound = term_sound; complete = term_complete }

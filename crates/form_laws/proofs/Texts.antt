-- Alternatives, rules and texts are read as the grammar writes them.
use Rattle.std.proofs.Common.{◌≡◌, ℕ, ◌≤◌, Bool, true, false, cond, List, [], ◌∷◌, ◌++◌, length, sym, refl, ap, ◌∙◌, subst, append_assoc, append-nil, arith, length-append}
use Rattle.token.specs.declared.Mark.TheVariants as mark
use Rattle.operators.specs.declared.Op.TheVariants as op
use Rattle.token.specs.Tokens.{Tok, Lexeme, is_mark, is_operator}
use Rattle.token.specs.Tokens as lexeme
use Rattle.expr.specs.declared.Refusal.{Refusal}
use Rattle.expr.specs.Reading.{Refuses, Read, ok, form, and_then}
use Rattle.expr.specs.Reading.{name_at}
use Rattle.term.specs.Form.{TermTree, term_at}
use Rattle.rule.specs.Form.{RuleTree, several, at_stop, none_left, term_item, terms_at, branch_end, alternative_at, alternatives_at, rule_at, rules_at}
use Rattle.form_laws.specs.Grammar.{Writing, Term, a_literal, a_call, an_attribute, a_guard, Several, one, more, Parted, whole, parted, Rule, a_rule, Text}
use Rattle.form_laws.specs.Law.{FormIsGrammar, RefusalsAreFirst}
use Rattle.form_laws.proofs.Right.{Stuck, never_refused, stuck_end, stuck_token, ok_value, ok_rest, Right, Any, right_by, Seq, seq, seq_right, Done, done, done_right, Flagged, flagged, flagged_right, Told, One, the, Token, Run, last, on, several_right}
use Rattle.form_laws.proofs.Tokens.{mark_is, op_is}
use Rattle.form_laws.proofs.Terms.{Named, named, name_right, mark_then, term_right}

-- ---- several
several_to : {X : Type 0} (W : Writing X) (xs : List X) (us : List Tok) → Run (λ x us. W x.0 us) xs us → Several W xs us
several_to W _ _ (last x us w) = one x us w
several_to W _ _ (on x xs us vs w r) = more x xs us vs w (several_to W xs vs r)

several_from : {X : Type 0} (W : Writing X) (xs : List X) (us : List Tok) → Several W xs us → Run (λ x us. W x.0 us) xs us
several_from W _ _ (one x us w) = last x us w
several_from W _ _ (more x xs us vs w r) = on x xs us vs w (several_from W xs vs r)

-- ---- terms
flag_to : (x : TermTree × Bool) (us : List Tok) → Seq Term (λ t. Flagged t) x us → Term x.0 us
flag_to _ _ (seq t _ us _ w (flagged b)) = subst (Term t) (sym (append-nil us)) w

flag_from : (x : TermTree × Bool) (us : List Tok) → Term x.0 us → Seq Term (λ t. Flagged t) x us
flag_from x us w = subst (Seq Term (λ t. Flagged t) x) (append-nil us) (seq x.0 x us [] w (flagged x.1))

term_some : (t : TermTree) (us : List Tok) → Term t us → 1 ≤ length us
term_some _ _ (a_literal p bs e ts w) = omega arith
term_some _ _ (a_call p n e ts w) = omega arith
term_some _ _ (an_attribute p q r s a e ts w) = omega arith
term_some _ _ (a_guard p q r e ts w) = omega arith

term_goes_on : (t : TermTree) (us rest : List Tok) → Term t us → at_stop (us ++ rest) ≡ false
term_goes_on _ _ rest (a_literal p bs e ts w) = refl
term_goes_on _ _ rest (a_call p n e ts w) = refl
term_goes_on _ _ rest (an_attribute p q r s a e ts w) = refl
term_goes_on _ _ rest (a_guard p q r e ts w) = refl

module _ (end : ℕ) where
  term_item_right : Right end (term_item end) (λ x us. Term x.0 us) (Told at_stop)
  term_item_right = right_by end (term_item end) (Seq Term (λ t. Flagged t)) (λ x us. Term x.0 us) (Told at_stop) flag_to flag_from (seq_right end (term_at end) (λ t us. ok (t, at_stop us) us) Term Any (λ t. Flagged t) (Told at_stop) (term_right end) (λ t. flagged_right end at_stop (λ t us vs. refl) t) (λ x y vs rest w d. tt))

  terms_right : Right end (terms_at end) (Several Term) (λ xs rest. at_stop rest ≡ true)
  unfolding terms_at
  terms_right = right_by end (λ ts. several (term_item end) (length ts) ts) (Run (λ x us. Term x.0 us)) (Several Term) (λ xs rest. at_stop rest ≡ true) (several_to Term) (several_from Term) (several_right end (term_item end) (λ x us. Term x.0 us) (λ b rest. at_stop rest ≡ b) term_item_right (term_right end).start (λ x us w. term_some x.0 us w) (λ x us rest w. term_goes_on x.0 us rest w))

-- ---- alternatives
-- what stands after an alternative
abbrev ending : Bool → Lexeme
ending false = lexeme.operator op.Divide
ending true = lexeme.mark mark.Semicolon

abbrev Branch : Writing Bool
Branch b ts = One (ending b) ts

module _ (end : ℕ) where
  branch_sound : (ts : List Tok) (b : Bool) (rest : List Tok) → branch_end end ts ≡ ok b rest → (us : List Tok) × (ts ≡ us ++ rest) × Branch b us × Unit {0}
  branch_sound [] b rest h = cc
  branch_sound (t ∷ ts) b rest h = go (is_operator op.Divide t.1) (is_mark mark.Semicolon t.1) refl refl h
    where
      as_read : (c : Bool) → t.1 ≡ ending c → ok c ts ≡ ok b rest → (us : List Tok) × (t ∷ ts ≡ us ++ rest) × Branch b us × Unit {0}
      as_read c e h = (t ∷ [], ap (λ l. t ∷ l) (ok_rest h), subst (λ b. One (ending b) (t ∷ [])) (ok_value h) (subst (λ k. One (ending c) ((t.0, k) ∷ [])) (sym e) (the t.0)), tt)

      go : (x y : Bool) → is_operator op.Divide t.1 ≡ x → is_mark mark.Semicolon t.1 ≡ y → cond x (ok false ts) (cond y (ok true ts) (form t.0)) ≡ ok b rest → (us : List Tok) × (t ∷ ts ≡ us ++ rest) × Branch b us × Unit {0}
      go true y e f h = as_read false (op_is op.Divide t.1 e) h
      go false true e f h = as_read true (mark_is mark.Semicolon t.1 f) h
      go false false e f h = cc

  branch_complete : (b : Bool) (us rest : List Tok) → Branch b us → Unit {0} → branch_end end (us ++ rest) ≡ ok b rest
  branch_complete true _ rest (the p) c = refl
  branch_complete false _ rest (the p) c = refl

  some_branch : (b : Bool) × (us : List Tok) × Branch b us
  some_branch = (true, (0, lexeme.mark mark.Semicolon) ∷ [], the 0)

  branch_stuck : (ts : List Tok) (e : Refusal) → Refuses e (branch_end end ts) → Stuck end (branch_end end) Branch ts e
  branch_stuck [] e h = stuck_end end (branch_end end) Branch e some_branch refl h
  branch_stuck (t ∷ ts) e h = go (is_operator op.Divide t.1) (is_mark mark.Semicolon t.1) refl refl
    where
      by : Bool → Bool → List Tok → Read Bool
      by x y vs = cond x (ok false vs) (cond y (ok true vs) (form t.0))

      go : (x y : Bool) → is_operator op.Divide t.1 ≡ x → is_mark mark.Semicolon t.1 ≡ y → Stuck end (branch_end end) Branch (t ∷ ts) e
      go true y f g = never_refused e false ts (subst (λ x. Refuses e (by x (is_mark mark.Semicolon t.1) ts)) f h)
      go false true f g = never_refused e true ts (subst (λ y. Refuses e (by false y ts)) g (subst (λ x. Refuses e (by x (is_mark mark.Semicolon t.1) ts)) f h))
      go false false f g = stuck_token end (branch_end end) Branch e some_branch t ts (λ vs. ap (λ x. by x (is_mark mark.Semicolon t.1) vs) f ∙ ap (λ y. by false y vs) g) h

  branch_right : Right end (branch_end end) Branch Any
  branch_right = record { start = some_branch; ahead = λ x t us vs c. tt; stuck = branch_stuck; sound = branch_sound; complete = branch_complete }

abbrev Alternative : Writing (List TermTree × Bool)
Alternative = Seq (Several Term) (λ a. Seq Branch (λ b. Done (a, b)))

stop_after : (a : List TermTree) (y : List TermTree × Bool) (vs rest : List Tok) → Seq Branch (λ b. Done (a, b)) y vs → at_stop (vs ++ rest) ≡ true
stop_after a _ _ rest (seq true _ _ _ (the p) done) = refl
stop_after a _ _ rest (seq false _ _ _ (the p) done) = refl

alternative_parts : (x : List TermTree × Bool) (us : List Tok) → Alternative x us → (ts : List Tok) × (p : ℕ) × Several Term x.0 ts × (us ≡ ts ++ (p, ending x.1) ∷ [])
alternative_parts _ _ (seq a _ ts _ w (seq b _ _ _ (the p) done)) = (ts, p, w, refl)

alternative_of : (a : List TermTree) (b : Bool) (ts : List Tok) (p : ℕ) → Several Term a ts → Alternative (a, b) (ts ++ (p, ending b) ∷ [])
alternative_of a b ts p w = seq a (a, b) ts ((p, ending b) ∷ []) w (seq b (a, b) ((p, ending b) ∷ []) [] (the p) done)

alternative_some : (x : List TermTree × Bool) (us : List Tok) → Alternative x us → 1 ≤ length us
alternative_some x us w =
    let i = alternative_parts x us w in
    let h : length us ≡ _ = ap length i.3 ∙ length-append i.0 ((i.1, ending x.1) ∷ []) in
    omega (arith, h)

-- alternatives up to `;`
pub data Alternatives : List (List TermTree) → List Tok → Type 0 where
  closed : (r : ℕ) (bs : List (List TermTree)) (ts : List Tok) → Parted (Several Term) bs ts → Alternatives bs (ts ++ (r, lexeme.mark mark.Semicolon) ∷ [])

-- the mark between belongs to what stands before it or to what stands after it
regroup : (ts : List Tok) (x : Tok) (us vs : List Tok) → (ts ++ x ∷ []) ++ (us ++ vs) ≡ (ts ++ x ∷ us) ++ vs
regroup ts x us vs = append_assoc ts (x ∷ []) (us ++ vs) ∙ sym (append_assoc ts (x ∷ us) vs)

one_more : (a : List TermTree) (ts : List Tok) (p : ℕ) → Several Term a ts → (bs : List (List TermTree)) (us : List Tok) → Alternatives bs us → Alternatives (a ∷ bs) ((ts ++ (p, lexeme.operator op.Divide) ∷ []) ++ us)
one_more a ts p w _ _ (closed r bs us v) = subst (Alternatives (a ∷ bs)) (sym (regroup ts (p, lexeme.operator op.Divide) us ((r, lexeme.mark mark.Semicolon) ∷ []))) (closed r (a ∷ bs) (ts ++ (p, lexeme.operator op.Divide) ∷ us) (parted a bs p ts us w v))

alternatives_to : (bs : List (List TermTree)) (us : List Tok) → Run Alternative bs us → Alternatives bs us
alternatives_to _ _ (last a us w) =
    let i = alternative_parts (a, true) us w in
    subst (Alternatives (a ∷ [])) (sym i.3) (closed i.1 (a ∷ []) i.0 (whole a i.0 i.2))
alternatives_to _ _ (on a bs us vs w r) =
    let i = alternative_parts (a, false) us w in
    subst (λ l. Alternatives (a ∷ bs) (l ++ vs)) (sym i.3) (one_more a i.0 i.1 i.2 bs vs (alternatives_to bs vs r))

parted_run : (r : ℕ) (bs : List (List TermTree)) (ts : List Tok) → Parted (Several Term) bs ts → Run Alternative bs (ts ++ (r, lexeme.mark mark.Semicolon) ∷ [])
parted_run r _ _ (whole a ts w) = last a (ts ++ (r, lexeme.mark mark.Semicolon) ∷ []) (alternative_of a true ts r w)
parted_run r _ _ (parted a bs p ts us w v) = subst (Run Alternative (a ∷ bs)) (regroup ts (p, lexeme.operator op.Divide) us ((r, lexeme.mark mark.Semicolon) ∷ [])) (on a bs (ts ++ (p, lexeme.operator op.Divide) ∷ []) (us ++ (r, lexeme.mark mark.Semicolon) ∷ []) (alternative_of a false ts p w) (parted_run r bs us v))

alternatives_from : (bs : List (List TermTree)) (us : List Tok) → Alternatives bs us → Run Alternative bs us
alternatives_from _ _ (closed r bs ts v) = parted_run r bs ts v

module _ (end : ℕ) where
  alternative_right : Right end (alternative_at end) Alternative Any
  alternative_right = seq_right end (terms_at end) (λ a us. and_then (branch_end end us) (λ last vs. ok (a, last) vs)) (Several Term) (λ xs rest. at_stop rest ≡ true) (λ a. Seq Branch (λ b. Done (a, b))) Any (terms_right end) (λ a. seq_right end (branch_end end) (λ last vs. ok (a, last) vs) Branch Any (λ b. Done (a, b)) Any (branch_right end) (λ b. done_right end (a, b)) (λ x y vs rest w d. tt)) (λ a y vs rest w d. stop_after a y vs rest w)

  alternatives_right : Right end (alternatives_at end) Alternatives Any
  unfolding alternatives_at
  alternatives_right = right_by end (λ ts. several (alternative_at end) (length ts) ts) (Run Alternative) Alternatives Any alternatives_to alternatives_from (several_right end (alternative_at end) Alternative (λ b rest. Unit {0}) alternative_right (let a = (terms_right end).start in (a.0, a.1 ++ (0, ending true) ∷ [], alternative_of a.0 true a.1 0 a.2)) alternative_some (λ x us rest w. tt))

-- ---- rules
abbrev RuleParts : Writing (RuleTree × Bool)
RuleParts = Seq Named (λ n. Seq (Token (lexeme.mark mark.Colon)) (λ _. Seq Alternatives (λ bs. Flagged (record { place = n.0; name = n.1; alternatives = bs }))))

rule_to : (x : RuleTree × Bool) (us : List Tok) → RuleParts x us → Rule x.0 us
rule_to _ _ (seq _ _ _ _ (named p w) (seq _ _ _ _ (the q) (seq _ _ _ _ (closed r bs ts v) (flagged b)))) = subst (λ l. Rule (record { place = p; name = w; alternatives = bs }) ((p, lexeme.name w) ∷ (q, lexeme.mark mark.Colon) ∷ l)) (sym (append-nil (ts ++ (r, lexeme.mark mark.Semicolon) ∷ []))) (a_rule p q r w bs ts v)

rule_as : (b : Bool) (x : RuleTree) (us : List Tok) → Rule x us → RuleParts (x, b) us
rule_as b _ _ (a_rule p q r w bs ts v) = subst (λ l. RuleParts (record { place = p; name = w; alternatives = bs }, b) ((p, lexeme.name w) ∷ (q, lexeme.mark mark.Colon) ∷ l)) (append-nil (ts ++ (r, lexeme.mark mark.Semicolon) ∷ [])) (seq (p, w) _ _ _ (named p w) (seq tt _ _ _ (the q) (seq bs _ _ _ (closed r bs ts v) (flagged b))))

rule_some : (x : RuleTree) (us : List Tok) → Rule x us → 1 ≤ length us
rule_some _ _ (a_rule p q r w bs ts v) = omega arith

rule_left : (x : RuleTree) (us rest : List Tok) → Rule x us → none_left (us ++ rest) ≡ false
rule_left _ _ rest (a_rule p q r w bs ts v) = refl

module _ (end : ℕ) where
  rule_right : Right end (rule_at end) (λ x us. Rule x.0 us) (Told none_left)
  rule_right = right_by end (rule_at end) RuleParts (λ x us. Rule x.0 us) (Told none_left) rule_to (λ x us w. rule_as x.1 x.0 us w) (seq_right end (name_at end) _ Named Any _ (Told none_left) (name_right end) (λ n. mark_then end mark.Colon _ _ (Told none_left) (seq_right end (alternatives_at end) (λ bs ts. ok (record { place = n.0; name = n.1; alternatives = bs }, none_left ts) ts) Alternatives Any (λ bs. Flagged (record { place = n.0; name = n.1; alternatives = bs })) (Told none_left) (alternatives_right end) (λ bs. flagged_right end none_left (λ t us vs. refl) (record { place = n.0; name = n.1; alternatives = bs })) (λ x y vs rest w d. tt))) (λ x y vs rest w d. tt))

  pub text_right : Right end (rules_at end) Text (λ rs rest. none_left rest ≡ true)
  unfolding rules_at
  text_right = right_by end (λ ts. several (rule_at end) (length ts) ts) (Run (λ x us. Rule x.0 us)) (Several Rule) (λ rs rest. none_left rest ≡ true) (several_to Rule) (several_from Rule) (several_right end (rule_at end) (λ x us. Rule x.0 us) (λ b rest. none_left rest ≡ b) rule_right (rule_right.start.0.0, rule_right.start.1, rule_right.start.2) (λ x us w. rule_some x.0 us w) (λ x us rest w. rule_left x.0 us rest w))

-- ---- the law
none_is : (rest : List Tok) → none_left rest ≡ true → rest ≡ []
none_is [] h = refl
none_is (t ∷ ts) h = cc

read_whole : (end : ℕ) (ts : List Tok) (rs : List RuleTree) → Text rs ts → rules_at end ts ≡ ok rs []
read_whole end ts rs w = ap (rules_at end) (sym (append-nil ts)) ∙ (text_right end).complete rs ts [] w refl

pub form_is_grammar : FormIsGrammar
form_is_grammar = record {
  written = λ end ts rest rs h.
      let s = (text_right end).sound ts rs rest h in
      let none = none_is rest s.3 in
      (subst (Text rs) (sym (s.1 ∙ ap (λ l. s.0 ++ l) none ∙ append-nil s.0)) s.2, none);
  read = read_whole;
  unique = λ ts rs qs v w. ok_value (sym (read_whole 0 ts rs v) ∙ read_whole 0 ts qs w);
}

pub refusals_are_first : RefusalsAreFirst
refusals_are_first end ts e h =
    let s = (text_right end).stuck ts e h in
    record {
      front = s.front;
      rest = s.rest;
      split = s.split;
      place = s.place;
      completed = (s.others, s.made, s.written);
      stuck = λ t us is vs rs w. never_refused e rs [] (subst (Refuses e) (read_whole end (s.front ++ t ∷ vs) rs w) (s.dead t us is vs));
    }

-- Code, run with numbers that wait, comes to the value of the expression that it stands for.
use Rattle.std.proofs.Common.{◌≡◌, ℕ, ◌+◌, ◌<◌, ◌≤◌, List, [], ◌∷◌, length, get_or, drop, Some, None, Option, sym, refl, ap, ◌∙◌}
use Rattle.std.proofs.lemmas.List.{drop_more, drop_all}
use Rattle.meaning.specs.Syntax.{Expr}
use Rattle.meaning.specs.Syntax.Expr.{number, eoi, own, of_call, start_of, end_of}
use Rattle.operators.specs.Applied.{applied}
use Rattle.meaning.specs.Values.{Progress, value, if_some}
use Rattle.operators.specs.declared.Op.{Op}
use Rattle.meaning.specs.declared.run.Start.{Start}
use Rattle.sealed.specs.declared.code.Code.{Code}
use Rattle.sealed.specs.declared.code.Code.TheVariants.{Number, Eoi, Own, OfCall, StartOf, EndOf, Apply, Bracket}
use Rattle.sealed.specs.Codes.{joined, bracketed, pending, trees, only, expr_of}
use Rattle.evaluate.specs.Pending.{operated, latest, next_value, values_left, last_value}

abbrev no_list : Option (List ℕ)
no_list = None

module _ (c : Start) (so : Progress) where
  abbrev val : Expr → Option ℕ
  val e = value c so e

  -- what the code still comes to on the numbers that wait
  unfoldable pub worth : List Code → List ℕ → Option ℕ
  worth [] vs = last_value vs
  worth (code ∷ cs) vs = if_some (next_value c so code vs) (λ v. worth cs (v ∷ values_left code vs))

  values : List Expr → Option (List ℕ)
  values [] = Some []
  values (e ∷ es) = if_some (val e) (λ v. if_some (values es) (λ vs. Some (v ∷ vs)))

  -- a part's number goes on the pile
  grows : (x : Option ℕ) (y : Option (List ℕ)) (k : List ℕ → Option ℕ)
      → if_some (if_some x (λ v. if_some y (λ vs. Some (v ∷ vs)))) k ≡ if_some y (λ vs. if_some x (λ v. k (v ∷ vs)))
  unfolding if_some
  grows None None k = refl
  grows None (Some vs) k = refl
  grows (Some v) None k = refl
  grows (Some v) (Some vs) k = refl

  -- an operator's two sides are taken off
  joins : (op : Op) (x y : Option ℕ) (z : Option (List ℕ)) (k : List ℕ → Option ℕ)
      → if_some (if_some (if_some x (λ p. if_some y (λ q. applied op p q))) (λ v. if_some z (λ vs. Some (v ∷ vs)))) k
      ≡ if_some (if_some y (λ q. if_some (if_some x (λ p. if_some z (λ vs. Some (p ∷ vs)))) (λ vs. Some (q ∷ vs)))) (λ vs. if_some (operated op vs) (λ v. k (v ∷ values_left (Apply op) vs)))
  unfolding if_some operated values_left
  joins op None None z k = refl
  joins op None (Some q) z k = refl
  joins op (Some p) None z k = refl
  joins op (Some p) (Some q) None k = none (applied op p q)
    where
      none : (o : Option ℕ) → if_some (if_some o (λ v. no_list)) k ≡ None
      none None = refl
      none (Some v) = refl
  joins op (Some p) (Some q) (Some vs) k = some (applied op p q)
    where
      some : (o : Option ℕ) → if_some (if_some o (λ v. Some (v ∷ vs))) k ≡ if_some o (λ v. k (v ∷ vs))
      some None = refl
      some (Some v) = refl

  ended : (ts : List Expr) → val (only ts) ≡ if_some (values ts) last_value
  unfolding only values value applied if_some last_value
  ended [] = refl
  ended (e ∷ []) = one (val e)
    where
      one : (o : Option ℕ) → o ≡ if_some (if_some o (λ v. Some (v ∷ []))) last_value
      one None = refl
      one (Some v) = refl
  ended (e ∷ d ∷ ts) = many (val e) (val d) (values ts)
    where
      many : (x y : Option ℕ) (z : Option (List ℕ)) → None ≡ if_some (if_some x (λ v. if_some (if_some y (λ u. if_some z (λ vs. Some (u ∷ vs)))) (λ vs. Some (v ∷ vs)))) last_value
      many None y z = refl
      many (Some v) None z = refl
      many (Some v) (Some u) None = refl
      many (Some v) (Some u) (Some vs) = refl

  step_on : (code : Code) (cs : List Code) (ts : List Expr) → if_some (values (pending code ts)) (worth cs) ≡ if_some (values ts) (worth (code ∷ cs))
  unfolding worth values next_value values_left value applied if_some operated latest
  step_on (Number n) cs ts = grows (val (number n)) (values ts) (worth cs)
  step_on Eoi cs ts = grows (val eoi) (values ts) (worth cs)
  step_on (Own k) cs ts = grows (val (own k)) (values ts) (worth cs)
  step_on (OfCall t k) cs ts = grows (val (of_call t k)) (values ts) (worth cs)
  step_on (StartOf t) cs ts = grows (val (start_of t)) (values ts) (worth cs)
  step_on (EndOf t) cs ts = grows (val (end_of t)) (values ts) (worth cs)
  step_on (Apply op) cs ts = by ts
    where
      by : (ts : List Expr) → if_some (values (joined op ts)) (worth cs) ≡ if_some (values ts) (worth (Apply op ∷ cs))
      by [] = refl
      by (b ∷ []) = one (val b)
        where
          one : (o : Option ℕ) → None ≡ if_some (if_some o (λ v. Some (v ∷ []))) (worth (Apply op ∷ cs))
          one None = refl
          one (Some v) = refl
      by (b ∷ a ∷ ts) = joins op (val a) (val b) (values ts) (worth cs)
  step_on Bracket cs ts = by ts
    where
      by : (ts : List Expr) → if_some (values (bracketed ts)) (worth cs) ≡ if_some (values ts) (worth (Bracket ∷ cs))
      by [] = refl
      by (a ∷ ts) = keeps (val a) (values ts)
        where
          keeps : (x : Option ℕ) (y : Option (List ℕ)) → if_some (if_some x (λ v. if_some y (λ vs. Some (v ∷ vs)))) (worth cs) ≡ if_some (if_some x (λ v. if_some y (λ vs. Some (v ∷ vs)))) (worth (Bracket ∷ cs))
          keeps None y = refl
          keeps (Some v) None = refl
          keeps (Some v) (Some vs) = refl

  all_on : (cs : List Code) (ts : List Expr) → val (only (trees cs ts)) ≡ if_some (values ts) (worth cs)
  unfolding trees worth
  all_on [] ts = ended ts
  all_on (code ∷ cs) ts = all_on cs (pending code ts) ∙ step_on code cs ts

  pub comes_to : (cs : List Code) → worth cs [] ≡ value c so (expr_of cs)
  unfolding expr_of values if_some
  comes_to cs = sym (all_on cs [])

  module _ (cs : List Code) (i : ℕ) (d : Code) (vs : List ℕ) (h : i < length cs) where
    opened : drop i cs ≡ get_or cs i d ∷ drop (i + 1) cs
    opened = drop_more cs i d h

    -- one code more
    pub worth_more : (v : ℕ) (us : List ℕ) → Some v ≡ next_value c so (get_or cs i d) vs → us ≡ v ∷ values_left (get_or cs i d) vs → worth (drop (i + 1) cs) us ≡ worth (drop i cs) vs
    unfolding worth if_some
    worth_more v us e q = ap (worth (drop (i + 1) cs)) q ∙ sym (ap (λ z. worth z vs) opened ∙ ap (λ o. if_some o (λ v. worth (drop (i + 1) cs) (v ∷ values_left (get_or cs i d) vs))) (sym e))

    pub worth_none : None ≡ next_value c so (get_or cs i d) vs → None ≡ worth (drop i cs) vs
    unfolding worth if_some
    worth_none e = sym (ap (λ z. worth z vs) opened ∙ ap (λ o. if_some o (λ v. worth (drop (i + 1) cs) (v ∷ values_left (get_or cs i d) vs))) (sym e))

  pub worth_end : (cs : List Code) (i : ℕ) (vs : List ℕ) → length cs ≤ i → last_value vs ≡ worth (drop i cs) vs
  unfolding worth
  worth_end cs i vs h = sym (ap (λ z. worth z vs) (drop_all i cs h))

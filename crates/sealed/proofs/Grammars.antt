-- Rules, alternatives and terms, where a sealed grammar holds them.
use Rattle.std.proofs.Common.{◌≡◌, ℕ, zero, suc, ◌*◌, ◌≤◌, List, [], ◌∷◌, map, length, get_or, unwrap_or, Some, None, vec_items, Option, sym, ap, ◌∙◌, zero-le, arith}
use Rattle.std.specs.Prelude.{option_map, slice_get}
use Rattle.std.proofs.lemmas.Option.{slice_get-map, get_or_from_slice_get, unwrap_or-slice_get}
use lib.ListN.{length-map}
use Rattle.arena.specs.Parts.{part}
use Rattle.arena.specs.declared.span.Span.{Span}
use Rattle.arena.proofs.Pieces.{part_short, part_map}
use Rattle.meaning.specs.Syntax as syntax
use Rattle.sealed.specs.Grammars.{term_in, terms_of, alternatives_of, grammar_of, terms_in}
use Rattle.sealed.specs.declared.grammar.Sealed.{Sealed}
use Rattle.sealed.specs.Grammars.{Term}

module _ {X Y : Type 0} (f : X → Y) (xs : List X) (k : ℕ) (e : Y) where
  map_some : (x : X) → slice_get xs k ≡ Some x → get_or (map f xs) k e ≡ f x
  map_some x q = get_or_from_slice_get (map f xs) k (f x) e (slice_get-map f xs k ∙ ap (option_map f) q)

  map_none : slice_get xs k ≡ None → get_or (map f xs) k e ≡ e
  map_none q = sym (unwrap_or-slice_get (map f xs) k e) ∙ ap (λ o. unwrap_or o e) (slice_get-map f xs k ∙ ap (option_map f) q)

-- what holds of each item, and of the default, holds at each place
map_each : {X Y : Type 0} (f : X → Y) (P : Y → Type 0) (xs : List X) (k : ℕ) (e : Y) → P e → ((x : X) → P (f x)) → P (get_or (map f xs) k e)
map_each f P [] k e z h = z
map_each f P (x ∷ xs) zero e z h = h x
map_each f P (x ∷ xs) (suc k) e z h = map_each f P xs k e z h

module _ (g : Sealed) where
  -- the terms of an alternative
  abbrev pub branch : Span → syntax.Alternative
  branch s = part s (terms_of g)

  pub rule_some : (n : ℕ) (s : Span) → slice_get (vec_items g.rules) n ≡ Some s → map branch (part s (vec_items g.alternatives)) ≡ get_or (grammar_of g) n []
  unfolding grammar_of
  rule_some n s e = sym (part_map branch s (vec_items g.alternatives)) ∙ sym (map_some (λ s. part s (alternatives_of g)) (vec_items g.rules) n [] s e)

  pub rule_none : (n : ℕ) → slice_get (vec_items g.rules) n ≡ None → [] ≡ get_or (grammar_of g) n []
  unfolding grammar_of
  rule_none n e = sym (map_none (λ s. part s (alternatives_of g)) (vec_items g.rules) n [] e)

  pub rules_counted : length (grammar_of g) ≡ length (vec_items g.rules)
  unfolding grammar_of
  rules_counted = length-map (vec_items g.rules) (λ s. part s (alternatives_of g))

  branch_is : (s : Span) → branch s ≡ map (term_in g) (part s (vec_items g.terms))
  branch_is s = part_map (term_in g) s (vec_items g.terms)

  module _ (n : ℕ) (spans : List Span) (is : map branch spans ≡ get_or (grammar_of g) n []) (i : ℕ) where
    alternative_is : slice_get (get_or (grammar_of g) n []) i ≡ option_map branch (slice_get spans i)
    alternative_is = ap (λ r. slice_get r i) (sym is) ∙ slice_get-map branch spans i

    pub count_none : slice_get spans i ≡ None → None ≡ option_map length (slice_get (get_or (grammar_of g) n []) i)
    count_none e = sym (ap (option_map length) (alternative_is ∙ ap (option_map branch) e))

    pub count_some : (s : Span) (k : ℕ) → slice_get spans i ≡ Some s → k ≡ length (part s (vec_items g.terms)) → Some k ≡ option_map length (slice_get (get_or (grammar_of g) n []) i)
    count_some s k e q =
        let z : length (branch s) ≡ k = ap length (branch_is s) ∙ length-map (part s (vec_items g.terms)) (term_in g) ∙ sym q in
        sym (ap (option_map length) (alternative_is ∙ ap (option_map branch) e) ∙ ap Some z)

    pub term_none : (p : ℕ) → slice_get spans i ≡ None → None ≡ slice_get (get_or (get_or (grammar_of g) n []) i []) p
    term_none p e = sym (ap (λ r. slice_get (get_or r i []) p) (sym is) ∙ ap (λ a. slice_get a p) (map_none branch spans i [] e))

    pub term_some : (s : Span) (o : Option Term) (p : ℕ) → slice_get spans i ≡ Some s → o ≡ slice_get (part s (vec_items g.terms)) p
        → option_map (term_in g) o ≡ slice_get (get_or (get_or (grammar_of g) n []) i []) p
    term_some s o p e q =
        ap (option_map (term_in g)) q ∙ sym (slice_get-map (term_in g) (part s (vec_items g.terms)) p) ∙ ap (λ a. slice_get a p) (sym (branch_is s))
        ∙ sym (ap (λ r. slice_get (get_or r i []) p) (sym is) ∙ ap (λ a. slice_get a p) (map_some branch spans i [] s e))

  short_all : (spans : List Span) → terms_in (map branch spans) ≤ length spans * 256
  unfolding terms_in
  short_all [] = zero-le
  short_all (s ∷ spans) =
      omega (arith, short_all spans, part_short (terms_of g) s, length-map (vec_items g.terms) (term_in g), g.terms.ok.0, g.few_terms)

  short_rule : (s : Span) → terms_in (part s (alternatives_of g)) ≤ 65536
  short_rule s =
      let spans = part s (vec_items g.alternatives) in
      let e : terms_in (part s (alternatives_of g)) ≡ terms_in (map branch spans) = ap terms_in (part_map branch s (vec_items g.alternatives)) in
      omega (arith, e, short_all spans, part_short (vec_items g.alternatives) s, g.alternatives.ok.0, g.few_alternatives)

  -- no rule has more terms than this
  pub few_terms : (n : ℕ) → terms_in (get_or (grammar_of g) n []) ≤ 65536
  unfolding grammar_of terms_in
  few_terms n = map_each (λ s. part s (alternatives_of g)) (λ r. terms_in r ≤ 65536) (vec_items g.rules) n [] zero-le short_rule

  -- nor more alternatives than this
  pub few_alternatives : (n : ℕ) → length (get_or (grammar_of g) n []) ≤ 96
  unfolding grammar_of
  few_alternatives n =
      map_each (λ s. part s (alternatives_of g)) (λ r. length r ≤ 96) (vec_items g.rules) n [] zero-le
      (λ s. omega (arith, part_short (alternatives_of g) s, length-map (vec_items g.alternatives) branch, g.alternatives.ok.0, g.few_alternatives))

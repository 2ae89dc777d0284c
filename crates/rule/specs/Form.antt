-- The form of alternatives, rules and texts: how they are read from the front of a list of tokens; `end` is the text's length, told where tokens are wanting.
use Rattle.std.specs.Prelude.{ℕ, zero, suc, Bool, true, false, cond, ◌||◌, List, [], ◌∷◌, length}
use Rattle.token.specs.declared.Mark.TheVariants as mark
use Rattle.operators.specs.declared.Op.TheVariants as op
use Rattle.token.specs.Tokens.{Tok, is_mark, is_operator}
use Rattle.expr.specs.Reading.{Read, ok, form, and_then}
use Rattle.expr.specs.Reading.{mark_at, name_at}
use Rattle.term.specs.Form.{TermTree, term_at}

-- a rule by name: the name with its place, and the alternatives, each one or more terms
pub record RuleTree : Type 0 where
  pub place : ℕ
  pub name : List ℕ
  pub alternatives : List (List TermTree)

-- one or more items, each of which tells whether it is the last; the number is how many there are at most, besides the first
abbrev pub several : {X : Type 0} → (List Tok → Read (X × Bool)) → ℕ → List Tok → Read (List X)
several item zero ts = and_then (item ts) (λ x us. ok (x.0 ∷ []) us)
several item (suc n) ts = and_then (item ts) (λ x us. cond x.1 (ok (x.0 ∷ []) us) (and_then (several item n us) (λ xs vs. ok (x.0 ∷ xs) vs)))

-- an alternative ends before `/` or `;`
abbrev pub at_stop : List Tok → Bool
at_stop [] = false
at_stop (t ∷ ts) = is_operator op.Divide t.1 || is_mark mark.Semicolon t.1

abbrev pub none_left : List Tok → Bool
none_left [] = true
none_left (t ∷ ts) = false

abbrev pub term_item : ℕ → List Tok → Read (TermTree × Bool)
term_item end ts = and_then (term_at end ts) (λ t us. ok (t, at_stop us) us)

-- one or more terms
unfoldable pub terms_at : ℕ → List Tok → Read (List TermTree)
terms_at end ts = several (term_item end) (length ts) ts

-- `/`, or `;` after the last alternative
abbrev pub branch_end : ℕ → List Tok → Read Bool
branch_end end [] = form end
branch_end end (t ∷ ts) = cond (is_operator op.Divide t.1) (ok false ts) (cond (is_mark mark.Semicolon t.1) (ok true ts) (form t.0))

abbrev pub alternative_at : ℕ → List Tok → Read (List TermTree × Bool)
alternative_at end ts = and_then (terms_at end ts) (λ a us. and_then (branch_end end us) (λ last vs. ok (a, last) vs))

-- alternatives parted by `/`, up to `;`
unfoldable pub alternatives_at : ℕ → List Tok → Read (List (List TermTree))
alternatives_at end ts = several (alternative_at end) (length ts) ts

-- a name, `:`, alternatives, `;`
abbrev pub rule_at : ℕ → List Tok → Read (RuleTree × Bool)
rule_at end ts = and_then (name_at end ts) (λ n ts. and_then (mark_at mark.Colon end ts) (λ _ ts. and_then (alternatives_at end ts) (λ bs ts. ok (record { place = n.0; name = n.1; alternatives = bs }, none_left ts) ts)))

-- one or more rules
unfoldable pub rules_at : ℕ → List Tok → Read (List RuleTree)
rules_at end ts = several (rule_at end) (length ts) ts

-- What the form's function has to do with the grammar.
use Rattle.std.specs.Prelude.{◌≡◌, ℕ, List, [], ◌∷◌, ◌++◌}
use Rattle.token.specs.Tokens.{Tok}
use Rattle.expr.specs.declared.Refusal.{Refusal}
use Rattle.expr.specs.declared.Refusal.TheVariants.{Form, Deep}
use Rattle.expr.specs.Reading.{ok, Refuses}
use Rattle.rule.specs.Form.{RuleTree, rules_at}
use Rattle.form_laws.specs.Grammar.{Text}

-- for all tokens, whatever length of text is told: they are read as rules, to the last token, exactly if they write them; and they write no two lists of rules
pub record FormIsGrammar : Type 0 where
  pub written : (end : ℕ) (ts rest : List Tok) (rs : List RuleTree) → rules_at end ts ≡ ok rs rest → Text rs ts × (rest ≡ [])
  pub read : (end : ℕ) (ts : List Tok) (rs : List RuleTree) → Text rs ts → rules_at end ts ≡ ok rs []
  pub unique : (ts : List Tok) (rs qs : List RuleTree) → Text rs ts → Text qs ts → rs ≡ qs

-- ---- where a refusal is told
abbrev pub place_told : Refusal → ℕ
place_told (Form p) = p
place_told (Deep p) = p

-- the place of the first token, or the text's length where there is none
abbrev pub place_of : ℕ → List Tok → ℕ
place_of end [] = end
place_of end (t ∷ ts) = t.0

-- p is where the tokens ts leave the grammar: what stands before it goes on to a text in some way, and with the token at p it does so in no way; p is the text's length where ts are only too few
pub record Leaves (end : ℕ) (ts : List Tok) (p : ℕ) : Type 0 where
  pub front : List Tok
  pub rest : List Tok
  pub split : ts ≡ front ++ rest
  pub place : p ≡ place_of end rest
  pub completed : (us : List Tok) × (rs : List RuleTree) × Text rs (front ++ us)
  pub stuck : (t : Tok) (us : List Tok) → rest ≡ t ∷ us → (vs : List Tok) (rs : List RuleTree) → Text rs (front ++ t ∷ vs) → ⊥

abbrev pub RefusalsAreFirst : Type 0
RefusalsAreFirst = (end : ℕ) (ts : List Tok) (e : Refusal) → Refuses e (rules_at end ts) → Leaves end ts (place_told e)

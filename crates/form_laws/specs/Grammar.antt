-- The grammar of texts: which tokens write which rules, a constructor for each line of the form. No reader is in sight.
use Rattle.std.specs.Prelude.{◌≡◌, ℕ, zero, suc, List, [], ◌∷◌, ◌++◌}
use Rattle.token.specs.declared.Mark.TheVariants as mark
use Rattle.operators.specs.declared.Op.{Op}
use Rattle.operators.specs.declared.Op.TheVariants as op
use Rattle.token.specs.Tokens.{Tok}
use Rattle.token.specs.Tokens as lexeme
use Rattle.expr.specs.declared.Level.{Level}
use Rattle.expr.specs.declared.Level.TheVariants as level
use Rattle.expr.specs.Trees.{Tree, number, eoi, name, field, bracketed, binary}
use Rattle.expr.specs.Reading.{level_of}
use Rattle.term.specs.Form.{TermTree}
use Rattle.term.specs.Form as term
use Rattle.rule.specs.Form.{RuleTree}

-- which tokens, with their places, write a thing
abbrev pub Writing : Type 0 → Type 1
Writing X = X → List Tok → Type 0

-- ---- expressions
-- a part, where E writes what stands in brackets
pub data Part (E : Writing Tree) : Tree → List Tok → Type 0 where
  a_number : (p n : ℕ) → Part E (number n) ((p, lexeme.number n) ∷ [])
  an_eoi : (p : ℕ) → Part E eoi ((p, lexeme.eoi) ∷ [])
  a_name : (p : ℕ) (w : List ℕ) → Part E (name w) ((p, lexeme.name w) ∷ [])
  a_field : (p q r : ℕ) (w a : List ℕ) → Part E (field w a) ((p, lexeme.name w) ∷ (q, lexeme.mark mark.Dot) ∷ (r, lexeme.name a) ∷ [])
  in_brackets : (p q : ℕ) (e : Tree) (ts : List Tok) → E e ts → Part E (bracketed e) ((p, lexeme.mark mark.Open) ∷ ts ++ (q, lexeme.mark mark.Close) ∷ [])

-- items joined by operators of a level, grouped from the left
pub data Joined (W : Writing Tree) (l : Level) : Tree → List Tok → Type 0 where
  alone : (a : Tree) (ts : List Tok) → W a ts → Joined W l a ts
  joined : (a b : Tree) (o : Op) (p : ℕ) (ts us : List Tok) → Joined W l a ts → level_of o ≡ l → W b us → Joined W l (binary o a b) (ts ++ (p, lexeme.operator o) ∷ us)

-- one, or two with a comparison between
pub data Compared (W : Writing Tree) : Tree → List Tok → Type 0 where
  plain : (a : Tree) (ts : List Tok) → W a ts → Compared W a ts
  compared : (a b : Tree) (o : Op) (p : ℕ) (ts us : List Tok) → W a ts → level_of o ≡ level.Compare → W b us → Compared W (binary o a b) (ts ++ (p, lexeme.operator o) ∷ us)

-- one sum or two, a sum joining products, a product joining parts
abbrev pub ExpressionOf : Writing Tree → Writing Tree
ExpressionOf P = Compared (Joined (Joined P level.Product) level.Sum)

abbrev pub Nothing : Writing Tree
Nothing e ts = ⊥

-- brackets nest at most `deeper` deep
abbrev pub PartIn : ℕ → Writing Tree
PartIn zero = Part Nothing
PartIn (suc d) = Part (ExpressionOf (PartIn d))

abbrev pub Expression : Writing Tree
Expression = ExpressionOf (PartIn 16)

-- ---- terms
-- `[e, e]`
pub data Window : Tree × Tree → List Tok → Type 0 where
  a_window : (p q r : ℕ) (a b : Tree) (ts us : List Tok) → Expression a ts → Expression b us → Window (a, b) ((p, lexeme.mark mark.OpenSquare) ∷ ts ++ ((q, lexeme.mark mark.Comma) ∷ us ++ (r, lexeme.mark mark.CloseSquare) ∷ []))

pub data Term : TermTree → List Tok → Type 0 where
  a_literal : (p : ℕ) (bs : List ℕ) (e : Tree × Tree) (ts : List Tok) → Window e ts → Term (term.literal bs e.0 e.1) ((p, lexeme.text bs) ∷ ts)
  a_call : (p : ℕ) (w : List ℕ) (e : Tree × Tree) (ts : List Tok) → Window e ts → Term (term.call w e.0 e.1) ((p, lexeme.name w) ∷ ts)
  an_attribute : (p q r s : ℕ) (a : List ℕ) (e : Tree) (ts : List Tok) → Expression e ts → Term (term.attribute q a e) ((p, lexeme.mark mark.OpenCurly) ∷ (q, lexeme.name a) ∷ (r, lexeme.operator op.Equal) ∷ ts ++ (s, lexeme.mark mark.CloseCurly) ∷ [])
  a_guard : (p q r : ℕ) (e : Tree) (ts : List Tok) → Expression e ts → Term (term.guard e) ((p, lexeme.guard) ∷ (q, lexeme.mark mark.Open) ∷ ts ++ (r, lexeme.mark mark.Close) ∷ [])

-- ---- alternatives, rules, texts
-- one or more things, one after another
pub data Several {X : Type 0} (W : Writing X) : List X → List Tok → Type 0 where
  one : (x : X) (ts : List Tok) → W x ts → Several W (x ∷ []) ts
  more : (x : X) (xs : List X) (ts us : List Tok) → W x ts → Several W xs us → Several W (x ∷ xs) (ts ++ us)

-- one or more things with `/` between them
pub data Parted {X : Type 0} (W : Writing X) : List X → List Tok → Type 0 where
  whole : (x : X) (ts : List Tok) → W x ts → Parted W (x ∷ []) ts
  parted : (x : X) (xs : List X) (p : ℕ) (ts us : List Tok) → W x ts → Parted W xs us → Parted W (x ∷ xs) (ts ++ (p, lexeme.operator op.Divide) ∷ us)

-- a name, `:`, alternatives of one or more terms, `;`
pub data Rule : RuleTree → List Tok → Type 0 where
  a_rule : (p q r : ℕ) (w : List ℕ) (bs : List (List TermTree)) (ts : List Tok) → Parted (Several Term) bs ts → Rule (record { place = p; name = w; alternatives = bs }) ((p, lexeme.name w) ∷ (q, lexeme.mark mark.Colon) ∷ ts ++ (r, lexeme.mark mark.Semicolon) ∷ [])

abbrev pub Text : Writing (List RuleTree)
Text = Several Rule

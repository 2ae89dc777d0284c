-- What every outcome looks like, for every grammar, readers, limits, rule and bytes.
use Rattle.std.specs.Prelude.{◌≡◌, ℕ, zero, suc, ◌+◌, ◌-◌, ◌<◌, ◌≤◌, ◌⊎◌, List, [], ◌∷◌, ◌++◌, length, get_or, slice_index_or}
use Rattle.fields.specs.Fields.{Fields}
use Rattle.meaning.specs.Syntax.{Term, Rule, Grammar}
use Rattle.meaning.specs.Syntax.Expr.{number}
use Rattle.meaning.specs.Syntax.Term.{literal, call, attribute, guard}
use Rattle.meaning.specs.Windows.{left_end}
use Rattle.meaning.specs.Meaning.{Outcome, whole, parse}
use Rattle.meaning.specs.declared.answer.Answer.{Answer}
use Rattle.meaning.specs.declared.answer.Answer.TheVariants.{Match, NoMatch, Budget, Depth, Nodes}
use Rattle.meaning.specs.declared.node.Node.{Node}
use Rattle.meaning.specs.declared.run.Limits.{Limits}
use Rattle.input.specs.declared.window.Window.{Window}

-- ---- Windows

-- a window, its ends in order, lies in another
abbrev pub Inside : Window → Window → Type 0
Inside w outer = (outer.left ≤ w.left) × (w.left ≤ w.right) × (w.right ≤ outer.right)

-- a window lies in another, if it holds anything
abbrev pub LiesIn : Window → Window → Type 0
LiesIn w outer = w.left < w.right → (outer.left ≤ w.left) × (w.right ≤ outer.right)

-- a part of a window that holds something, or the window's left end twice
abbrev pub PartOf : Window → Window → Type 0
PartOf w outer = ((outer.left ≤ w.left) × (w.left < w.right) × (w.right ≤ outer.right)) ⊎ (w ≡ left_end outer)

-- ---- Terms of a rule

-- how many terms stand in a rule before its i-th alternative
unfoldable pub terms_before : (i : ℕ) → Rule → ℕ
terms_before zero rule = 0
terms_before (suc i) [] = 0
terms_before (suc i) (a ∷ more) = length a + terms_before i more

-- a term is a call of this number
unfoldable pub IsCall : Term → ℕ → Type 0
IsCall (literal wanted a b) n = ⊥
IsCall (call m a b) n = m ≡ n
IsCall (attribute slot e) n = ⊥
IsCall (guard e) n = ⊥

-- in the i-th alternative of a rule, the rule's t-th term is a call of this number
pub record TermCalls (rule : Rule) (i t n : ℕ) : Type 0 where
  pub from : terms_before i rule ≤ t
  pub is_call : IsCall (slice_index_or (slice_index_or rule i []) (t - terms_before i rule) (guard (number 0))) n

-- ---- Nodes

module _ (grammar : Grammar) where
  abbrev pub rule_of : Node → Rule
  rule_of n = slice_index_or grammar n.number []

  -- a node by itself: its rule has the alternative that it chose, or it is a reader's; what it used is a part of its
  -- window; and it has 8 slots
  pub record Proper (n : Node) : Type 0 where
    pub chosen : ((n.number < 32) × (n.alternative < length (rule_of n))) ⊎ ((32 ≤ n.number) × (n.alternative ≡ 0))
    pub part : PartOf n.used n.window
    pub eight : length n.slots ≡ 8

  -- n was called by a node, whose number is `caller`: n's term is a call of it in the alternative that the caller chose
  pub record Called (caller : ℕ) (by n : Node) : Type 0 where
    pub parent : n.parent ≡ caller
    pub term : TermCalls (rule_of by) by.alternative n.term n.number
    pub window : Inside n.window by.window
    pub used : LiesIn n.used by.used
    pub proper : Proper n

  -- Nodes in the order of their starts. `Calls caller by before ns`: the list ns, whose first node has the number after
  -- the caller's, is what the terms of the caller's rule before this one called: for each such call its node, and right
  -- after it all nodes below it, which are its own calls. The calls stand in the order of their terms, at most one to a
  -- term.
  pub data Calls : (caller : ℕ) → (by : Node) → (before : ℕ) → List Node → Type 0 where
    none : {caller : ℕ} {by : Node} {before : ℕ} → Calls caller by before []
    one_more : {caller : ℕ} {by : Node} {before : ℕ} (earlier : List Node) (n : Node) (below : List Node) (last : ℕ)
        → Calls caller by n.term earlier
        → n.term < before
        → Called caller by n
        → Calls (suc (caller + length earlier)) n last below
        → Calls caller by before (earlier ++ n ∷ below)

  -- a match's nodes: the root, on all n bytes, and what its terms called
  pub record Rooted (rule n : ℕ) (top : Node) (below : List Node) : Type 0 where
    pub number : top.number ≡ rule
    pub parent : top.parent ≡ 0
    pub term : top.term ≡ 0
    pub window : top.window ≡ whole n
    pub proper : Proper top
    pub last : ℕ
    pub calls : Calls 0 top last below

  -- only a match has nodes
  unfoldable pub Told : (rule n : ℕ) → Answer → List Node → Type 0
  Told rule n Match [] = ⊥
  Told rule n Match (top ∷ below) = Rooted rule n top below
  Told rule n NoMatch ns = ns ≡ []
  Told rule n Budget ns = ns ≡ []
  Told rule n Depth ns = ns ≡ []
  Told rule n Nodes ns = ns ≡ []

  -- the i-th node of a match on n bytes, and its parent: the parent stands before it and has called it, unless it is the root
  pub record Placed (n i : ℕ) (x parent : Node) : Type 0 where
    pub before : ((x.parent < i) × TermCalls (rule_of parent) parent.alternative x.term x.number) ⊎ ((i ≡ 0) × (x.parent ≡ 0))
    pub inside : Inside x.window parent.window
    pub used : LiesIn x.used parent.used
    pub held : Inside x.window (whole n)
    pub proper : Proper x

  abbrev pub AllPlaced : ℕ → List Node → Type 0
  AllPlaced n ns = (d : Node) (i : ℕ) → i < length ns → Placed n i (slice_index_or ns i d) (slice_index_or ns (get_or ns i d).parent d)

  -- ---- Outcomes

  pub record Shaped (limits : Limits) (rule n : ℕ) (o : Outcome) : Type 0 where
    pub in_budget : o.starts ≤ limits.budget
    pub in_table : length o.nodes ≤ limits.nodes
    -- each node has its start
    pub started : length o.nodes ≤ o.starts
    pub reached : PartOf o.reach (whole n)
    pub told : Told rule n o.answer o.nodes
    pub placed : AllPlaced n o.nodes

abbrev pub Shape : Type 0
Shape =
    (fields : Fields) (grammar : Grammar) (limits : Limits) (rule : ℕ) (bytes : List ℕ)
    → Shaped grammar limits rule (length bytes) (parse fields grammar limits rule bytes)

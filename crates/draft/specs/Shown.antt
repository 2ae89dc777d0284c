-- The rules that the tables of a draft hold, as trees.
use Rattle.std.specs.Prelude.{ℕ, List, [], ◌∷◌, map}
use Rattle.arena.specs.Parts.{part}
use Rattle.code.specs.Pieces.{Piece}
use Rattle.code.specs.Pieces as piece
use Rattle.expr.specs.Trees.{Tree}
use Rattle.expr.specs.Trees as tree
use Rattle.term.specs.Form.{TermTree}
use Rattle.term.specs.Form as term
use Rattle.term.specs.Tables.{Tables, Entry, Head}
use Rattle.term.specs.Tables as entry
use Rattle.rule.specs.Form.{RuleTree}

-- ---- the tree of a piece of code: parts wait on a stack for their operator
abbrev pub joined : List Tree → (Tree → Tree → Tree) → List Tree
joined (r ∷ l ∷ ts) f = f l r ∷ ts
joined _ f = tree.eoi ∷ []

abbrev pub wrapped : List Tree → List Tree
wrapped [] = tree.eoi ∷ []
wrapped (t ∷ ts) = tree.bracketed t ∷ ts

abbrev pub stack_after : List Piece → List Tree → List Tree
stack_after [] ts = ts
stack_after (piece.number n ∷ ps) ts = stack_after ps (tree.number n ∷ ts)
stack_after (piece.eoi ∷ ps) ts = stack_after ps (tree.eoi ∷ ts)
stack_after (piece.name w ∷ ps) ts = stack_after ps (tree.name w ∷ ts)
stack_after (piece.field w a ∷ ps) ts = stack_after ps (tree.field w a ∷ ts)
stack_after (piece.operator o ∷ ps) ts = stack_after ps (joined ts (tree.binary o))
stack_after (piece.bracket ∷ ps) ts = stack_after ps (wrapped ts)

abbrev pub top : List Tree → Tree
top [] = tree.eoi
top (t ∷ ts) = t

unfoldable pub tree_of : List Piece → Tree
tree_of code = top (stack_after code [])

-- ---- terms, alternatives, rules
abbrev pub shown_term : List Piece → List ℕ → Entry → TermTree
shown_term code bytes (entry.literal s e) = term.literal (part s bytes) (tree_of (part e.left code)) (tree_of (part e.right code))
shown_term code bytes (entry.call w e) = term.call w (tree_of (part e.left code)) (tree_of (part e.right code))
shown_term code bytes (entry.attribute p w s) = term.attribute p w (tree_of (part s code))
shown_term code bytes (entry.guard s) = term.guard (tree_of (part s code))

abbrev pub terms_of : Tables → List TermTree
terms_of T = map (shown_term T.code T.bytes) T.terms

abbrev pub alternatives_of : Tables → List (List TermTree)
alternatives_of T = map (λ s. part s (terms_of T)) T.alternatives

abbrev pub shown_rule : List (List TermTree) → Head → RuleTree
shown_rule alternatives h = record { place = h.place; name = h.name; alternatives = part h.branches alternatives }

-- the rules, numbered as they stand
abbrev pub rules_of : Tables → List RuleTree
rules_of T = map (shown_rule (alternatives_of T)) T.rules

-- The value of an expression, and the window of a term. None is the missing value.
use Rattle.std.specs.Prelude.{ℕ, ◌+◌, ◌-◌, cond, ◌&&◌, List, Some, None, Option, ◌==◌, slice_get}
use Rattle.std.specs.List.{find}
use Rattle.input.specs.Bytes.{in_order}
use Rattle.operators.specs.Applied.{applied}
use Rattle.meaning.specs.Syntax.{Expr}
use Rattle.meaning.specs.Syntax.Expr.{number, eoi, own, of_call, start_of, end_of, binary}
use Rattle.input.specs.Windows.{size}
use Rattle.meaning.specs.declared.node.Node.{Node}
use Rattle.meaning.specs.declared.run.Start.{Start}
use Rattle.input.specs.declared.window.Window.{Window}

-- what is made of a value, if there is one
unfoldable pub if_some : {A B : Type 0} → Option A → (A → Option B) → Option B
if_some None f = None
if_some (Some a) f = f a

-- what an alternative has come to: its slots, all nodes below it in the order of their starts, and what it used
pub record Progress : Type 0 where
  pub slots : List ℕ
  pub below : List Node
  pub used : Window

-- the node of the call that is the term-th term of the rule whose node is the caller
unfoldable pub called : (caller term : ℕ) → List Node → Option Node
called caller term ns = find (λ n. n.parent == caller && n.term == term) ns

-- in a start c under way, where its alternative has come so far. A part without a value leaves the whole without one
unfoldable pub value : (c : Start) → (so : Progress) → Expr → Option ℕ
value c so (number n) = Some n
value c so eoi = Some (size c.window)
value c so (own k) = slice_get so.slots k
value c so (of_call t k) = if_some (called c.node t so.below) (λ n. slice_get n.slots k)
value c so (start_of t) = if_some (called c.node t so.below) (λ n. Some (n.used.left - c.window.left))
value c so (end_of t) = if_some (called c.node t so.below) (λ n. Some (n.used.right - c.window.left))
value c so (binary op a b) = if_some (value c so a) (λ p. if_some (value c so b) (λ q. applied op p q))

-- a term's window: both ends have a value, in order and not past EOI, and count from the rule's left end
unfoldable pub ends : (c : Start) → (so : Progress) → Expr → Expr → Option Window
ends c so a b =
    if_some (value c so a) (λ p. if_some (value c so b) (λ q.
    cond (in_order p q (size c.window)) (Some (record { left = c.window.left + p; right = c.window.left + q })) None))

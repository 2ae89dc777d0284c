-- What it means to parse a list of bytes by a grammar. The list is what stands in the root's window, and all places
-- count from that window's left end.
use Rattle.std.specs.Prelude.{ℕ, zero, suc, ◌+◌, Bool, true, false, cond, not, ◌&&◌, List, [], ◌∷◌, ◌++◌, length, replicate, Some, None, Option, ◌==◌, nat_lt, slice_index_or, slice_set}
use Rattle.fields.specs.Fields.{Fields}
use Rattle.fields.specs.declared.reading.Reading.{Reading}
use Rattle.meaning.specs.Syntax.{Term, Alternative, Grammar}
use Rattle.meaning.specs.Syntax.Term.{literal, call, attribute, guard}
use Rattle.input.specs.Windows.{size, cover}
use Rattle.meaning.specs.Windows.{left_end, bytes_in}
use Rattle.meaning.specs.Values.{Progress, value, ends}
use Rattle.meaning.specs.Runs.{Ran, Run, ◌>>=◌, ◌>>◌, ◌or_else◌, need, have}
use Rattle.meaning.specs.Runs.Ran.{succeeds, fails, stops}
use Rattle.meaning.specs.declared.answer.Answer.{Answer}
use Rattle.meaning.specs.declared.answer.Answer.TheVariants.{Match, NoMatch, Budget, Depth, Nodes}
use Rattle.meaning.specs.declared.node.Node.{Node}
use Rattle.meaning.specs.declared.run.Limits.{Limits}
use Rattle.meaning.specs.declared.run.Start.{Start}
use Rattle.meaning.specs.declared.run.State.{State}
use Rattle.input.specs.declared.window.Window.{Window}

-- ---- Reach: the smallest window over every byte read

-- the bytes of a window are read
unfoldable pub reads : Window → Run (Unit {0})
reads w s = succeeds tt (record { starts = s.starts; reach = cover s.reach w })

-- two lists are the same
unfoldable pub same : List ℕ → List ℕ → Bool
same [] [] = true
same [] (y ∷ ys) = false
same (x ∷ xs) [] = false
same (x ∷ xs) (y ∷ ys) = x == y && same xs ys

-- a literal on a window of its own length reads the window, which must equal it
unfoldable pub matches : (bytes : List ℕ) → Window → (wanted : List ℕ) → Run (Unit {0})
matches bytes w wanted = reads w >> need (same (bytes_in bytes w) wanted)

-- what field readers answer for a number on a window's bytes; a number that they do not own is refused
abbrev pub Replies : Type 0
Replies = ℕ → List ℕ → Option Reading

unfoldable pub read_of : Fields → Replies
read_of fields n w = cond (fields.owned n) (fields.reads n w) None

-- an accepting reader reads the bytes that it uses, a refusing one its whole window
unfoldable pub noted : Window → Option Reading → Run Reading
noted w None = reads w >> fails
noted w (Some v) = reads (record { left = w.left; right = w.left + v.used }) >> succeeds v

unfoldable pub field : Replies → (bytes : List ℕ) → (number : ℕ) → Window → Run Reading
field read bytes n w = noted w (read n (bytes_in bytes w))

-- ---- Stops: what the limits forbid before a start, in this order

-- the start is counted
unfoldable pub one_more : Run (Unit {0})
one_more s = succeeds tt (record { starts = suc s.starts; reach = s.reach })

-- the budget is used up; or no frame is left; or the number of the start's node is past the node table
unfoldable pub begin : Limits → (frames_left node : ℕ) → Run (Unit {0})
begin limits left node s =
    cond (s.starts == limits.budget) (stops Budget)
    (cond (left == 0) (stops Depth)
    (cond (node == limits.nodes) (stops Nodes) one_more)) s

-- ---- Nodes, slots and used windows

-- the node of a start that succeeded, and the nodes below it in the order of their starts
pub record Tree : Type 0 where
  pub top : Node
  pub below : List Node

-- every alternative begins with empty slots, no nodes, and nothing used
unfoldable pub nothing_yet : Start → Progress
nothing_yet c = record { slots = replicate 8 0; below = []; used = left_end c.window }

-- the i-th alternative has succeeded
unfoldable pub tree : Start → (i : ℕ) → Progress → Tree
tree c i so = record {
  top = record { number = c.number; alternative = i; parent = c.parent; term = c.term; window = c.window; used = so.used; slots = so.slots };
  below = so.below;
}

-- a field reader has given a value
unfoldable pub leaf : Start → Reading → Tree
leaf c v = tree c 0 (record {
  slots = slice_set (replicate 8 0) 0 v.value;
  below = [];
  used = record { left = c.window.left; right = c.window.left + v.used };
})

-- a literal used its window, a call what its node used; who used nothing adds nothing
unfoldable pub with_literal : Progress → Window → Progress
with_literal so w = record { slots = so.slots; below = so.below; used = cover so.used w }

unfoldable pub with_call : Progress → Tree → Progress
with_call so t = record { slots = so.slots; below = so.below ++ t.top ∷ t.below; used = cover so.used t.top.used }

unfoldable pub with_slot : Progress → (slot value : ℕ) → Progress
with_slot so k v = record { slots = slice_set so.slots k v; below = so.below; used = so.used }

-- what the k-th term of the rule under way begins; its node comes after those of the caller and of all that is below it
unfoldable pub nested : Start → (k : ℕ) → Progress → (number : ℕ) → Window → Start
nested c k so n w = record { number = n; parent = c.node; term = k; node = suc (c.node + length so.below); window = w }

-- ---- Rules

-- over the bytes, how a nested call is started, and the start under way
module _ (bytes : List ℕ) (start : Start → Run Tree) (c : Start) where
  -- the rule's k-th term
  unfoldable pub term : (k : ℕ) → Progress → Term → Run Progress
  term k so (literal wanted a b) = do
    w ← have (ends c so a b)
    need (size w == length wanted)
    matches bytes w wanted
    succeeds (with_literal so w)
  term k so (call n a b) = do
    w ← have (ends c so a b)
    t ← start (nested c k so n w)
    succeeds (with_call so t)
  term k so (attribute slot e) = do
    v ← have (value c so e)
    succeeds (with_slot so slot v)
  term k so (guard e) = do
    v ← have (value c so e)
    need (not (v == 0))
    succeeds so

  -- one term after the other, from the rule's k-th on
  unfoldable pub terms : (k : ℕ) → Progress → List Term → Run Progress
  terms k so [] = succeeds so
  terms k so (t ∷ ts) = do
    next ← term k so t
    terms (suc k) next ts

  -- the first alternative to succeed, from the i-th on. Terms are counted through all alternatives: its first is the rule's k-th
  unfoldable pub alternatives : (i k : ℕ) → List Alternative → Run Tree
  alternatives i k [] = fails
  alternatives i k (a ∷ more) =
      (terms k (nothing_yet c) a >>= λ so. succeeds (tree c i so))
      or_else alternatives (suc i) (k + length a) more

module _ (read : Replies) (grammar : Grammar) (limits : Limits) (bytes : List ℕ) where
  -- a start, with so many frames left: each start inside another takes one, and with none left `begin` stops.
  -- A rule that the grammar lacks has no alternatives
  unfoldable pub start : (frames_left : ℕ) → Start → Run Tree
  start zero c = begin limits zero c.node >> fails
  start (suc left) c = do
    begin limits (suc left) c.node
    cond (nat_lt c.number 32)
        (alternatives bytes (start left) c 0 0 (slice_index_or grammar c.number []))
        (field read bytes c.number c.window >>= λ v. succeeds (leaf c v))

-- ---- A parse

pub record Outcome : Type 0 where
  pub answer : Answer
  pub nodes : List Node
  pub starts : ℕ
  pub reach : Window

-- only a match has nodes
unfoldable pub outcome : Ran Tree → Outcome
outcome (succeeds t s) = record { answer = Match; nodes = t.top ∷ t.below; starts = s.starts; reach = s.reach }
outcome (fails s) = record { answer = NoMatch; nodes = []; starts = s.starts; reach = s.reach }
outcome (stops x s) = record { answer = x; nodes = []; starts = s.starts; reach = s.reach }

-- the window of a whole list of n bytes
abbrev pub whole : ℕ → Window
whole n = record { left = 0; right = n }

-- the root has node 0 and is its own parent, with term 0
unfoldable pub root : (rule n : ℕ) → Start
root rule n = record { number = rule; parent = 0; term = 0; node = 0; window = whole n }

-- no start is made, and nothing read
unfoldable pub at_first : State
at_first = record { starts = 0; reach = record { left = 0; right = 0 } }

unfoldable pub parse : Fields → Grammar → Limits → (rule : ℕ) → (bytes : List ℕ) → Outcome
parse fields grammar limits rule bytes =
    outcome (start (read_of fields) grammar limits bytes limits.frames (root rule (length bytes)) at_first)

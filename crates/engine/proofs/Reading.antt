-- A reader's answer for a window.
use Rattle.std.proofs.Common.{◌≡◌, ℕ, suc, ◌+◌, ◌<◌, ◌≤◌, List, length, set, Some, None, sym, ap, ◌∙◌, add-one, arith, le-leb}
use lib.Seq.{slice_empty}
use Rattle.std.proofs.lemmas.List.{get_or-set_same, length-set}
use Rattle.fields.specs.Fields.{Fields, read_on}
use Rattle.fields.specs.declared.reading.Reading.{Reading}
use Rattle.meaning.specs.Syntax.{Grammar}
use Rattle.input.specs.Windows.{cover}
use Rattle.meaning.specs.Windows.{bytes_in}
use Rattle.meaning.specs.Runs.{◌>>◌, ◌>>=◌, goes_on, Ran}
use Rattle.meaning.specs.Meaning.{field, noted, reads, leaf, tree}
use Rattle.meaning.specs.Runs.Ran.{succeeds, fails}
use Rattle.machine.specs.Machine.{after_field}
use Rattle.meaning.specs.declared.node.Node.{Node}
use Rattle.input.specs.declared.window.Window.{Window}
use Rattle.meaning.specs.declared.run.Start.{Start}
use Rattle.meaning.specs.declared.run.State.{State}
use Rattle.engine.specs.declared.frame.Frame.{Frame}
use Rattle.engine.specs.declared.mode.Mode.TheVariants.{Returns, GivesUp}
use Rattle.meaning.specs.Meaning.{read_of}
use Rattle.engine.specs.Blanks.{blank_node}
use Rattle.engine.specs.Configs.{tree_at, stands, Stacked, Sound, Fielded}
use Rattle.engine.proofs.Frames.{frames_kept}

module _ (f : Fields) (n : ℕ) (bs : List ℕ) (w : Window) (h : w.left ≤ w.right) (k : w.right ≤ length bs) where
  abbrev part : List ℕ
  part = bytes_in bs w

  pub same_answer : read_on f n bs w.left w.right ≡ read_of f n part
  unfolding read_of bytes_in
  same_answer = simp (le-leb w.left w.right h, le-leb w.right (length bs) k)

  module _ (s : State) (u : Window) where
    pub accepted : (v : Reading) → Some v ≡ read_on f n bs w.left w.right → u ≡ cover s.reach (record { left = w.left; right = w.left + v.used })
        → field (read_of f) bs n w s ≡ succeeds v (record { starts = s.starts; reach = u })
    unfolding field noted reads ◌>>◌ ◌>>=◌ goes_on
    accepted v e q = ap (λ o. noted w o s) (sym (e ∙ same_answer)) ∙ ap (λ z. succeeds v (record { starts = s.starts; reach = z })) (sym q)

    pub refused : None ≡ read_on f n bs w.left w.right → u ≡ cover s.reach w → field (read_of f) bs n w s ≡ fails (record { starts = s.starts; reach = u })
    unfolding field noted reads ◌>>◌ ◌>>=◌ goes_on
    refused e q = ap (λ o. noted w o s) (sym (e ∙ same_answer)) ∙ ap (λ z. fails (record { starts = s.starts; reach = z })) (sym q)

module _ (grammar : Grammar) (bytes : List ℕ) (frames : ℕ) (rs : List Frame) (nodes : List Node) (c : Start) (few : length rs ≤ frames) (stacked : Stacked grammar bytes c.node rs) where
  pub reader_gave : (v : Reading) (s : State) (r : Ran Reading) → r ≡ succeeds v s → c.node < length nodes
      → Fielded grammar bytes frames rs nodes c r (set nodes c.node (leaf c v).top) (c.node + 1) s (Returns c.node)
  unfolding Sound stands tree_at after_field leaf tree
  reader_gave v s r e h =
      let node = (leaf c v).top in
      let kept = frames_kept grammar bytes nodes c.node rs c.node node stacked (omega arith) in
      let mine = get_or-set_same nodes c.node node blank_node h in
      let none = slice_empty (suc c.node) (set nodes c.node node) in
      record {
        steps = simp (add-one c.node, kept, mine, none, e);
        sound = (omega arith, simp length-set (omega arith), few, stacked);
      }

  pub reader_refused : (count : ℕ) (s : State) (r : Ran Reading) → r ≡ fails s → c.node ≤ length nodes
      → Fielded grammar bytes frames rs nodes c r nodes count s (GivesUp c.node)
  unfolding Sound stands after_field
  reader_refused count s r e h = record { steps = simp e; sound = (h, few, stacked) }

-- A start is let through, or stops the parse.
use Rattle.std.proofs.Common.{◌≡◌, ℕ, suc, ◌+◌, ◌-◌, ◌<◌, ◌≤◌, false, eqb, List, length, ◌∙◌, add-one, arith, le-ltb, lt-ltb, eq-eqb, ne_eqb}
use Rattle.meaning.specs.Syntax.{Grammar}
use Rattle.meaning.specs.Meaning.{Replies}
use Rattle.meaning.specs.Meaning.{begin, one_more, field}
use Rattle.machine.specs.Machine.{step, step_begin, step_body}
use Rattle.meaning.specs.declared.answer.Answer.TheVariants.{Budget, Depth, Nodes}
use Rattle.meaning.specs.declared.node.Node.{Node}
use Rattle.meaning.specs.declared.run.Start.{Start}
use Rattle.meaning.specs.declared.run.State.{State}
use Rattle.meaning.specs.declared.run.Limits.{Limits}
use Rattle.engine.specs.declared.frame.Frame.{Frame}
use Rattle.engine.specs.declared.mode.Mode.{Mode}
use Rattle.engine.specs.declared.mode.Mode.TheVariants.{Begins, Tries, Stopped}
use Rattle.machine.specs.Machine.{next_step}
use Rattle.engine.specs.Configs.{stands, Sound, Fielded, Few, Moves}

module _ (read : Replies) (grammar : Grammar) (limits : Limits) (bytes : List ℕ) (rs : List Frame) (nodes : List Node) (count : ℕ) (s : State) (c : Start) where
  abbrev F : ℕ
  F = limits.frames

  abbrev Goes : List Node → ℕ → State → Mode → Type 0
  Goes nodes' count' s' m = Moves read grammar limits bytes (stands grammar F rs nodes count s (Begins c)) rs nodes' count' s' m

  pub no_budget : (k : ℕ) → s.starts ≡ limits.budget → Goes nodes k s (Stopped Budget)
  unfolding stands next_step step begin step_begin Sound
  no_budget k e = record { steps = simp (eq-eqb s.starts limits.budget e, step_begin); sound = tt }

  pub no_frame : (k : ℕ) → (s.starts ≡ limits.budget → ⊥) → F ≤ length rs → Goes nodes k s (Stopped Depth)
  unfolding stands next_step step begin step_begin Sound
  no_frame k e h =
      let z : F - length rs ≡ 0 = omega arith in
      record { steps = simp (ne_eqb s.starts limits.budget e, z); sound = tt }

  module _ (e : s.starts ≡ limits.budget → ⊥) (h : length rs < F) where
    abbrev d : ℕ
    d = F - suc (length rs)

    left : F - length rs ≡ suc d
    left = omega arith

    more : eqb (suc d) 0 ≡ false
    more = ne_eqb (suc d) 0 (λ z. omega arith)

    pub no_node : (k : ℕ) → c.node ≡ limits.nodes → Goes nodes k s (Stopped Nodes)
    unfolding stands next_step step begin step_begin Sound
    no_node k q = record { steps = simp (ne_eqb s.starts limits.budget e, left, more, eq-eqb c.node limits.nodes q); sound = tt }

    module _ (q : c.node ≡ limits.nodes → ⊥) (l : limits.nodes ≡ length nodes) (sound : Sound grammar bytes F rs nodes count (Begins c)) where
      abbrev after : State
      after = record { starts = s.starts + 1; reach = s.reach }

      pub begins_rule : (k : ℕ) → Few grammar → c.number < 32 → Goes nodes k after (Tries c 0 0)
      unfolding stands next_step step begin step_begin step_body one_more Sound
      begins_rule k few n =
          record {
            steps = simp (ne_eqb s.starts limits.budget e, left, more, ne_eqb c.node limits.nodes q, lt-ltb c.number 32 n, add-one s.starts);
            sound = (omega (arith, sound.0, sound.1, q), h, sound.3, omega (arith, few c.number), sound.4);
          }

      pub begins_reader : (nodes' : List Node) (k : ℕ) (s' : State) (m : Mode) → 32 ≤ c.number
          → Fielded grammar bytes F rs nodes c (field read bytes c.number c.window after) nodes' k s' m → Goes nodes' k s' m
      unfolding stands next_step step begin step_begin step_body one_more Sound
      begins_reader nodes' k s' m n g =
          record {
            steps = g.steps ∙ simp (ne_eqb s.starts limits.budget e, left, more, ne_eqb c.node limits.nodes q, le-ltb c.number 32 n, add-one s.starts);
            sound = g.sound;
          }

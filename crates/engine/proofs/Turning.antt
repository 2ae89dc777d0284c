-- The machine's steps, one after the other, in tables that stay the same.
use Rattle.std.proofs.Common.{◌≡◌, ℕ, ◌<◌, ◌≤◌, true, false, List, ap, ◌∙◌}
use Rattle.stack.specs.Stacks.{held}
use Rattle.meaning.specs.Syntax.{Grammar}
use Rattle.meaning.specs.declared.node.Node.{Node}
use Rattle.meaning.specs.declared.run.Limits.{Limits}
use Rattle.meaning.specs.declared.run.State.{State}
use Rattle.machine.specs.Machine.{next_means}
use Rattle.machine.specs.Machine.Next.{over}
use Rattle.machine.specs.Work.{to_do, InBudget}
use Rattle.machine.proofs.Machine.{steps_keep}
use Rattle.engine.specs.declared.frame.Frame.{Frame}
use Rattle.engine.specs.declared.mode.Mode.{Mode}
use Rattle.engine.specs.declared.mode.Mode.TheVariants.{Begins, Runs, Tries, Returns, GivesUp, Matched, Failed, Stopped}
use Rattle.engine.specs.declared.tables.Tables.{Tables}
use Rattle.engine.specs.Configs.{stands, goes_on}
use Rattle.engine.specs.Steps.{Subject, stands_at, SoundAt, Goes, Kept}
use Rattle.engine.proofs.Driving.{turn, ended}

kept_to_budget : (grammar : Grammar) (limits : Limits) (rs : List Frame) (nodes : List Node) (count : ℕ) (s : State) (m : Mode) → s.starts ≤ limits.budget → InBudget limits (stands grammar limits.frames rs nodes count s m)
unfolding stands InBudget
kept_to_budget grammar limits rs nodes count s (Begins c) h = h
kept_to_budget grammar limits rs nodes count s (Runs f) h = h
kept_to_budget grammar limits rs nodes count s (Tries c i k) h = h
kept_to_budget grammar limits rs nodes count s (Returns me) h = h
kept_to_budget grammar limits rs nodes count s (GivesUp me) h = h
kept_to_budget grammar limits rs nodes count s Matched h = tt
kept_to_budget grammar limits rs nodes count s Failed h = tt
kept_to_budget grammar limits rs nodes count s (Stopped n) h = tt

module _ (q : Subject) (t t' : Tables) (m m' : Mode) (goes : Goes q t m t' m') (then : Kept t t') where
  pub falls : goes_on m ≡ true → to_do q.grammar t'.limits (stands_at q.grammar t' m') < to_do q.grammar t.limits (stands_at q.grammar t m)
  falls g =
      rw then.limits
      (turn q.read q.grammar t.limits q.bytes (held t.stack) t.nodes.now t.count t.state m _ g (kept_to_budget q.grammar t.limits (held t.stack) t.nodes.now t.count t.state m t.in_budget) goes.steps).0

  pub sound_on : SoundAt q t' m'
  sound_on = rw then.limits goes.sound

  module _ (first : Tables) (kept : Kept first t) where
    pub means_on : next_means q.read q.grammar first.limits q.bytes (stands_at q.grammar t' m') ≡ next_means q.read q.grammar first.limits q.bytes (stands_at q.grammar t m)
    means_on =
        let s = rw kept.limits at goes.steps in
        rw (then.limits, kept.limits) (ap (next_means q.read q.grammar first.limits q.bytes) s ∙ steps_keep q.read q.grammar first.limits q.bytes _)

    pub kept_on : Kept first t'
    kept_on = record { limits = then.limits ∙ kept.limits; frames = then.frames ∙ kept.frames; nodes = then.nodes ∙ kept.nodes }

pub ended_at : (q : Subject) (first t : Tables) (m : Mode) → Kept first t → goes_on m ≡ false → stands_at q.grammar t m ≡ over (next_means q.read q.grammar first.limits q.bytes (stands_at q.grammar t m))
ended_at q first t m kept e = rw kept.limits (ended q.read q.grammar first.limits q.bytes (held t.stack) t.nodes.now t.count t.state m e)

-- Tables that stand for the same configuration.
use Rattle.std.proofs.Common.{◌≡◌, ℕ, List}
use Rattle.meaning.specs.Syntax.{Grammar}
use Rattle.meaning.specs.Meaning.{Replies}
use Rattle.meaning.specs.declared.node.Node.{Node}
use Rattle.meaning.specs.declared.run.State.{State}
use Rattle.meaning.specs.declared.run.Limits.{Limits}
use Rattle.machine.specs.Machine.{Next}
use Rattle.engine.specs.declared.frame.Frame.{Frame}
use Rattle.engine.specs.declared.mode.Mode.{Mode}
use Rattle.engine.specs.Configs.{Moves}

pub moves_as : (read : Replies) (grammar : Grammar) (limits : Limits) (bytes : List ℕ) (before : Next) (m : Mode) (rs rs' : List Frame) (ns ns' : List Node) (k k' : ℕ) (s s' : State)
    → rs' ≡ rs → ns' ≡ ns → k' ≡ k → s' ≡ s → Moves read grammar limits bytes before rs ns k s m → Moves read grammar limits bytes before rs' ns' k' s' m
moves_as read grammar limits bytes before m rs rs' ns ns' k k' s s' a b c d h = rw (a, b, c, d) h

pub moves_to : (read : Replies) (grammar : Grammar) (limits : Limits) (bytes : List ℕ) (before : Next) (m m' : Mode) (rs : List Frame) (ns : List Node) (k : ℕ) (s : State)
    → m' ≡ m → Moves read grammar limits bytes before rs ns k s m → Moves read grammar limits bytes before rs ns k s m'
moves_to read grammar limits bytes before m m' rs ns k s e h = rw e h

-- Steps of the machine, told of the tables in which a parse stands.
use Rattle.std.specs.Prelude.{◌≡◌, ℕ, ◌≤◌, List, length}
use Rattle.stack.specs.Stacks.{held}
use Rattle.input.specs.Bytes.{Shown}
use Rattle.fields.specs.Fields.{Fields}
use Rattle.meaning.specs.Syntax.{Grammar}
use Rattle.meaning.specs.Meaning.{Replies, field, read_of}
use Rattle.meaning.specs.declared.run.Start.{Start}
use Rattle.machine.specs.Machine.{Next, next_means}
use Rattle.machine.specs.Machine.Next.{over}
use Rattle.sealed.specs.Grammars.{grammar_of}
use Rattle.engine.specs.Configs.{stands, Stacked, Sound, Moves, Fielded}
use Rattle.engine.specs.declared.frame.Frame.{Frame}
use Rattle.engine.specs.declared.mode.Mode.{Mode}
use Rattle.engine.specs.declared.setting.Setting.{Setting}
use Rattle.engine.specs.declared.tables.Tables.{Tables}

-- what is parsed, and by what
pub record Subject : Type 0 where
  pub read : Replies
  pub grammar : Grammar
  pub bytes : List ℕ

-- that of a setting, by what its input shows and its readers mean
abbrev pub subject : {I R : Type 0} → (I → Shown) → (R → Fields) → Setting I R → Subject
subject shown meaning s = record { read = read_of (meaning s.readers.now); grammar = grammar_of s.grammar.now; bytes = (shown s.input.now).bytes }

-- the state of the machine that the tables stand for
abbrev pub stands_at : Grammar → Tables → Mode → Next
stands_at grammar t m = stands grammar t.limits.frames (held t.stack) t.nodes.now t.count t.state m

abbrev pub SoundAt : Subject → Tables → Mode → Type 0
SoundAt q t m = Sound q.grammar q.bytes t.limits.frames (held t.stack) t.nodes.now t.count m

-- one step of the machine leads from a mode to another
abbrev pub Goes : Subject → Tables → Mode → Tables → Mode → Type 0
Goes q t m t' m' = Moves q.read q.grammar t.limits q.bytes (stands_at q.grammar t m) (held t'.stack) t'.nodes.now t'.count t'.state m'

-- one step does, where the tables are sound at the mode
abbrev pub GoesIf : Subject → Tables → Mode → Tables → Mode → Type 0
GoesIf q t m t' m' = SoundAt q t m → Goes q t m t' m'

-- whatever the readers and the bytes are
abbrev pub GoesAnyhow : Grammar → Tables → Mode → Tables → Mode → Type 0
GoesAnyhow grammar t m t' m' =
    (read : Replies) (bytes : List ℕ) → GoesIf (record { read = read; grammar = grammar; bytes = bytes }) t m t' m'

-- all its steps lead there, and no step is left
abbrev pub Ends : Subject → Tables → Mode → Tables → Mode → Type 0
Ends q t m t' m' = stands_at q.grammar t' m' ≡ over (next_means q.read q.grammar t.limits q.bytes (stands_at q.grammar t m))

-- the limits, and the tables that were lent, stay the same
pub record Kept (old new : Tables) : Type 0 where
  pub limits : new.limits ≡ old.limits
  pub frames : new.stack.slots.ghost_name ≡ old.stack.slots.ghost_name
  pub nodes : new.nodes.ghost_name ≡ old.nodes.ghost_name

-- a start of a reader, which was let through, has come to what the reader gives
abbrev pub Answers : Subject → Tables → Start → Tables → Mode → Type 0
Answers q t c t' m =
    (frames : ℕ) (rs : List Frame) → length rs ≤ frames → Stacked q.grammar q.bytes c.node rs
    → Fielded q.grammar q.bytes frames rs t.nodes.now c (field q.read q.bytes c.number c.window t.state) t'.nodes.now t'.count t'.state m

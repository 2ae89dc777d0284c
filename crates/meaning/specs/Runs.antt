-- Runs: steps of a parse that succeed, fail, or stop the whole parse. Each hands on the state, the count of starts and
-- the reach, also where it fails. All else is part of a success alone, so that a failure leaves nothing else behind.
use Rattle.std.specs.Prelude.{Bool, true, false, Some, None, Option}
use Rattle.meaning.specs.declared.answer.Answer.{Answer}
use Rattle.meaning.specs.declared.run.State.{State}

-- what a run came to
pub data Ran (A : Type 0) : Type 0 where
  succeeds : A → State → Ran A
  fails : State → Ran A
  -- the whole parse ends with this answer
  stops : Answer → State → Ran A

abbrev pub Run : Type 0 → Type 0
Run A = State → Ran A

-- a success goes on
unfoldable pub goes_on : {A B : Type 0} → Ran A → (A → Run B) → Ran B
goes_on (succeeds a s) next = next a s
goes_on (fails s) next = fails s
goes_on (stops x s) next = stops x s

-- something else is tried after a failure
unfoldable pub instead : {A : Type 0} → Ran A → Run A → Ran A
instead (succeeds a s) other = succeeds a s
instead (fails s) other = other s
instead (stops x s) other = stops x s

-- one run after another
infixl 20 ◌>>=◌
unfoldable pub ◌>>=◌ : {A B : Type 0} → Run A → (A → Run B) → Run B
(m >>= next) s = goes_on (m s) next

infixl 20 ◌>>◌
unfoldable pub ◌>>◌ : {A B : Type 0} → Run A → Run B → Run B
m >> n = m >>= (λ _. n)

-- a run, or another one if it fails
infixr 15 ◌or_else◌
unfoldable pub ◌or_else◌ : {A : Type 0} → Run A → Run A → Run A
(m or_else n) s = instead (m s) n

-- a test that must hold
unfoldable pub need : Bool → Run (Unit {0})
need true = succeeds tt
need false = fails

-- a value that must be there
unfoldable pub have : {A : Type 0} → Option A → Run A
have None = fails
have (Some a) = succeeds a

-- Runs that make no start.
use Rattle.std.proofs.Common.{◌≡◌, ℕ, Bool, true, false, List, Some, None, Option, refl, ◌∙◌}
use Rattle.fields.specs.declared.reading.Reading.{Reading}
use Rattle.meaning.specs.Syntax.{Term}
use Rattle.meaning.specs.Syntax.Term.{literal, call, attribute, guard}
use Rattle.meaning.specs.Values.{Progress}
use Rattle.meaning.specs.Windows.{bytes_in}
use Rattle.meaning.specs.Runs.{Ran, Run, goes_on, ◌>>=◌, ◌>>◌, need, have}
use Rattle.meaning.specs.Runs.Ran.{succeeds, fails, stops}
use Rattle.meaning.specs.Meaning.{Replies, reads, matches, noted, field, term}
use Rattle.meaning.specs.declared.run.Start.{Start}
use Rattle.meaning.specs.declared.run.State.{State}
use Rattle.input.specs.declared.window.Window.{Window}

abbrev pub after : {A : Type 0} → Ran A → State
after (succeeds a s) = s
after (fails s) = s
after (stops n s) = s

pub record Still {A : Type 0} (m : Run A) : Type 0 where
  pub starts : (s : State) → (after (m s)).starts ≡ s.starts

pub gives : {A : Type 0} (a : A) → Still (succeeds a)
gives a = record { starts = λ s. refl }

pub failed : {A : Type 0} → Still {A = A} fails
failed = record { starts = λ s. refl }

on_still : {A B : Type 0} {f : A → Run B} → ((a : A) → Still (f a)) → (r : Ran A) → (after (goes_on r f)).starts ≡ (after r).starts
unfolding goes_on
on_still next (succeeds a s) = (next a).starts s
on_still next (fails s) = refl
on_still next (stops n s) = refl

pub bound : {A B : Type 0} {m : Run A} {f : A → Run B} → Still m → ((a : A) → Still (f a)) → Still (m >>= f)
unfolding ◌>>=◌
bound {m = m} first next = record { starts = λ s. on_still next (m s) ∙ first.starts s }

pub followed : {A B : Type 0} {m : Run A} {n : Run B} → Still m → Still n → Still (m >> n)
unfolding ◌>>◌
followed first second = bound first (λ _. second)

needed : (b : Bool) → Still (need b)
unfolding need
needed true = gives tt
needed false = failed

had : {A : Type 0} (o : Option A) → Still (have o)
unfolding have
had None = failed
had (Some a) = gives a

read_in : (w : Window) → Still (reads w)
unfolding reads
read_in w = record { starts = λ s. refl }

matched : (bytes : List ℕ) (w : Window) (s : List ℕ) → Still (matches bytes w s)
unfolding matches
matched bytes w s = followed (read_in w) (needed _)

note : (w : Window) (o : Option Reading) → Still (noted w o)
unfolding noted
note w None = followed (read_in w) failed
note w (Some f) = followed (read_in _) (gives f)

pub filled : (read : Replies) (bytes : List ℕ) (n : ℕ) (w : Window) → Still (field read bytes n w)
unfolding field
filled read bytes n w = note w (read n (bytes_in bytes w))

pub term_still : (bytes : List ℕ) (c : Start) (k : ℕ) (so : Progress) (t : Term) → Still (term bytes (λ _. fails) c k so t)
unfolding term
term_still bytes c k so (literal s a b) = bound (had _) (λ w. followed (needed _) (followed (matched bytes w s) (gives _)))
term_still bytes c k so (call n a b) = bound (had _) (λ w. bound failed (λ t. gives _))
term_still bytes c k so (attribute i e) = bound (had _) (λ v. gives _)
term_still bytes c k so (guard e) = bound (had _) (λ v. followed (needed _) (gives _))

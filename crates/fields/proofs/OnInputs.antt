-- What the laws of a reader say of its answers on windows of inputs.
use Rattle.std.proofs.Common.{◌≡◌, ℕ, ◌-◌, ◌≤◌, true, List, length, take, Some, sym, ◌∙◌, arith}
use Rattle.std.proofs.lemmas.Bool.Decides.{nat_tests}
use Rattle.input.specs.Bytes.{window_of}
use Rattle.input.proofs.Windows.{window_length}
use Rattle.fields.specs.Fields.{Fields, read_on}
use Rattle.fields.specs.declared.reading.Reading.{Reading}

-- a reading is one of an owned number, on a window in order and not past the end
pub read_was : (f : Fields) (n : ℕ) (bytes : List ℕ) (l r : ℕ) (v : Reading) → read_on f n bytes l r ≡ Some v →
    (f.reads n (window_of bytes l r) ≡ Some v) × (l ≤ r) × (r ≤ length bytes) × (f.owned n ≡ true)
read_was f n bytes l r v e = (grind (arith, nat_tests), grind (arith, nat_tests), grind (arith, nat_tests), grind (arith, nat_tests))

-- it uses from 1 to all of the window's bytes
pub read_within : (f : Fields) (n : ℕ) (bytes : List ℕ) (l r : ℕ) (v : Reading) → read_on f n bytes l r ≡ Some v → (1 ≤ v.used) × (v.used ≤ r - l)
read_within f n bytes l r v e =
    let w = read_was f n bytes l r v e in
    let c = f.counted n (window_of bytes l r) v w.0 in
    (c.0, omega (arith, c.1, window_length bytes l r w.1 w.2))

-- a window of equal length, of other bytes, with the same used bytes at its front gets the same answer
pub read_front : (f : Fields) (n : ℕ) (bytes : List ℕ) (l r : ℕ) (others : List ℕ) (l' r' : ℕ) (v : Reading) → read_on f n bytes l r ≡ Some v →
    l' ≤ r' → r' ≤ length others → r' - l' ≡ r - l → take v.used (window_of others l' r') ≡ take v.used (window_of bytes l r) →
    read_on f n others l' r' ≡ Some v
read_front f n bytes l r others l' r' v e h k m t =
    let w = read_was f n bytes l r v e in
    let same : length (window_of others l' r') ≡ length (window_of bytes l r) =
    window_length others l' r' h k ∙ m ∙ sym (window_length bytes l r w.1 w.2) in
    let there : f.reads n (window_of others l' r') ≡ Some v = f.front n (window_of bytes l r) (window_of others l' r') v w.0 same t in
    let own : f.owned n ≡ true = w.3 in
    grind (arith, nat_tests)

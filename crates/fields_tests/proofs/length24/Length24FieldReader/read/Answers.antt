use Rattle.std.proofs.Common.{◌≡◌, ℕ, ◌+◌, ◌-◌, ◌*◌, ◌<◌, ◌≤◌, List, [], ◌∷◌, length, get_or, take, drop, Some, ap, ◌∙◌, arith}
use Rattle.fields.proofs.Bytewise.{window_front}
use Rattle.input.specs.Bytes.{byte_at, window_of}
use Rattle.input.proofs.Windows.{window_length}
use Rattle.std.proofs.lemmas.List.{drop_more}
use Rattle.std.proofs.lemmas.Bool.Decides.{nat_tests}
use Rattle.fields_tests.specs.Lengths.{big_endian}
use Rattle.fields_tests.proofs.length24.Length24FieldReader.read.Goals as goal

byte_is : (bs : List ℕ) (p b : ℕ) → p < length bs → Some b ≡ byte_at bs p → get_or bs p 0 ≡ b
byte_is bs p b h e = grind (arith, nat_tests)

three : (bs : List ℕ) (l : ℕ) → l + 3 ≤ length bs → take 3 (drop l bs) ≡ get_or bs l 0 ∷ (get_or bs (l + 1) 0 ∷ (get_or bs (l + 2) 0 ∷ []))
three bs l h =
    let a = drop_more bs l 0 (omega arith) in
    let b = drop_more bs (l + 1) 0 (omega arith) in
    let c = drop_more bs (l + 2) 0 (omega arith) in
    let z : l + 1 + 1 ≡ l + 2 = omega arith in
    ap (take 3) (a ∙ ap (λ xs. get_or bs l 0 ∷ xs) (b ∙ ap (λ xs. get_or bs (l + 1) 0 ∷ xs) (ap (λ p. drop p bs) z ∙ c)))

-- the value of three bytes
front : (bs : List ℕ) (l r a b c : ℕ) → l ≤ r → r ≤ length bs → 3 ≤ r - l → Some a ≡ byte_at bs l → Some b ≡ byte_at bs (l + 1) → Some c ≡ byte_at bs (l + 2) →
    big_endian (take 3 (window_of bs l r)) ≡ a * 65536 + b * 256 + c
front bs l r a b c h k m p q s =
    let x : get_or bs l 0 ≡ a = byte_is bs l a (omega arith) p in
    let y : get_or bs (l + 1) 0 ≡ b = byte_is bs (l + 1) b (omega arith) q in
    let z : get_or bs (l + 2) 0 ≡ c = byte_is bs (l + 2) c (omega arith) s in
    let w : big_endian (take 3 (window_of bs l r)) ≡ get_or bs (l + 2) 0 + 256 * (get_or bs (l + 1) 0 + 256 * (get_or bs l 0 + 256 * 0)) =
    ap big_endian (window_front bs l r 3 h k m ∙ three bs l (omega arith)) in
    omega arith

pub returns : goal.returns
returns g c =
    let bs = (g.I.Input.shown c.args.input.now).bytes in
    let w = c.args.window in
    let ordered : w.left ≤ w.right = grind (arith, nat_tests) in
    let inside : w.right ≤ length bs = grind (arith, nat_tests) in
    let long : 3 ≤ w.right - w.left = grind (arith, nat_tests) in
    let n = window_length bs w.left w.right ordered inside in
    let a = c.in_ok-high.ensures in
    let b = c.in_ok-middle.ensures in
    let d = c.in_ok-low.ensures in
    let f = front bs w.left w.right c.in_ok-high.high c.in_ok-middle.middle c.in_ok-low.low ordered inside long a b d in
    let v : c.from.result * 65536 + c.from-2.result * 256 + c.from-3.result ≡ big_endian (take 3 (window_of bs w.left w.right)) = omega arith in
    grind (arith, nat_tests)

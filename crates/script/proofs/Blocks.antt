-- Lines seen so far, and the lines that are left.
use Rattle.std.proofs.Common.{◌≡◌, ℕ, suc, ◌+◌, ◌-◌, ◌<◌, Bool, true, false, cond, eqb, List, [], ◌∷◌, ◌++◌, length, take, Some, None, codes, Option, sym, refl, ap, ◌∙◌, append_assoc, append-nil, arith}
use Rattle.std.specs.Str.{bytes_eq}
use Rattle.std.proofs.lemmas.Bool.{eqb-true}
use Rattle.std.proofs.lemmas.List.{take_at, length-append}
use Rattle.script.specs.Pieces.{until, after}
use Rattle.script.specs.Blocks.{lines_of, to_first, Found, with_line, block_of}

-- the first line and the others
pub first_line : (xs : List ℕ) → 0 < length xs → lines_of xs ≡ until 0x0A xs ∷ lines_of (after 0x0A xs)
unfolding lines_of until after
first_line [] h = absurd (omega arith)
first_line (b ∷ []) h =
    elim (eqb b 0x0A) as (λ t. cond t ([] ∷ []) ((b ∷ []) ∷ []) ≡ cond t [] (b ∷ []) ∷ lines_of (cond t [] [])) [ true ↦ refl | false ↦ refl ]
first_line (b ∷ d ∷ bs) h =
    let rest : lines_of (d ∷ bs) ≡ until 0x0A (d ∷ bs) ∷ lines_of (after 0x0A (d ∷ bs)) = first_line (d ∷ bs) (omega arith) in
    elim (eqb b 0x0A) as (λ t. cond t ([] ∷ lines_of (d ∷ bs)) (to_first b (lines_of (d ∷ bs))) ≡ cond t [] (b ∷ until 0x0A (d ∷ bs)) ∷ lines_of (cond t (d ∷ bs) (after 0x0A (d ∷ bs))))
    [ true ↦ refl | false ↦ ap (to_first b) rest ]

-- a line with its end, where something follows it
line_end_by : (b : ℕ) (bs : List ℕ) (t : Bool) → eqb b 0x0A ≡ t
    → (0 < length (after 0x0A bs) → bs ≡ until 0x0A bs ++ 0x0A ∷ after 0x0A bs)
    → 0 < length (cond t bs (after 0x0A bs)) → b ∷ bs ≡ cond t [] (b ∷ until 0x0A bs) ++ 0x0A ∷ cond t bs (after 0x0A bs)
line_end_by b bs true e more h = ap (λ z. z ∷ bs) (eqb-true b 0x0A e)
line_end_by b bs false e more h = ap (λ z. b ∷ z) (more h)

line_end : (xs : List ℕ) → 0 < length (after 0x0A xs) → xs ≡ until 0x0A xs ++ 0x0A ∷ after 0x0A xs
unfolding until after
line_end [] h = absurd (omega arith)
line_end (b ∷ bs) h = line_end_by b bs (eqb b 0x0A) refl (line_end bs) h

-- some text and so many lines before what is found
abbrev pub behind : List ℕ → ℕ → Option Found → Option Found
behind text n (Some f) = Some (record { text = text ++ f.text; lines = n + f.lines; rest = f.rest })
behind text n None = None

behind_line : (text l : List ℕ) (n : ℕ) (o : Option Found) → behind (text ++ (l ++ 0x0A ∷ [])) (n + 1) o ≡ behind text n (with_line l o)
behind_line text l n (Some f) =
    let t : (text ++ (l ++ 0x0A ∷ [])) ++ f.text ≡ text ++ (l ++ 0x0A ∷ f.text) =
    append_assoc text (l ++ 0x0A ∷ []) f.text ∙ ap (λ z. text ++ z) (append_assoc l (0x0A ∷ []) f.text) in
    let k : n + 1 + f.lines ≡ n + suc f.lines = omega arith in
    ap (λ z. Some (record { text = z; lines = n + 1 + f.lines; rest = f.rest })) t
    ∙ ap (λ z. Some (record { text = text ++ (l ++ 0x0A ∷ f.text); lines = z; rest = f.rest })) k
behind_line text l n None = refl

-- what stands before the part that is left
abbrev pub before : List ℕ → List ℕ → List ℕ
before script left = take (length script - length left) script

before_is : (script front left : List ℕ) → front ++ left ≡ script → before script left ≡ front
before_is script front left e =
    let n : length script - length left ≡ length front = ap (λ z. length z - length left) (sym e) ∙ ap (λ z. z - length left) (length-append front left) ∙ omega arith in
    ap (λ z. take z script) n ∙ ap (take (length front)) (sym e) ∙ take_at front left (length front) refl

-- after n lines, none of them `end`: what is found in the script is what is found in the part that is left, behind them
pub record Going (script left : List ℕ) (n : ℕ) : Type 0 where
  pub parts : before script left ++ left ≡ script
  pub still : behind (before script left) n (block_of (lines_of left)) ≡ block_of (lines_of script)

pub begins : (script : List ℕ) → Going script script 0
begins script =
    let none : before script script ≡ [] = before_is script [] script refl in
    record {
      parts = ap (λ z. z ++ script) none;
      still = ap (λ z. behind z 0 (block_of (lines_of script))) none ∙ behind_none (block_of (lines_of script));
    }
  where
    behind_none : (o : Option Found) → behind [] 0 o ≡ o
    behind_none (Some f) = ap (λ z. Some (record { text = f.text; lines = z; rest = f.rest })) (omega arith)
    behind_none None = refl

module _ (script left : List ℕ) (n : ℕ) (h : 0 < length left) (going : Going script left n) where
  abbrev line : List ℕ
  line = until 0x0A left

  abbrev next : List ℕ
  next = after 0x0A left

  next_block : bytes_eq line (codes "end") ≡ false → block_of (lines_of left) ≡ with_line line (block_of (lines_of next))
  unfolding block_of
  next_block e = ap block_of (first_line left h) ∙ (simp e)

  goes_on_by : (rest : List ℕ) → next ≡ rest → bytes_eq line (codes "end") ≡ false → Going script rest (n + 1)
  unfolding lines_of block_of
  goes_on_by [] e off =
      let all : before script [] ≡ script = before_is script script [] (append-nil script) in
      let none : behind (before script left) n (block_of (lines_of left)) ≡ None =
      ap (behind (before script left) n) (next_block off ∙ ap (λ z. with_line line (block_of (lines_of z))) e) in
      record { parts = ap (λ z. z ++ []) all ∙ append-nil script; still = sym none ∙ going.still }
  goes_on_by (b ∷ rest) e off =
      let some : 0 < length next = omega (arith, ap length e) in
      let front : (before script left ++ (line ++ 0x0A ∷ [])) ++ (b ∷ rest) ≡ script =
      ap (λ z. (before script left ++ (line ++ 0x0A ∷ [])) ++ z) (sym e)
      ∙ append_assoc (before script left) (line ++ 0x0A ∷ []) next
      ∙ ap (λ z. before script left ++ z) (append_assoc line (0x0A ∷ []) next ∙ sym (line_end left some))
      ∙ going.parts in
      let is : before script (b ∷ rest) ≡ before script left ++ (line ++ 0x0A ∷ []) = before_is script _ (b ∷ rest) front in
      record {
        parts = ap (λ z. z ++ b ∷ rest) is ∙ front;
        still = ap (λ z. behind z (n + 1) (block_of (lines_of (b ∷ rest)))) is
            ∙ behind_line (before script left) line n (block_of (lines_of (b ∷ rest)))
            ∙ ap (λ z. behind (before script left) n (with_line line (block_of (lines_of z)))) (sym e)
            ∙ ap (behind (before script left) n) (sym (next_block off))
            ∙ going.still;
      }

  pub goes_on : bytes_eq line (codes "end") ≡ false → Going script next (n + 1)
  goes_on off = goes_on_by next refl off

  -- at the line `end`
  pub ends : (len count : ℕ) (rest : List ℕ) → len ≡ length script - length left → count ≡ n → rest ≡ next
      → bytes_eq line (codes "end") ≡ true → Some (record { text = take len script; lines = count; rest = lines_of rest }) ≡ block_of (lines_of script)
  unfolding block_of
  ends len count rest is_len is_count is_next on =
      let at : block_of (lines_of left) ≡ Some (record { text = []; lines = 0; rest = lines_of next }) = ap block_of (first_line left h) ∙ (simp on) in
      ap (λ z. Some (record { text = take z script; lines = count; rest = lines_of rest })) is_len
      ∙ ap (λ z. Some (record { text = before script left; lines = z; rest = lines_of rest })) is_count
      ∙ ap (λ z. Some (record { text = before script left; lines = n; rest = lines_of z })) is_next
      ∙ ap (λ z. Some (record { text = z; lines = n; rest = lines_of next })) (sym (append-nil (before script left)))
      ∙ ap (λ z. Some (record { text = before script left ++ []; lines = z; rest = lines_of next })) (omega arith)
      ∙ ap (behind (before script left) n) (sym at)
      ∙ going.still

-- no line was `end`
pub finishes : (script left : List ℕ) (n : ℕ) → length left ≡ 0 → Going script left n → None ≡ block_of (lines_of script)
unfolding lines_of block_of
finishes script [] n h going = going.still
finishes script (b ∷ left) n h going = absurd (omega arith)

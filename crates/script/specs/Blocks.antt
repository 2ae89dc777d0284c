-- The lines of a script, and the block of lines that a grammar text stands in.
use Rattle.std.specs.Prelude.{ℕ, suc, cond, List, [], ◌∷◌, ◌++◌, Some, None, codes, Option, ◌==◌}
use Rattle.std.specs.Str.{bytes_eq}
use Rattle.script.specs.declared.block.Block.{Block}

-- a byte before the first of some lines
abbrev pub to_first : ℕ → List (List ℕ) → List (List ℕ)
to_first b [] = (b ∷ []) ∷ []
to_first b (l ∷ ls) = (b ∷ l) ∷ ls

-- the lines of a text, without their ends; the last one may lack its end
unfoldable pub lines_of : List ℕ → List (List ℕ)
lines_of [] = []
lines_of (b ∷ bs) = cond (b == 0x0A) ([] ∷ lines_of bs) (to_first b (lines_of bs))

-- the lines before a line that is exactly `end`, as one text in which each line has its end; how many they are; the lines after it
pub record Found : Type 0 where
  pub text : List ℕ
  pub lines : ℕ
  pub rest : List (List ℕ)

abbrev pub with_line : List ℕ → Option Found → Option Found
with_line l (Some f) = Some (record { text = l ++ 0x0A ∷ f.text; lines = suc f.lines; rest = f.rest })
with_line l None = None

-- up to the first line that is exactly `end`; none where no line is
unfoldable pub block_of : List (List ℕ) → Option Found
block_of [] = None
block_of (l ∷ ls) = cond (bytes_eq l (codes "end")) (Some (record { text = []; lines = 0; rest = ls })) (with_line l (block_of ls))

-- what a block of the program tells
abbrev pub found : Option Block → Option Found
found (Some b) = Some (record { text = b.text.now; lines = b.lines; rest = lines_of b.rest.now })
found None = None

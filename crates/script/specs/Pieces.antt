-- How a text is cut into lines and words.
use Rattle.std.specs.Prelude.{ℕ, cond, List, [], ◌∷◌, ◌==◌}

-- what stands before the first separator, or all where there is none
unfoldable pub until : (separator : ℕ) → List ℕ → List ℕ
until s [] = []
until s (b ∷ bs) = cond (b == s) [] (b ∷ until s bs)

-- what comes after the first separator
unfoldable pub after : (separator : ℕ) → List ℕ → List ℕ
after s [] = []
after s (b ∷ bs) = cond (b == s) bs (after s bs)

-- without the spaces at the front
unfoldable pub trimmed : List ℕ → List ℕ
trimmed [] = []
trimmed (b ∷ bs) = cond (b == 0x20) (trimmed bs) (b ∷ bs)

-- the first word of a line, empty where there is none, and what follows it
abbrev pub word : List ℕ → List ℕ
word line = until 0x20 (trimmed line)

abbrev pub after_word : List ℕ → List ℕ
after_word line = after 0x20 (trimmed line)

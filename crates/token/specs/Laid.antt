-- Where the tokens of a text stand, told without a reader.
use Rattle.std.specs.Prelude.{◌≡◌, ℕ, ◌+◌, ◌^◌, ◌<◌, ◌≤◌, Bool, true, false, not, ◌&&◌, List, [], ◌∷◌, ◌++◌, length}
use Rattle.strings.specs.Decoding.{bytes_of}
use Rattle.token.specs.declared.Class.TheVariants as class
use Rattle.token.specs.declared.Mark.{Mark}
use Rattle.operators.specs.declared.Op.{Op}
use Rattle.token.specs.Classes.{separator, byte_class, class_of}
use Rattle.token.specs.Tokens.{Lexeme, Lexed, done, refused, cons, text, number, operator, mark, name_byte, number_byte, text_byte, word_of, value, allowed_body, width_of, lexed}

abbrev pub all : (ℕ → Bool) → List ℕ → Bool
all p [] = true
all p (b ∷ bs) = p b && all p bs

-- what follows does not go on with it
abbrev pub stops : (ℕ → Bool) → List ℕ → Bool
stops p [] = true
stops p (b ∷ bs) = not (p b)

-- a piece of a text, before the rest of it, is this token: its bytes spell the token, and the rest does not make it longer
pub data Stands : List ℕ → List ℕ → Lexeme → Type 0 where
  a_word : (b : ℕ) (w rest : List ℕ) → byte_class b ≡ class.Letter → all name_byte w ≡ true → stops name_byte rest ≡ true → length (b ∷ w) ≤ 24 → Stands (b ∷ w) rest (word_of (b ∷ w))
  a_number : (b d : ℕ) (ds rest : List ℕ) → byte_class b ≡ class.Digit d → all number_byte ds ≡ true → stops number_byte rest ≡ true → value d ds < 2 ^ 64 → Stands (b ∷ ds) rest (number (value d ds))
  a_string : (q r : ℕ) (body rest : List ℕ) → byte_class q ≡ class.Quote → all text_byte body ≡ true → text_byte r ≡ false → allowed_body body ≡ true → Stands (q ∷ body ++ r ∷ []) rest (text (bytes_of body))
  a_mark : (b : ℕ) (m : Mark) (rest : List ℕ) → byte_class b ≡ class.Mark m → Stands (b ∷ []) rest (mark m)
  an_operator : (piece rest : List ℕ) (o : Op) → class_of (piece ++ rest) ≡ class.Operator o → length piece ≡ width_of o → Stands piece rest (operator o)

-- the bytes bs, the first of them at the place `at`, are laid out so: separators and then a token, from there on again, up to the end or to where no token is
abbrev pub Laid : ℕ → List ℕ → Lexed → Type 0
Laid at bs done = all separator bs ≡ true
Laid at bs (refused p) = (gap : List ℕ) × (rest : List ℕ) × (bs ≡ gap ++ rest) × (all separator gap ≡ true) × (p ≡ at + length gap)
Laid at bs (cons t l) = (gap : List ℕ) × (piece : List ℕ) × (rest : List ℕ) × (bs ≡ gap ++ (piece ++ rest)) × (all separator gap ≡ true) × (t.0 ≡ at + length gap) × Stands piece rest t.1 × Laid (t.0 + length piece) rest l

abbrev pub TokensStand : Type 0
TokensStand = (bs : List ℕ) → Laid 0 bs (lexed 0 bs)

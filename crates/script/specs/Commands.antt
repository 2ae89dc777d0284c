-- What the lines of a script ask for.
use Rattle.std.specs.Prelude.{ℕ, Bool, false, cond, not, ◌||◌, List, [], ◌∷◌, length, Some, None, codes, Option, ◌==◌}
use Rattle.std.specs.Str.{bytes_eq}
use Rattle.script.specs.Pieces.{word, after_word}
use Rattle.script.specs.Numbers.{number_of}
use Rattle.script.specs.declared.command.Command.{Command}
use Rattle.script.specs.declared.command.Command.TheVariants as command

-- a command with its words and numbers, wherever they are kept
pub data Asked : Type 0 where
  skip : Asked
  first : Asked
  second : Asked
  bytes : (hex : List ℕ) → Asked
  file : (path : List ℕ) → Asked
  window : (left right : ℕ) → Asked
  patch : (place : ℕ) → (hex : List ℕ) → Asked
  undo : Asked
  show : (left right : ℕ) → Asked
  -- a grammar text: in the lines that follow, or byte by byte; and a new draft for it
  text : Asked
  text_hex : (hex : List ℕ) → Asked
  draft : Asked

-- what a command of the program asks for
abbrev pub asked : Command → Asked
asked command.Skip = skip
asked command.First = first
asked command.Second = second
asked (command.Bytes h) = bytes h.now
asked (command.File p) = file p.now
asked (command.Window w) = window w.left w.right
asked (command.Patch p h) = patch p h.now
asked command.Undo = undo
asked (command.Show w) = show w.left w.right
asked command.Text = text
asked (command.TextHex h) = text_hex h.now
asked command.Draft = draft

abbrev pub asks : Option Command → Option Asked
asks (Some c) = Some (asked c)
asks None = None

-- ---- the words of a line

-- the first word of a command
pub data Keyword : Type 0 where
  First Second Bytes File Window Patch Undo Show Text TextHex Draft : Keyword

-- the keyword that a word is
abbrev pub keyword_of : List ℕ → Option Keyword
keyword_of w =
    cond (bytes_eq w (codes "first")) (Some First)
    (cond (bytes_eq w (codes "second")) (Some Second)
    (cond (bytes_eq w (codes "bytes")) (Some Bytes)
    (cond (bytes_eq w (codes "file")) (Some File)
    (cond (bytes_eq w (codes "window")) (Some Window)
    (cond (bytes_eq w (codes "patch")) (Some Patch)
    (cond (bytes_eq w (codes "undo")) (Some Undo)
    (cond (bytes_eq w (codes "show")) (Some Show)
    (cond (bytes_eq w (codes "text")) (Some Text)
    (cond (bytes_eq w (codes "text-hex")) (Some TextHex)
    (cond (bytes_eq w (codes "draft")) (Some Draft) None))))))))))

-- whether no word is left
abbrev pub none_left : List ℕ → Bool
none_left rest = length (word rest) == 0

abbrev pub both : Option ℕ → Option ℕ → Option (ℕ × ℕ)
both (Some l) (Some r) = Some (l, r)
both (Some l) None = None
both None (Some r) = None
both None None = None

-- two numbers and nothing else
abbrev pub two_numbers : List ℕ → Option (ℕ × ℕ)
two_numbers rest = cond (none_left (after_word (after_word rest))) (both (number_of (word rest)) (number_of (word (after_word rest)))) None

-- ---- what a line asks for

abbrev pub with_place : List ℕ → Option ℕ → Option Asked
with_place rest (Some p) = Some (patch p rest)
with_place rest None = None

abbrev pub with_ends : (ℕ → ℕ → Asked) → Option (ℕ × ℕ) → Option Asked
with_ends f (Some e) = Some (f e.0 e.1)
with_ends f None = None

-- a keyword, by what follows it
abbrev pub given : Keyword → List ℕ → Option Asked
given First rest = cond (none_left rest) (Some first) None
given Second rest = cond (none_left rest) (Some second) None
given Bytes rest = Some (bytes rest)
given File rest = cond (none_left rest || not (none_left (after_word rest))) None (Some (file (word rest)))
given Window rest = with_ends window (two_numbers rest)
given Patch rest = with_place (after_word rest) (number_of (word rest))
given Undo rest = cond (none_left rest) (Some undo) None
given Show rest = with_ends show (two_numbers rest)
given Text rest = cond (none_left rest) (Some text) None
given TextHex rest = Some (text_hex rest)
given Draft rest = cond (none_left rest) (Some draft) None

abbrev pub given_any : Option Keyword → List ℕ → Option Asked
given_any (Some k) rest = given k rest
given_any None rest = None

-- whether a line begins with `#`
abbrev pub comment : List ℕ → Bool
comment [] = false
comment (b ∷ line) = b == 0x23

-- a comment or a blank line asks for nothing; a line that is not understood has no command
abbrev pub command_of : List ℕ → Option Asked
command_of line = cond (comment line || none_left line) (Some skip) (given_any (keyword_of (word line)) (after_word line))

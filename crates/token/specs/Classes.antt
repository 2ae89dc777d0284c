-- The classes of bytes.
use Rattle.std.specs.Prelude.{ℕ, ◌-◌, Bool, cond, ◌&&◌, ◌||◌, List, [], ◌∷◌, ◌==◌, nat_le}
use Rattle.token.specs.declared.Class.{Class}
use Rattle.token.specs.declared.Class.TheVariants as class
use Rattle.token.specs.declared.Mark.TheVariants as mark
use Rattle.operators.specs.declared.Op.TheVariants as op

abbrev pub between : ℕ → ℕ → ℕ → Bool
between low high b = nat_le low b && nat_le b high

abbrev pub separator : ℕ → Bool
separator b = b == 0x20 || b == 0x09 || b == 0x0A

abbrev pub letter : ℕ → Bool
letter b = between 0x61 0x7A b || between 0x41 0x5A b

abbrev pub digit : ℕ → Bool
digit b = between 0x30 0x39 b

abbrev pub mark_class : ℕ → Class
mark_class b =
    cond (b == 0x3A) (class.Mark mark.Colon)
    (cond (b == 0x5B) (class.Mark mark.OpenSquare)
    (cond (b == 0x5D) (class.Mark mark.CloseSquare)
    (cond (b == 0x28) (class.Mark mark.Open)
    (cond (b == 0x29) (class.Mark mark.Close)
    (cond (b == 0x7B) (class.Mark mark.OpenCurly)
    (cond (b == 0x7D) (class.Mark mark.CloseCurly)
    (cond (b == 0x2C) (class.Mark mark.Comma)
    (cond (b == 0x3B) (class.Mark mark.Semicolon)
    (cond (b == 0x2E) (class.Mark mark.Dot)
    (cond (b == 0x3D) (class.Operator op.Equal)
    (cond (b == 0x3C) (class.Operator op.Less)
    (cond (b == 0x2B) (class.Operator op.Plus)
    (cond (b == 0x2D) (class.Operator op.Minus)
    (cond (b == 0x2A) (class.Operator op.Times)
    (cond (b == 0x2F) (class.Operator op.Divide)
    (cond (b == 0x25) (class.Operator op.Remainder)
    class.Other))))))))))))))))

abbrev pub byte_class : ℕ → Class
byte_class b =
    cond (separator b) class.Space
    (cond (letter b) class.Letter
    (cond (digit b) (class.Digit (b - 0x30))
    (cond (b == 0x5F) class.Low
    (cond (b == 0x22) class.Quote
    (mark_class b)))))

-- the longest mark wins: << before <
abbrev pub class_of : List ℕ → Class
class_of [] = class.End
class_of (b ∷ []) = byte_class b
class_of (b ∷ c ∷ bs) = cond (b == 0x3C && c == 0x3C) (class.Operator op.Shift) (byte_class b)

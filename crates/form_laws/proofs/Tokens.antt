-- Marks and operators are told by their tests.
use Rattle.std.proofs.Common.{◌≡◌, ℕ, true, cond, eqb, sym, refl, ap, ◌∙◌}
use Rattle.std.proofs.lemmas.Bool.{eqb-true, eq-eqb}
use Rattle.token.specs.declared.Mark.{Mark}
use Rattle.token.specs.declared.Mark.TheVariants as mark
use Rattle.operators.specs.declared.Op.{Op}
use Rattle.operators.specs.declared.Op.TheVariants as op
use Rattle.token.specs.Tokens.{Lexeme, mark_code, same_mark, is_mark, op_code, is_operator}
use Rattle.token.specs.Tokens as lexeme

-- a mark by its code
abbrev mark_of : ℕ → Mark
mark_of n = cond (eqb n 0) mark.Colon (cond (eqb n 1) mark.OpenSquare (cond (eqb n 2) mark.CloseSquare (cond (eqb n 3) mark.Open (cond (eqb n 4) mark.Close (cond (eqb n 5) mark.OpenCurly (cond (eqb n 6) mark.CloseCurly (cond (eqb n 7) mark.Comma (cond (eqb n 8) mark.Semicolon mark.Dot))))))))

mark_back : (m : Mark) → m ≡ mark_of (mark_code m)
mark_back mark.Colon = refl
mark_back mark.OpenSquare = refl
mark_back mark.CloseSquare = refl
mark_back mark.Open = refl
mark_back mark.Close = refl
mark_back mark.OpenCurly = refl
mark_back mark.CloseCurly = refl
mark_back mark.Comma = refl
mark_back mark.Semicolon = refl
mark_back mark.Dot = refl

-- an operator by its code
abbrev op_of : ℕ → Op
op_of n = cond (eqb n 0) op.Equal (cond (eqb n 1) op.Less (cond (eqb n 2) op.Plus (cond (eqb n 3) op.Minus (cond (eqb n 4) op.Times (cond (eqb n 5) op.Divide (cond (eqb n 6) op.Remainder op.Shift))))))

op_back : (o : Op) → o ≡ op_of (op_code o)
op_back op.Equal = refl
op_back op.Less = refl
op_back op.Plus = refl
op_back op.Minus = refl
op_back op.Times = refl
op_back op.Divide = refl
op_back op.Remainder = refl
op_back op.Shift = refl

pub mark_is : (m : Mark) (k : Lexeme) → is_mark m k ≡ true → k ≡ lexeme.mark m
mark_is m (lexeme.name w) h = cc
mark_is m (lexeme.text w) h = cc
mark_is m (lexeme.number n) h = cc
mark_is m (lexeme.operator o) h = cc
mark_is m (lexeme.mark k) h = ap lexeme.mark (mark_back k ∙ ap mark_of (eqb-true (mark_code k) (mark_code m) h) ∙ sym (mark_back m))
mark_is m lexeme.eoi h = cc
mark_is m lexeme.guard h = cc

pub mark_self : (m : Mark) → is_mark m (lexeme.mark m) ≡ true
mark_self m = eq-eqb (mark_code m) (mark_code m) refl

pub op_is : (o : Op) (k : Lexeme) → is_operator o k ≡ true → k ≡ lexeme.operator o
op_is o (lexeme.name w) h = cc
op_is o (lexeme.text w) h = cc
op_is o (lexeme.number n) h = cc
op_is o (lexeme.operator q) h = ap lexeme.operator (op_back q ∙ ap op_of (eqb-true (op_code q) (op_code o) h) ∙ sym (op_back o))
op_is o (lexeme.mark m) h = cc
op_is o lexeme.eoi h = cc
op_is o lexeme.guard h = cc

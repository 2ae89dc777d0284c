-- The tokens of a text: at each place the longest one.
use Rattle.std.specs.Prelude.{◌≡◌, ℕ, zero, suc, ◌+◌, ◌-◌, ◌*◌, ◌^◌, ◌<◌, ◌≤◌, Bool, true, false, cond, ◌&&◌, List, [], ◌∷◌, ◌++◌, length, take, drop, Some, None, Ok, Err, Result, codes, Option, ◌==◌, nat_le, nat_lt}
use Rattle.std.specs.Str.{bytes_eq}
use Rattle.strings.specs.Decoding.{decode, decoded_length, bytes_of}
use Rattle.token.specs.Classes.{byte_class, class_of}
use Rattle.token.specs.declared.Class.{Class}
use Rattle.token.specs.declared.Class.TheVariants as class
use Rattle.token.specs.declared.Mark.{Mark}
use Rattle.token.specs.declared.Mark.TheVariants as mark_of
use Rattle.operators.specs.declared.Op.{Op}
use Rattle.operators.specs.declared.Op.TheVariants as op
use Rattle.token.specs.declared.Placed.{Placed}
use Rattle.token.specs.declared.scan.NoToken.{NoToken}
use Rattle.token.specs.declared.scan.State.{State}
use Rattle.token.specs.declared.scan.State.TheVariants as state
use Rattle.token.specs.declared.scan.Turn.{Turn}
use Rattle.token.specs.declared.scan.Turn.TheVariants as turn
use Rattle.token.specs.declared.Token.{Token}
use Rattle.token.specs.declared.Token.TheVariants as token

-- ---- a token: a name by its bytes, a string by the bytes that it gives
pub data Lexeme : Type 0 where
  name : List ℕ → Lexeme
  text : List ℕ → Lexeme
  number : ℕ → Lexeme
  operator : Op → Lexeme
  mark : Mark → Lexeme
  eoi : Lexeme
  guard : Lexeme

abbrev pub lexeme : Token → Lexeme
lexeme (token.Name n) = name n.now
lexeme (token.Text n) = text (bytes_of n.now)
lexeme (token.Number n) = number n
lexeme (token.Operator o) = operator o
lexeme (token.Mark m) = mark m
lexeme token.Eoi = eoi
lexeme token.Guard = guard

abbrev pub mark_code : Mark → ℕ
mark_code mark_of.Colon = 0
mark_code mark_of.OpenSquare = 1
mark_code mark_of.CloseSquare = 2
mark_code mark_of.Open = 3
mark_code mark_of.Close = 4
mark_code mark_of.OpenCurly = 5
mark_code mark_of.CloseCurly = 6
mark_code mark_of.Comma = 7
mark_code mark_of.Semicolon = 8
mark_code mark_of.Dot = 9

abbrev pub same_mark : Mark → Mark → Bool
same_mark m k = mark_code m == mark_code k

abbrev pub is_mark : Mark → Lexeme → Bool
is_mark m (mark k) = same_mark k m
is_mark m _ = false

abbrev pub op_code : Op → ℕ
op_code op.Equal = 0
op_code op.Less = 1
op_code op.Plus = 2
op_code op.Minus = 3
op_code op.Times = 4
op_code op.Divide = 5
op_code op.Remainder = 6
op_code op.Shift = 7

abbrev pub is_operator : Op → Lexeme → Bool
is_operator o (operator p) = op_code p == op_code o
is_operator o _ = false

-- a name has at most 24 bytes, and a string gives 1 to 16
abbrev pub Sized : Lexeme → Type 0
Sized (name w) = length w ≤ 24
Sized (text w) = (1 ≤ length w) × (length w ≤ 16)
Sized _ = Unit {0}

abbrev pub shown : Placed → ℕ × Lexeme
shown p = (p.place, lexeme p.token)

-- a token with its place
abbrev pub Tok : Type 0
Tok = ℕ × Lexeme

-- tokens up to the end of the text, or up to a place where there is none
pub data Lexed : Type 0 where
  done : Lexed
  refused : ℕ → Lexed
  cons : Tok → Lexed → Lexed

abbrev pub toks : Lexed → List Tok
toks done = []
toks (refused p) = []
toks (cons t l) = t ∷ toks l

abbrev pub first_bad : Lexed → Option ℕ
first_bad done = None
first_bad (refused p) = Some p
first_bad (cons t l) = first_bad l

-- ---- runs of bytes
abbrev pub front : (ℕ → Bool) → List ℕ → List ℕ
front p [] = []
front p (b ∷ bs) = cond (p b) (b ∷ front p bs) []

abbrev pub back : (ℕ → Bool) → List ℕ → List ℕ
back p [] = []
back p (b ∷ bs) = cond (p b) (back p bs) (b ∷ bs)

abbrev pub in_name : Class → Bool
in_name class.Letter = true
in_name (class.Digit d) = true
in_name class.Low = true
in_name _ = false

abbrev pub in_number : Class → Bool
in_number (class.Digit d) = true
in_number _ = false

abbrev pub in_text : Class → Bool
in_text class.End = false
in_text class.Quote = false
in_text _ = true

abbrev pub name_byte : ℕ → Bool
name_byte b = in_name (byte_class b)

abbrev pub number_byte : ℕ → Bool
number_byte b = in_number (byte_class b)

abbrev pub text_byte : ℕ → Bool
text_byte b = in_text (byte_class b)

-- ---- what the bytes of a token stand for
abbrev pub word_of : List ℕ → Lexeme
word_of w = cond (bytes_eq w (codes "EOI")) eoi (cond (bytes_eq w (codes "guard")) guard (name w))

abbrev pub digit_in : Class → ℕ
digit_in (class.Digit d) = d
digit_in _ = 0

-- decimal digits after the value v
abbrev pub value : ℕ → List ℕ → ℕ
value v [] = v
value v (b ∷ bs) = value (v * 10 + digit_in (byte_class b)) bs

abbrev pub few_bytes : Option ℕ → Bool
few_bytes (Some n) = nat_le 1 n && nat_le n 16
few_bytes None = false

abbrev pub allowed_body : List ℕ → Bool
allowed_body w = few_bytes (decoded_length (decode w))

abbrev pub width_of : Op → ℕ
width_of op.Shift = 2
width_of _ = 1

-- ---- the end of a token that began at `from` and has the bytes w, or the value v; bs stands at the place `at`, and `next` reads on from there
abbrev pub Rest : Type 0
Rest = ℕ → List ℕ → Lexed

abbrev pub name_end : Rest → ℕ → List ℕ → Rest
name_end next from w at bs = cond (nat_le (length w) 24) (cons (from, word_of w) (next at bs)) (refused from)

abbrev pub number_end : Rest → ℕ → ℕ → Rest
number_end next from v at bs = cond (nat_lt v (2 ^ 64)) (cons (from, number v) (next at bs)) (refused from)

-- a string wants its closing quote
abbrev pub text_end : Rest → ℕ → List ℕ → Rest
text_end next from w at [] = refused from
text_end next from w at (q ∷ bs) = cond (allowed_body w) (cons (from, text (bytes_of w)) (next (at + 1) bs)) (refused from)

-- ---- the longest run: all the bytes at the front of bs that pass, after the bytes w
abbrev pub run : (List ℕ → Rest) → (ℕ → Bool) → List ℕ → Rest
run end passes w at bs = end (w ++ front passes bs) (at + length (front passes bs)) (back passes bs)

abbrev pub name_from : Rest → ℕ → List ℕ → Rest
name_from next from w at bs = run (name_end next from) name_byte w at bs

abbrev pub number_from : Rest → ℕ → ℕ → Rest
number_from next from v at bs = run (λ ds. number_end next from (value v ds)) number_byte [] at bs

abbrev pub text_from : Rest → ℕ → List ℕ → Rest
text_from next from w at bs = run (text_end next from) text_byte w at bs

-- between tokens
abbrev pub start : Rest → ℕ → Class → List ℕ → Lexed
start next at class.End bs = done
start next at class.Space bs = next (at + 1) (drop 1 bs)
start next at class.Letter bs = name_from next at (take 1 bs) (at + 1) (drop 1 bs)
start next at (class.Digit d) bs = number_from next at d (at + 1) (drop 1 bs)
start next at class.Low bs = refused at
start next at class.Quote bs = text_from next at [] (at + 1) (drop 1 bs)
start next at (class.Mark m) bs = cons (at, mark m) (next (at + 1) (drop 1 bs))
start next at (class.Operator o) bs = cons (at, operator o) (next (at + width_of o) (drop (width_of o) bs))
start next at class.Other bs = refused at

-- at most f tokens and separators
abbrev pub lex : ℕ → Rest
lex zero at bs = done
lex (suc f) at bs = start (lex f) at (class_of bs) bs

-- the tokens of bs, whose first byte stands at the place `at`
unfoldable pub lexed : Rest
lexed at bs = lex (length bs) at bs

-- ---- the reader's states
-- the bytes from one place up to another
abbrev pub part : ℕ → ℕ → List ℕ → List ℕ
part a b bs = take (b - a) (drop a bs)

-- the tokens that a reader gives that stands at a place
abbrev pub resumed : List ℕ → State → ℕ → Lexed
resumed bs state.Between at = lexed at (drop at bs)
resumed bs (state.InName from) at = name_from lexed from (part from at bs) at (drop at bs)
resumed bs (state.InNumber from v) at = number_from lexed from v at (drop at bs)
resumed bs (state.InText from) at = text_from lexed from (part (from + 1) at bs) at (drop at bs)

-- where a reader can stand: past the first byte of what is open
abbrev pub Standing : List ℕ → State → ℕ → Type 0
Standing bs state.Between at = at ≤ length bs
Standing bs (state.InName from) at = (from < at) × (at ≤ length bs) × (at - from ≤ 24)
Standing bs (state.InNumber from v) at = (from < at) × (at ≤ length bs)
Standing bs (state.InText from) at = (from < at) × (at ≤ length bs)

-- whether a token is open: its end can be seen without a byte of its own
abbrev pub busy : State → ℕ
busy state.Between = 0
busy _ = 1

-- what is left to read after a step
abbrev pub after : List ℕ → ℕ → Result Turn NoToken → Lexed
after bs at (Ok (turn.Go s)) = resumed bs s (at + 1)
after bs at (Ok (turn.Made p to)) = cons (shown p) (lexed to (drop to bs))
after bs at (Ok turn.End) = done
after bs at (Err e) = refused e.place

-- a step goes on by a byte, or ends a token there or further on
abbrev pub Moves : List ℕ → State → ℕ → Turn → Type 0
Moves bs s at (turn.Go t) = Standing bs t (at + 1)
Moves bs s at (turn.Made p to) = (at < to + busy s) × (to ≤ length bs) × Sized (lexeme p.token)
Moves bs s at turn.End = Unit {0}

-- ---- one token at a time
-- a token is read from a place up to another one, further on and not past the end
abbrev pub Spans : List ℕ → ℕ → Lexeme → ℕ → Type 0
Spans bs from t to = (from < to) × (to ≤ length bs) × Sized t

-- the token that was found from a place on and what follows it, or the end of the text, or what is no token
abbrev pub found : List ℕ → Result (Option (Placed × ℕ)) NoToken → Lexed
found bs (Ok (Some x)) = cons (shown x.0) (lexed x.1 (drop x.1 bs))
found bs (Ok None) = done
found bs (Err e) = refused e.place

-- the tokens from a place on, up to the first place that has none
unfoldable pub tokens_at : List ℕ → ℕ → List Tok
tokens_at bs at = toks (lexed at (drop at bs))

abbrev pub NextIs : List ℕ → ℕ → Option (Placed × ℕ) → Type 0
NextIs bs at (Some x) = (tokens_at bs at ≡ shown x.0 ∷ tokens_at bs x.1) × Sized (lexeme x.0.token) × (x.1 ≤ length bs)
NextIs bs at None = tokens_at bs at ≡ []

-- the first place that has no token
unfoldable pub bad_token : List ℕ → Option ℕ
bad_token bs = first_bad (lexed 0 bs)

-- The worked cases of the rules, in one list: what the definitions give, and what they are told to give.
use Rattle.std.specs.Prelude.{◌≡◌, ℕ, ◌-◌, List, [], ◌∷◌, ◌++◌, map, length, replicate, Some, None, Option}
use Rattle.input.specs.Errata.{Erratum, patched, undone, patch_answer, undo_answer, shows}
use Rattle.input.specs.Numbers.{answer_number as bench_number}
use Rattle.fields.specs.Numbers.{builtin_fields}
use Rattle.meaning.specs.Syntax.{Expr, Term, Grammar}
use Rattle.meaning.specs.Syntax.Expr.{number, eoi, own, of_call, start_of, end_of, binary}
use Rattle.meaning.specs.Syntax.Term.{literal, call, attribute, guard}
use Rattle.meaning.specs.Values.{value}
use Rattle.meaning.specs.Answers.{answer_number}
use Rattle.meaning.specs.Meaning.{Outcome, root, nothing_yet, parse}
use Rattle.meaning.specs.declared.node.Node.{Node}
use Rattle.operators.specs.declared.Op.TheVariants.{Plus, Minus, Times, Divide, Remainder, Shift, Equal, Less}

-- ---- How the cases are written

infix 50 ◌⩵◌
infix 50 ◌≺◌
infixl 60 ◌⊕◌
infixl 60 ◌⊖◌
infixl 70 ◌⊗◌
infixl 70 ◌⊘◌
infixl 70 ◌⊙◌
infixl 70 ◌⋘◌
abbrev pub ◌⩵◌ : Expr → Expr → Expr
a ⩵ b = binary Equal a b

abbrev pub ◌≺◌ : Expr → Expr → Expr
a ≺ b = binary Less a b

abbrev pub ◌⊕◌ : Expr → Expr → Expr
a ⊕ b = binary Plus a b

abbrev pub ◌⊖◌ : Expr → Expr → Expr
a ⊖ b = binary Minus a b

abbrev pub ◌⊗◌ : Expr → Expr → Expr
a ⊗ b = binary Times a b

abbrev pub ◌⊘◌ : Expr → Expr → Expr
a ⊘ b = binary Divide a b

abbrev pub ◌⊙◌ : Expr → Expr → Expr
a ⊙ b = binary Remainder a b

abbrev pub ◌⋘◌ : Expr → Expr → Expr
a ⋘ b = binary Shift a b

-- the numbers of the built-in field readers, and one that none of them owns
abbrev pub u8 : ℕ
u8 = 32

abbrev pub u16le : ℕ
u16le = 33

abbrev pub unowned : ℕ
unowned = 34

abbrev pub raw : ℕ
raw = 40

pub data Result : Type 0 where
  -- an expression's value
  valued : Option ℕ → Result
  -- the answer's number, the count of nodes, the starts, and the reach's ends
  parsed : (answer nodes starts left right : ℕ) → Result
  table : List Node → Result
  -- the bytes that a bench shows, and the number of its answer
  shown : List ℕ → Result
  answered : ℕ → Result

-- what the definitions give, and what they should give
pub record Case : Type 0 where
  pub got : Result
  pub told : Result

infix 5 ◌⇒◌
abbrev pub ◌⇒◌ : Result → Result → Case
r ⇒ s = record { got = r; told = s }

-- an expression by itself
abbrev pub alone : Expr → Result
alone e = valued (value (root 0 0) (nothing_yet (root 0 0)) e)

abbrev pub brief : Outcome → Result
brief o = parsed (answer_number o.answer) (length o.nodes) o.starts o.reach.left o.reach.right

abbrev pub nodes_of : Outcome → Result
nodes_of o = table o.nodes

abbrev pub limited : (budget frames nodes : ℕ) → Grammar → List ℕ → Outcome
limited b f n g bytes = parse builtin_fields g (record { budget = b; frames = f; nodes = n }) 0 bytes

-- within the widest limits
abbrev pub of : Grammar → List ℕ → Outcome
of = limited 1000000 4096 65535

-- a node, its slots filled up with 0
abbrev pub node : (number alternative parent term : ℕ) → (left right : ℕ) → (used_left used_right : ℕ) → List ℕ → Node
node n a p t l r ul ur s = record {
  number = n;
  alternative = a;
  parent = p;
  term = t;
  window = record { left = l; right = r };
  used = record { left = ul; right = ur };
  slots = s ++ replicate (8 - length s) 0;
}

-- ---- Grammars

-- A: "x"[0, 1] A[1, EOI] / guard(EOI = 0) ;
abbrev pub xs : Grammar
xs = ((literal (0x78 ∷ []) (number 0) (number 1) ∷ call 0 (number 1) eoi ∷ []) ∷ (guard (eoi ⩵ number 0) ∷ []) ∷ []) ∷ []

-- A: u8[0, 1] guard(u8.val = 0) u8[3, 4] / u8[1, 2] ;
abbrev pub second_byte : Grammar
second_byte =
    ((call u8 (number 0) (number 1) ∷ guard (of_call 0 0 ⩵ number 0) ∷ call u8 (number 3) (number 4) ∷ [])
    ∷ (call u8 (number 1) (number 2) ∷ [])
    ∷ [])
    ∷ []

abbrev pub gif : Grammar
gif =
    -- Gif: Head[0, 13] Map[13, 13 + Head.map] Body[13 + Head.map, EOI] ;
    ((call 1 (number 0) (number 13) ∷ call 4 (number 13) (number 13 ⊕ of_call 0 2) ∷ call 5 (number 13 ⊕ of_call 0 2) eoi ∷ []) ∷ [])
    -- Head: Sig[0, 6] u16le[6, 8] {w = u16le.val} u16le[8, 10] {h = u16le.val} Pack[10, 11] {map = Pack.map} ;
    ∷ ((call 2 (number 0) (number 6) ∷ call u16le (number 6) (number 8) ∷ attribute 0 (of_call 1 0) ∷ call u16le (number 8) (number 10) ∷ attribute 1 (of_call 3 0) ∷ call 3 (number 10) (number 11) ∷ attribute 2 (of_call 5 0) ∷ []) ∷ [])
    -- Sig: "GIF87a"[0, 6] / "GIF89a"[0, 6] ;
    ∷ ((literal (0x47 ∷ 0x49 ∷ 0x46 ∷ 0x38 ∷ 0x37 ∷ 0x61 ∷ []) (number 0) (number 6) ∷ []) ∷ (literal (0x47 ∷ 0x49 ∷ 0x46 ∷ 0x38 ∷ 0x39 ∷ 0x61 ∷ []) (number 0) (number 6) ∷ []) ∷ [])
    -- Pack: u8[0, 1] guard(127 < u8.val) {map = 3 * (2 << (u8.val % 8))} / u8[0, 1] {map = 0} ;
    ∷ ((call u8 (number 0) (number 1) ∷ guard (number 127 ≺ of_call 0 0) ∷ attribute 0 (number 3 ⊗ (number 2 ⋘ (of_call 0 0 ⊙ number 8))) ∷ []) ∷ (call u8 (number 0) (number 1) ∷ attribute 0 (number 0) ∷ []) ∷ [])
    -- Map: raw[0, EOI] / guard(EOI = 0) ;
    ∷ ((call raw (number 0) eoi ∷ []) ∷ (guard (eoi ⩵ number 0) ∷ []) ∷ [])
    -- Body: "\x3B"[0, 1] / Block[0, EOI] Body[Block.end, EOI] ;
    ∷ ((literal (0x3B ∷ []) (number 0) (number 1) ∷ []) ∷ (call 6 (number 0) eoi ∷ call 5 (end_of 1) eoi ∷ []) ∷ [])
    -- Block: "\x21"[0, 1] u8[1, 2] Subs[2, EOI] / "\x2C"[0, 1] Pack[9, 10] Map[10, 10 + Pack.map] u8[10 + Pack.map, 11 + Pack.map] Subs[11 + Pack.map, EOI] ;
    ∷ ((literal (0x21 ∷ []) (number 0) (number 1) ∷ call u8 (number 1) (number 2) ∷ call 7 (number 2) eoi ∷ [])
    ∷ (literal (0x2C ∷ []) (number 0) (number 1) ∷ call 3 (number 9) (number 10) ∷ call 4 (number 10) (number 10 ⊕ of_call 4 0) ∷ call u8 (number 10 ⊕ of_call 4 0) (number 11 ⊕ of_call 4 0) ∷ call 7 (number 11 ⊕ of_call 4 0) eoi ∷ [])
    ∷ [])
    -- Subs: "\x00"[0, 1] / u8[0, 1] raw[1, 1 + u8.val] Subs[1 + u8.val, EOI] ;
    ∷ ((literal (0x00 ∷ []) (number 0) (number 1) ∷ []) ∷ (call u8 (number 0) (number 1) ∷ call raw (number 1) (number 1 ⊕ of_call 1 0) ∷ call 7 (number 1 ⊕ of_call 1 0) eoi ∷ []) ∷ [])
    ∷ []

abbrev pub gif_file : List ℕ
gif_file = 0x47 ∷ 0x49 ∷ 0x46 ∷ 0x38 ∷ 0x39 ∷ 0x61 ∷ 0x01 ∷ 0x00 ∷ 0x01 ∷ 0x00 ∷ 0x00 ∷ 0x00 ∷ 0x00 ∷ 0x3B ∷ []

abbrev pub gif_nodes : List Node
gif_nodes =
    node 0 0 0 0 0 14 0 14 []
    ∷ node 1 0 0 0 0 13 0 11 (1 ∷ 1 ∷ 0 ∷ [])
    ∷ node 2 1 1 0 0 6 0 6 []
    ∷ node u16le 0 1 1 6 8 6 8 (1 ∷ [])
    ∷ node u16le 0 1 3 8 10 8 10 (1 ∷ [])
    ∷ node 3 1 1 5 10 11 10 11 (0 ∷ [])
    ∷ node u8 0 5 3 10 11 10 11 (0 ∷ [])
    ∷ node 4 1 0 1 13 13 13 13 []
    ∷ node 5 0 0 2 13 14 13 14 []
    ∷ []

-- a rule that tries one term, and then takes anything: what the term left behind is told by starts and reach
-- A: .. / guard(1) ; B: guard(1) ;
abbrev pub try : Term → Grammar
try t = ((t ∷ []) ∷ (guard (number 1) ∷ []) ∷ []) ∷ ((guard (number 1) ∷ []) ∷ []) ∷ []

-- A: u8[0, 1] B[3, 4] ; B: guard(1) ;
abbrev pub idle_call : Grammar
idle_call = ((call u8 (number 0) (number 1) ∷ call 1 (number 3) (number 4) ∷ []) ∷ []) ∷ ((guard (number 1) ∷ []) ∷ []) ∷ []

-- A: {a = 1} {b = 2} guard(0) / {c = 3} {a = 4} ;
abbrev pub cleared : Grammar
cleared =
    ((attribute 0 (number 1) ∷ attribute 1 (number 2) ∷ guard (number 0) ∷ []) ∷ (attribute 2 (number 3) ∷ attribute 0 (number 4) ∷ []) ∷ []) ∷ []

-- A: B[1, EOI] {s = B.start} {e = B.end} {own = e + 10} ; B: u8[1, 4] {s = u8.start} {e = u8.end} ;
abbrev pub moved : Grammar
moved =
    ((call 1 (number 1) eoi ∷ attribute 0 (start_of 0) ∷ attribute 1 (end_of 0) ∷ attribute 2 (own 1 ⊕ number 10) ∷ []) ∷ [])
    ∷ ((call u8 (number 1) (number 4) ∷ attribute 0 (start_of 0) ∷ attribute 1 (end_of 0) ∷ []) ∷ [])
    ∷ []

-- A: B[0, 2] u8[2, 3] {v = u8.val} ; B: guard(1) u8[0, 1] ;
abbrev pub own_call : Grammar
own_call =
    ((call 1 (number 0) (number 2) ∷ call u8 (number 2) (number 3) ∷ attribute 0 (of_call 1 0) ∷ []) ∷ [])
    ∷ ((guard (number 1) ∷ call u8 (number 0) (number 1) ∷ []) ∷ [])
    ∷ []

-- A: B[0, 1] guard(0) / B[1, 2] ; B: u8[0, 1] ;
abbrev pub dropped : Grammar
dropped =
    ((call 1 (number 0) (number 1) ∷ guard (number 0) ∷ []) ∷ (call 1 (number 1) (number 2) ∷ []) ∷ []) ∷ ((call u8 (number 0) (number 1) ∷ []) ∷ []) ∷ []

-- ---- The cases

-- ---- The bench: three zero bytes, patched at 1 with 11 22 and then at 2 with 33

abbrev pub zeros : List ℕ
zeros = 0x00 ∷ 0x00 ∷ 0x00 ∷ []

abbrev pub once : List Erratum
once = patched 3 [] 1 (0x11 ∷ 0x22 ∷ [])

abbrev pub twice : List Erratum
twice = patched 3 once 2 (0x33 ∷ [])

-- ---- The cases

abbrev pub cases : List Case
cases =
    -- values
    (alone (number 9 ⊖ number 4 ⊖ number 3) ⇒ valued (Some 2))
    ∷ (alone (number 7 ⊖ number 8) ⇒ valued None)
    ∷ (alone (number 7 ⊖ number 7) ⇒ valued (Some 0))
    ∷ (alone (number 0 ⋘ number 64) ⇒ valued None)
    ∷ (alone (number 2 ⋘ number 63) ⇒ valued None)
    ∷ (alone (number 2 ⋘ number 62) ⇒ valued (Some 9223372036854775808))
    ∷ (alone (number 18446744073709551615 ⊕ number 1) ⇒ valued None)
    ∷ (alone (number 18446744073709551614 ⊕ number 1) ⇒ valued (Some 18446744073709551615))
    ∷ (alone (number 4294967296 ⊗ number 4294967296) ⇒ valued None)
    ∷ (alone (number 7 ⊘ number 2) ⇒ valued (Some 3))
    ∷ (alone (number 7 ⊙ number 4) ⇒ valued (Some 3))
    ∷ (alone (number 7 ⊘ number 0) ⇒ valued None)
    ∷ (alone (number 7 ⊙ number 0) ⇒ valued None)
    ∷ (alone (number 0 ⊗ (number 1 ⊘ number 0)) ⇒ valued None)
    ∷ (alone (number 2 ≺ number 3) ⇒ valued (Some 1))
    ∷ (alone (number 3 ≺ number 3) ⇒ valued (Some 0))
    ∷ (alone (number 3 ⩵ number 3) ⇒ valued (Some 1))
    ∷ (alone (number 3 ⩵ number 4) ⇒ valued (Some 0))
    -- a rule that calls itself, and each of its limits
    ∷ (brief (of xs (0x78 ∷ 0x78 ∷ [])) ⇒ parsed 0 3 3 0 2)
    ∷ (nodes_of (of xs (0x78 ∷ 0x78 ∷ [])) ⇒ table (node 0 0 0 0 0 2 0 2 [] ∷ node 0 0 0 1 1 2 1 2 [] ∷ node 0 1 1 1 2 2 2 2 [] ∷ []))
    ∷ (brief (limited 2 4096 65535 xs (0x78 ∷ 0x78 ∷ [])) ⇒ parsed 25 0 2 0 2)
    ∷ (brief (limited 1000000 2 65535 xs (0x78 ∷ 0x78 ∷ [])) ⇒ parsed 26 0 2 0 2)
    ∷ (brief (limited 1000000 4096 2 xs (0x78 ∷ 0x78 ∷ [])) ⇒ parsed 27 0 2 0 2)
    ∷ (brief (limited 3 3 3 xs (0x78 ∷ 0x78 ∷ [])) ⇒ parsed 0 3 3 0 2)
    ∷ (brief (limited 2 2 2 xs (0x78 ∷ 0x78 ∷ [])) ⇒ parsed 25 0 2 0 2)
    ∷ (brief (limited 3 2 2 xs (0x78 ∷ 0x78 ∷ [])) ⇒ parsed 26 0 2 0 2)
    ∷ (brief (of xs (0x78 ∷ 0x79 ∷ [])) ⇒ parsed 24 0 2 0 2)
    -- a failed alternative leaves its starts and reads, and nothing else
    ∷ (brief (of second_byte (0x05 ∷ 0x06 ∷ 0x07 ∷ 0x08 ∷ [])) ⇒ parsed 0 2 3 0 2)
    ∷ (nodes_of (of second_byte (0x05 ∷ 0x06 ∷ 0x07 ∷ 0x08 ∷ [])) ⇒ table (node 0 1 0 0 0 4 1 2 [] ∷ node u8 0 0 3 1 2 1 2 (6 ∷ []) ∷ []))
    ∷ (nodes_of (of cleared []) ⇒ table (node 0 1 0 0 0 0 0 0 (4 ∷ 0 ∷ 3 ∷ []) ∷ []))
    ∷ (brief (of dropped (0x05 ∷ 0x06 ∷ [])) ⇒ parsed 0 3 5 0 2)
    ∷ (brief (limited 5 3 3 dropped (0x05 ∷ 0x06 ∷ [])) ⇒ parsed 0 3 5 0 2)
    ∷ (nodes_of (of dropped (0x05 ∷ 0x06 ∷ [])) ⇒ table (node 0 1 0 0 0 2 1 2 [] ∷ node 1 0 0 2 1 2 1 2 [] ∷ node u8 0 1 0 1 2 1 2 (6 ∷ []) ∷ []))
    -- who used nothing adds nothing
    ∷ (nodes_of (of idle_call (0x09 ∷ 0x00 ∷ 0x00 ∷ 0x00 ∷ [])) ⇒ table (node 0 0 0 0 0 4 0 1 [] ∷ node u8 0 0 0 0 1 0 1 (9 ∷ []) ∷ node 1 0 0 1 3 4 3 3 [] ∷ []))
    -- the ends of a call count from its caller's left end; a reader uses the front of its window
    ∷ (nodes_of (of moved (0x00 ∷ 0x01 ∷ 0x02 ∷ 0x03 ∷ 0x04 ∷ []))
    ⇒ table (node 0 0 0 0 0 5 2 3 (2 ∷ 3 ∷ 13 ∷ []) ∷ node 1 0 0 0 1 5 2 3 (1 ∷ 2 ∷ []) ∷ node u8 0 1 0 2 5 2 3 (2 ∷ []) ∷ []))
    ∷ (brief (of moved (0x00 ∷ 0x01 ∷ 0x02 ∷ 0x03 ∷ 0x04 ∷ [])) ⇒ parsed 0 3 3 2 3)
    -- an earlier call is one of the same start, and not one below it of the same term number
    ∷ (nodes_of (of own_call (0x05 ∷ 0x06 ∷ 0x07 ∷ []))
    ⇒ table (node 0 0 0 0 0 3 0 3 (7 ∷ []) ∷ node 1 0 0 0 0 2 0 1 [] ∷ node u8 0 1 1 0 1 0 1 (5 ∷ []) ∷ node u8 0 0 1 2 3 2 3 (7 ∷ []) ∷ []))
    -- a refusing reader has read its whole window, also for a number that it does not own
    ∷ (brief (of (try (call u16le (number 1) (number 2))) (0x05 ∷ 0x06 ∷ [])) ⇒ parsed 0 1 2 1 2)
    ∷ (brief (of (try (call unowned (number 0) (number 2))) (0x05 ∷ 0x06 ∷ [])) ⇒ parsed 0 1 2 0 2)
    ∷ (brief (of (try (call raw (number 1) (number 1))) (0x05 ∷ 0x06 ∷ [])) ⇒ parsed 0 1 2 0 0)
    -- a reader needs a frame and a node, also one that will refuse
    ∷ (brief (limited 9 1 9 (try (call unowned (number 0) (number 1))) (0x05 ∷ [])) ⇒ parsed 26 0 1 0 0)
    ∷ (brief (limited 9 9 1 (try (call unowned (number 0) (number 1))) (0x05 ∷ [])) ⇒ parsed 27 0 1 0 0)
    -- a literal fails unread if its window is not of its length, and otherwise reads all of it
    ∷ (brief (of (try (literal (0x05 ∷ 0x06 ∷ []) (number 0) (number 1))) (0x05 ∷ 0x06 ∷ [])) ⇒ parsed 0 1 1 0 0)
    ∷ (brief (of (try (literal (0x04 ∷ 0x06 ∷ []) (number 0) (number 2))) (0x05 ∷ 0x06 ∷ [])) ⇒ parsed 0 1 1 0 2)
    -- windows out of order, past EOI, or without a value make no start; the empty one at EOI does
    ∷ (brief (of (try (call 1 (number 2) (number 1))) (0x05 ∷ 0x06 ∷ [])) ⇒ parsed 0 1 1 0 0)
    ∷ (brief (of (try (call 1 (number 3) (number 3))) (0x05 ∷ 0x06 ∷ [])) ⇒ parsed 0 1 1 0 0)
    ∷ (brief (of (try (call 1 (number 0) (number 3))) (0x05 ∷ 0x06 ∷ [])) ⇒ parsed 0 1 1 0 0)
    ∷ (brief (of (try (call 1 (number 1 ⊖ number 2) eoi)) (0x05 ∷ 0x06 ∷ [])) ⇒ parsed 0 1 1 0 0)
    ∷ (brief (of (try (call 1 eoi eoi)) (0x05 ∷ 0x06 ∷ [])) ⇒ parsed 0 2 2 0 0)
    -- guards and attributes
    ∷ (nodes_of (of (try (guard (number 2))) []) ⇒ table (node 0 0 0 0 0 0 0 0 [] ∷ []))
    ∷ (nodes_of (of (try (guard (number 1 ⊘ number 0))) []) ⇒ table (node 0 1 0 0 0 0 0 0 [] ∷ []))
    ∷ (nodes_of (of (try (attribute 0 (number 1 ⊘ number 0))) []) ⇒ table (node 0 1 0 0 0 0 0 0 [] ∷ []))
    -- a small file
    ∷ (brief (of gif gif_file) ⇒ parsed 0 9 11 0 14)
    ∷ (nodes_of (of gif gif_file) ⇒ table gif_nodes)
    -- errata, the latest on top, and an undo
    ∷ (shown (shows zeros twice) ⇒ shown (0x00 ∷ 0x11 ∷ 0x33 ∷ []))
    ∷ (shown (shows zeros (undone twice)) ⇒ shown (0x00 ∷ 0x11 ∷ 0x22 ∷ []))
    ∷ (shown (shows zeros (undone (undone twice))) ⇒ shown zeros)
    -- one byte and two bytes at 2 of 3; no bytes, and nine; a place so large that a sum could wrap
    ∷ (answered (bench_number (patch_answer 3 [] 2 (0x11 ∷ []))) ⇒ answered 0)
    ∷ (answered (bench_number (patch_answer 3 [] 2 (0x11 ∷ 0x22 ∷ []))) ⇒ answered 31)
    ∷ (answered (bench_number (patch_answer 3 [] 0 [])) ⇒ answered 30)
    ∷ (answered (bench_number (patch_answer 9 [] 0 (1 ∷ 2 ∷ 3 ∷ 4 ∷ 5 ∷ 6 ∷ 7 ∷ 8 ∷ 9 ∷ []))) ⇒ answered 30)
    ∷ (answered (bench_number (patch_answer 3 [] 18446744073709551615 (0x11 ∷ []))) ⇒ answered 31)
    ∷ (answered (bench_number (undo_answer [])) ⇒ answered 33)
    ∷ []

abbrev pub CasesStand : Type 0
CasesStand = map (λ (c : Case). c.got) cases ≡ map (λ (c : Case). c.told) cases

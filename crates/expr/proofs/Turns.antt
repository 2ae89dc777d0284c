-- One turn of the loop over the items of a chain, what a bracket opens, and what is appended.
use Rattle.std.proofs.Common.{◌≡◌, ℕ, zero, suc, ◌-◌, ◌<◌, ◌≤◌, List, [], ◌∷◌, ◌++◌, length, take, Some, None, Ok, Err, Result, sym, refl, ap, ◌∙◌, subst, append_assoc, append-nil, arith}
use Rattle.token.specs.declared.Mark.TheVariants.{Open, Close}
use Rattle.operators.specs.declared.Op.{Op}
use Rattle.token.specs.Ahead.{Ahead}
use Rattle.token.specs.Tokens.{Tok}
use Rattle.token.specs.Tokens as lexeme
use Rattle.arena.specs.declared.store.Arena.{Arena}
use Rattle.arena.specs.Bounded.{upto}
use Rattle.arena.proofs.Bounds.{twice}
use Rattle.code.specs.declared.Code.{Code}
use Rattle.code.specs.Pieces.{Piece, codes}
use Rattle.code.specs.Pieces as piece
use Rattle.expr.specs.declared.Level.{Level}
use Rattle.expr.specs.declared.Level.TheVariants as level
use Rattle.expr.specs.declared.Refusal.{Refusal}
use Rattle.expr.specs.declared.Refusal.TheVariants.{Form, Deep}
use Rattle.expr.specs.Trees.{Tree, bracketed, binary, encode}
use Rattle.expr.specs.Reading.{Read, ok, Reader, and_then, operator_at, more, chain, compared, inner, part_at, expression_at, mark_at, operator_first, Refuses, Grew, Wrote}

-- ---- what is appended
pub same : (a : Arena Code 1025) → Grew (codes a) (codes a)
same a = ([], sym (append-nil (codes a)))

pub onward : (a b c : List Piece) (xs ys : List Piece) → b ≡ upto 1025 a xs → c ≡ upto 1025 b ys → c ≡ upto 1025 a (xs ++ ys)
onward a b c xs ys p q = q ∙ ap (λ l. upto 1025 l ys) p ∙ twice 1025 a xs ys

pub grew_on : (a b c : List Piece) (xs : List Piece) → b ≡ upto 1025 a xs → Grew b c → Grew a c
grew_on a b c xs p g = (take (1025 - length a) xs ++ g.0, g.1 ∙ ap (λ l. l ++ g.0) p ∙ append_assoc a (take (1025 - length a) xs) g.0)

pub grew_by : (a b xs : List Piece) → b ≡ upto 1025 a xs → Grew a b
grew_by a b xs p = (take (1025 - length a) xs, p)

-- ---- the end of the text is the same further on
module _ {m n : ℕ} (same : m ≡ n) where
  pub there : (read : ℕ → Reader) (toks rest : List Tok) (r : Result (Unit {0}) Refusal) (before later : List Piece) → Wrote r (read m toks) rest before later → Wrote r (read n toks) rest before later
  there read toks rest r before later told = subst (λ k. Wrote r (read k toks) rest before later) same told

  pub reads_there : {X : Type 0} (read : ℕ → List Tok → Read X) (toks rest : List Tok) (x : X) → read m toks ≡ ok x rest → read n toks ≡ ok x rest
  reads_there read toks rest x told = ap (λ k. read k toks) (sym same) ∙ told

  pub refuses_there : {X : Type 0} (read : ℕ → List Tok → Read X) (toks : List Tok) (e : Refusal) → Refuses e (read m toks) → Refuses e (read n toks)
  refuses_there read toks e told = subst (λ k. Refuses e (read k toks)) same told

-- ---- what stands first
-- an operator is followed by an item
unrolled : (item : Reader) (l : Level) (f : ℕ) (left : Tree) (rest ts : List Tok) (t : Tok) (o : Op) → rest ≡ t ∷ ts → length rest ≤ f → operator_at l t.1 ≡ Some o → more item l f left rest ≡ and_then (item ts) (λ right after. more item l (f - 1) (binary o left right) after)
unrolled item l f left rest ts t o is enough op = ap (more item l f left) is ∙ go f (subst (λ r. length r ≤ f) is enough)
  where
    go : (n : ℕ) → length (t ∷ ts) ≤ n → more item l n left (t ∷ ts) ≡ and_then (item ts) (λ right after. more item l (n - 1) (binary o left right) after)
    go zero h = absurd (omega arith)
    go (suc n) h = rw (op, more) (ap (λ k. and_then (item ts) (λ right after. more item l k (binary o left right) after)) (omega arith))

-- no operator follows
stops : (item : Reader) (l : Level) (f : ℕ) (left : Tree) (rest : List Tok) → operator_first l rest ≡ None → more item l f left rest ≡ ok left rest
stops item l zero left rest op = refl
stops item l (suc f) left [] op = refl
stops item l (suc f) left (t ∷ ts) op = rw (op, more) refl

no_comparison : (item : Reader) (left : Tree) (rest : List Tok) → operator_first level.Compare rest ≡ None → compared item left rest ≡ ok left rest
no_comparison item left [] op = refl
no_comparison item left (t ∷ ts) op = rw (op, compared) refl

-- a refusal of the first step is one of both
pub refused_too : (e : Refusal) {X Y : Type 0} (first : Read X) (k : X → List Tok → Read Y) → Refuses e first → Refuses e (and_then first k)
refused_too (Form p) first k h = ap (λ r. and_then r k) h
refused_too (Deep p) first k h = ap (λ r. and_then r k) h

-- ---- the loop over the operands of a level
-- `entry` is what was written when the loop began, after the first operand; `out` is what is written now, the code of `left`
abbrev Since : Reader → List Tok → List Piece → List Piece → Tree → Type 0
Since item toks entry out left = (before : List Piece) (first : Tree) (mid : List Tok) → item toks ≡ ok first mid → entry ≡ upto 1025 before (encode first) → out ≡ upto 1025 before (encode left)

-- a tree is read so far, and enough turns are left to read the whole from it and the tokens after it
pub record Going (item : Reader) (l : Level) (toks rest : List Tok) (entry out : List Piece) : Type 0 where
  pub left : Tree
  pub turns : ℕ
  pub enough : length rest ≤ turns
  pub whole : chain item l toks ≡ more item l turns left rest
  pub since : Since item toks entry out left

same_tree : {a b : Tree} {ts us : List Tok} (r : Read Tree) → r ≡ ok a ts → r ≡ ok b us → a ≡ b
same_tree r p q = cc

module _ (item : Reader) (l : Level) (toks from : List Tok) (before entry : List Piece) (first : Wrote (Ok tt) (item toks) from before entry) where
  pub begins : Going item l toks from entry entry
  begins = record {
    left = first.0;
    turns = length from;
    enough = omega arith;
    whole = ap (λ r. and_then r (λ left rest. more item l (length rest) left rest)) first.1;
    since = λ before' first' mid is e. e ∙ ap (λ t. upto 1025 before' (encode t)) (same_tree (item toks) is first.1);
  }

  module _ (rest : List Tok) (out : List Piece) (going : Going item l toks rest entry out) where
    written : out ≡ upto 1025 before (encode going.left)
    written = going.since before first.0 from first.1 first.2

    pub no_operator : operator_first l rest ≡ None → Wrote (Ok tt) (chain item l toks) rest before out
    no_operator op = (going.left, going.whole ∙ stops item l going.turns going.left rest op, written)

    module _ (t : Tok) (next : List Tok) (o : Op) (is : rest ≡ t ∷ next) (op : operator_at l t.1 ≡ Some o) where
      pub item_refused : (e : Refusal) (left : List Tok) (later : List Piece) → Wrote (Err e) (item next) left out later → Wrote (Err e) (chain item l toks) left before later
      item_refused e left later told = (
        subst (Refuses e) (sym (going.whole ∙ unrolled item l going.turns going.left rest next t o is going.enough op)) (refused_too e (item next) _ told.0),
        grew_on before out later (encode going.left) written told.1,
      )

      pub goes_on : (to : List Tok) (mid later : List Piece) → Wrote (Ok tt) (item next) to out mid → length to < length next → later ≡ upto 1025 mid (piece.operator o ∷ []) → Going item l toks to entry later
      goes_on to mid later read short put =
          let long = ap length is in
          record {
            left = binary o going.left read.0;
            turns = going.turns - 1;
            enough = omega (arith, going.enough);
            whole = going.whole ∙ unrolled item l going.turns going.left rest next t o is going.enough op ∙ ap (λ r. and_then r (λ right after. more item l (going.turns - 1) (binary o going.left right) after)) read.1;
            since = λ before' first' mid' e e'. onward before' out later (encode going.left) (encode read.0 ++ piece.operator o ∷ []) (going.since before' first' mid' e e') (onward out mid later (encode read.0) (piece.operator o ∷ []) read.2 put);
          }

-- ---- a comparison
module _ (item : Reader) (toks rest : List Tok) (before out : List Piece) (first : Wrote (Ok tt) (item toks) rest before out) where
  abbrev both : Read Tree
  both = and_then (item toks) (λ left rest. compared item left rest)

  one_side : both ≡ compared item first.0 rest
  one_side = ap (λ r. and_then r (λ left rest. compared item left rest)) first.1

  pub alone : operator_first level.Compare rest ≡ None → Wrote (Ok tt) both rest before out
  alone op = (first.0, one_side ∙ no_comparison item first.0 rest op, first.2)

  module _ (t : Tok) (next : List Tok) (o : Op) (is : rest ≡ t ∷ next) (op : operator_at level.Compare t.1 ≡ Some o) where
    two : both ≡ and_then (item next) (λ right rest. ok (binary o first.0 right) rest)
    two = one_side ∙ rw is (rw (op, compared) refl)

    pub second_refused : (e : Refusal) (left : List Tok) (later : List Piece) → Wrote (Err e) (item next) left out later → Wrote (Err e) both left before later
    second_refused e left later told = (subst (Refuses e) (sym two) (refused_too e (item next) _ told.0), grew_on before out later (encode first.0) first.2 told.1)

    pub both_sides : (to : List Tok) (mid later : List Piece) → Wrote (Ok tt) (item next) to out mid → later ≡ upto 1025 mid (piece.operator o ∷ []) → Wrote (Ok tt) both to before later
    both_sides to mid later read put = (
      binary o first.0 read.0,
      two ∙ ap (λ r. and_then r (λ right rest. ok (binary o first.0 right) rest)) read.1,
      onward before out later (encode first.0) (encode read.0 ++ piece.operator o ∷ []) first.2 (onward out mid later (encode read.0) (piece.operator o ∷ []) read.2 put),
    )

-- a first sum that is refused
pub first_refused : (item : Reader) (toks left : List Tok) (before later : List Piece) (e : Refusal) → Wrote (Err e) (item toks) left before later → Wrote (Err e) (and_then (item toks) (λ left rest. compared item left rest)) left before later
first_refused item toks left before later e told = (refused_too e (item toks) _ told.0, told.1)

-- ---- the same tokens, read by another cursor
pub forked : (a b : Ahead) → a ≡ b → (d : ℕ) (r : Result (Unit {0}) Refusal) (left : List Tok) (before later : List Piece) → Wrote r (expression_at a.end d a.left) left before later → Wrote r (expression_at b.end d b.left) left before later
forked a b same d r left before later told = subst (λ (x : Ahead). Wrote r (expression_at x.end d x.left) left before later) same told

-- ---- a bracket
pub opens : (end d : ℕ) → 0 < d → inner end d ≡ Some (expression_at end (d - 1))
opens end zero h = absurd (omega arith)
opens end (suc d) h = ap (λ k. Some (expression_at end k)) (omega arith)

-- what stands in brackets, and then the closing one
abbrev closing : ℕ → Tree → List Tok → Read Tree
closing end e rest = and_then (mark_at Close end rest) (λ _ us. ok (bracketed e) us)

module _ (end d : ℕ) (toks next : List Tok) (t : Tok) (more : 0 < d) (is : toks ≡ t ∷ next) (opening : t.1 ≡ lexeme.mark Open) (before out : List Piece) where
  bracket : part_at end d toks ≡ and_then (expression_at end (d - 1) next) (closing end)
  bracket = rw is (rw (opening, opens end d more) refl)

  pub bracket_refused : (e : Refusal) (left : List Tok) → Wrote (Err e) (expression_at end (d - 1) next) left before out → Wrote (Err e) (part_at end d toks) left before out
  bracket_refused e left told = (subst (Refuses e) (sym bracket) (refused_too e _ (closing end) told.0), told.1)

  module _ (rest : List Tok) (read : Wrote (Ok tt) (expression_at end (d - 1) next) rest before out) where
    inside : part_at end d toks ≡ closing end read.0 rest
    inside = bracket ∙ ap (λ r. and_then r (closing end)) read.1

    pub bracket_open : (e : Refusal) (left : List Tok) → Refuses e (mark_at Close end rest) → Wrote (Err e) (part_at end d toks) left before out
    bracket_open e left told = (subst (Refuses e) (sym inside) (refused_too e (mark_at Close end rest) (λ _ us. ok (bracketed read.0) us) told), grew_by before out (encode read.0) read.2)

    pub bracket_closed : (to : List Tok) (later : List Piece) → mark_at Close end rest ≡ ok tt to → later ≡ upto 1025 out (piece.bracket ∷ []) → Wrote (Ok tt) (part_at end d toks) to before later
    bracket_closed to later told put = (bracketed read.0, inside ∙ ap (λ r. and_then r (λ _ us. ok (bracketed read.0) us)) told, onward before out later (encode read.0) (piece.bracket ∷ []) read.2 put)

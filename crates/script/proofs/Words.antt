-- The first word of a line, known or not.
use Rattle.std.proofs.Common.{◌≡◌, ℕ, ◌<◌, Bool, true, false, eqb, List, length, None, codes, refl, arith}
use Rattle.std.specs.Str.{bytes_eq}
use Rattle.std.proofs.lemmas.Bool.Decides.{nat_tests}
use Rattle.std.proofs.lemmas.Slice.Eq.{bytes_eq-Decides}
use Rattle.script.specs.Pieces.{word, after_word}
use Rattle.script.specs.Commands.{comment, keyword_of, given_any, command_of}

-- the command of a line that begins with a word
pub command_at : (line w : List ℕ) → false ≡ comment line → 0 < length w → w ≡ word line → given_any (keyword_of w) (after_word line) ≡ command_of line
command_at line w talks some is =
    let left : eqb (length (word line)) 0 ≡ false = grind (arith, nat_tests) in
    rw (← talks, left, is) refl

differs : (xs ys : List ℕ) → (xs ≡ ys → ⊥) → bytes_eq xs ys ≡ false
differs xs ys apart = go (bytes_eq xs ys) (bytes_eq-Decides xs ys).0
  where
    go : (t : Bool) → (t ≡ true → xs ≡ ys) → t ≡ false
    go true same = absurd (apart (same refl))
    go false same = refl

-- a word that is no keyword
pub record IsUnknown (w : List ℕ) : Type 0 where
  pub first : w ≡ codes "first" → ⊥
  pub second : w ≡ codes "second" → ⊥
  pub bytes : w ≡ codes "bytes" → ⊥
  pub file : w ≡ codes "file" → ⊥
  pub window : w ≡ codes "window" → ⊥
  pub patch : w ≡ codes "patch" → ⊥
  pub undo : w ≡ codes "undo" → ⊥
  pub show : w ≡ codes "show" → ⊥
  pub text : w ≡ codes "text" → ⊥
  pub text_hex : w ≡ codes "text-hex" → ⊥
  pub draft : w ≡ codes "draft" → ⊥

pub keyword_none : (w : List ℕ) → IsUnknown w → keyword_of w ≡ None
keyword_none w o =
    rw (
      differs w _ o.first,
      differs w _ o.second,
      differs w _ o.bytes,
      differs w _ o.file,
      differs w _ o.window,
      differs w _ o.patch,
      differs w _ o.undo,
      differs w _ o.show,
      differs w _ o.text,
      differs w _ o.text_hex,
      differs w _ o.draft,
    ) refl

-- What a reader of a text has before it.
use Rattle.std.specs.Prelude.{◌≡◌, ℕ, ◌<◌, ◌≤◌, List, [], ◌∷◌, length, Some, None, Option, refl}
use Rattle.token.specs.declared.Placed.{Placed}
use Rattle.token.specs.Tokens.{Tok, Sized, lexeme, shown, tokens_at}

-- a text and a place in it, with the tokens from there on, and the length of the text, which is told where tokens are wanting
pub record Ahead : Type 0 where
  pub text : List ℕ
  pub place : ℕ
  pub end : ℕ
  pub left : List Tok
  pub whole : end ≡ length text
  pub rest : left ≡ tokens_at text place

-- a text from a place on
abbrev pub ahead : List ℕ → ℕ → Ahead
ahead text at = record { text = text; place = at; end = length text; left = tokens_at text at; whole = refl; rest = refl }

-- the next token was taken; or none was left
abbrev pub Takes : Ahead → Option Placed → Ahead → Type 0
Takes old (Some p) new = (new.end ≡ old.end) × (old.left ≡ shown p ∷ new.left) × Sized (lexeme p.token) × (new.text ≡ old.text)
Takes old None new = (new ≡ old) × (old.left ≡ [])

-- the next token is this; or none is left
abbrev pub Peeks : Ahead → Option Placed → Type 0
Peeks now (Some p) = (rest : List Tok) × (now.left ≡ shown p ∷ rest) × Sized (lexeme p.token)
Peeks now None = now.left ≡ []

-- one or more tokens were taken
pub record Advances (old new : Ahead) : Type 0 where
  pub same_text : new.text ≡ old.text
  pub same_end : new.end ≡ old.end
  pub fewer : length new.left < length old.left

-- some tokens were taken, or none
pub record AdvancesOrStays (old new : Ahead) : Type 0 where
  pub same_text : new.text ≡ old.text
  pub same_end : new.end ≡ old.end
  pub no_more : length new.left ≤ length old.left

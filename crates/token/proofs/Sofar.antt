-- Where the token reader stands.
use Rattle.std.proofs.Common.{◌≡◌, ℕ, ◌<◌, min, List, [], Some, None, Option, IfSome, Ok, Err, Result, IfOk, length, drop, refl, sym, ap, ◌∙◌, inl, inr, arith, drop_of_length-le}
use Rattle.std.specs.Result.{result_unwrap_or}
use Rattle.std.proofs.lemmas.Bool.{cases_lt}
use Rattle.token.specs.declared.Placed.{Placed}
use Rattle.token.specs.declared.scan.NoToken.{NoToken}
use Rattle.token.specs.Tokens.{lexed, toks, tokens_at, found, first_bad, bad_token, lexeme, Spans, NextIs}

-- no token stands after the end
pub past_end : (bs : List ℕ) (at : ℕ) → length bs < at → tokens_at bs at ≡ []
unfolding tokens_at lexed
past_end bs at h = ap (λ l. toks (lexed at l)) (drop_of_length-le bs (omega arith))

pub within : (bs : List ℕ) (at m : ℕ) → m ≡ min at (length bs) → tokens_at bs m ≡ tokens_at bs at
unfolding tokens_at lexed
within bs at m h = elim (cases_lt at (length bs)) [
  | inl less ↦ ap (tokens_at bs) (omega arith)
  | inr more ↦
      let last : m ≡ length bs = omega arith in
      ap (tokens_at bs) last ∙ ap (λ l. toks (lexed (length bs) l)) (drop_of_length-le bs (omega arith)) ∙ sym (ap (λ l. toks (lexed at l)) (drop_of_length-le bs (omega arith)))
]

pub next_is : (bs : List ℕ) (at : ℕ) (r : Result (Option (Placed × ℕ)) NoToken) → lexed at (drop at bs) ≡ found bs r → IfOk r (λ found. IfSome found (λ x. Spans bs at (lexeme x.0.token) x.1)) → NextIs bs at (result_unwrap_or r None)
unfolding tokens_at
next_is bs at (Ok (Some x)) reads moves = (ap toks reads, moves.2, moves.1)
next_is bs at (Ok None) reads moves = ap toks reads
next_is bs at (Err e) reads moves = ap toks reads

pub bad_starts : (bs : List ℕ) → bad_token bs ≡ first_bad (lexed 0 (drop 0 bs))
unfolding bad_token
bad_starts bs = refl

-- How the tables grow by an alternative and by a rule.
use Rattle.std.proofs.Common.{◌≡◌, ℕ, Bool, List, [], ◌∷◌, map, Ok, Err, Result, sym, ap, ◌∙◌, subst}
use Rattle.token.specs.declared.Mark.TheVariants.{Colon}
use Rattle.token.specs.Tokens.{Tok}
use Rattle.expr.specs.declared.Refusal.{Refusal}
use Rattle.expr.specs.Reading.{ok, and_then, mark_at, name_at, Refuses}
use Rattle.expr.proofs.Turns.{refused_too}
use Rattle.arena.specs.Bounded.{upto}
use Rattle.arena.proofs.Bounds.{seen}
use Rattle.term.specs.declared.arenas.Rule.{Rule}
use Rattle.arena.specs.declared.span.Span.{Span}
use Rattle.term.specs.Form.{TermTree}
use Rattle.term.specs.Tables.{Tables, Head, head, Kept, between, emit_term}
use Rattle.rule.specs.Form.{RuleTree, terms_at, branch_end, alternative_at, alternatives_at, none_left, rule_at}
use Rattle.rule.specs.Reading.{Ends, AddsItem}
use Rattle.rule.specs.Emission.{emit_all, emit_alternative, emit_rule, with_alternative, with_rule}
use Rattle.rule.specs.Keeping.{alternative_kept}

pub put_head : (a b : List Rule) (x : Rule) (h : Head) → b ≡ upto 33 a (x ∷ []) → head x ≡ h → map head b ≡ upto 33 (map head a) (h ∷ [])
put_head a b x h put is = ap (map head) put ∙ seen head 33 a (x ∷ []) ∙ ap (λ h. upto 33 (map head a) (h ∷ [])) is

-- ---- an alternative was read
pub is_alternative : (T V : Tables) (ts : List TermTree) (ss : List Span) (s : Span) → V ≡ emit_all emit_term T ts → ss ≡ upto 97 V.alternatives (s ∷ []) → s ≡ between T.terms V.terms → ◌≡◌ {A = Tables} (record { rules = V.rules; alternatives = ss; terms = V.terms; bytes = V.bytes; code = V.code }) (emit_alternative T ts)
unfolding emit_alternative
is_alternative T V ts ss s is put span =
    ap (λ l. record { rules = V.rules; alternatives = l; terms = V.terms; bytes = V.bytes; code = V.code }) (put ∙ ap (λ p. upto 97 V.alternatives (p ∷ [])) span)
    ∙ ap (λ v. with_alternative v (between T.terms v.terms)) is

pub alternative_ends : (end : ℕ) (toks rest left : List Tok) (T U : Tables) (ts : List TermTree) (r : Result Bool Refusal) → terms_at end toks ≡ ok ts rest → U ≡ emit_alternative T ts → Ends r (branch_end end rest) left → AddsItem r (alternative_at end toks) left emit_alternative T U
alternative_ends end toks rest left T U ts (Ok last) read put told = (ts, ap (λ r. and_then r (λ a us. and_then (branch_end end us) (λ last vs. ok (a, last) vs))) read ∙ ap (λ r. and_then r (λ last vs. ok (ts, last) vs)) told, put)
alternative_ends end toks rest left T U ts (Err e) read put told = (
  subst (Refuses e) (sym (ap (λ r. and_then r (λ a us. and_then (branch_end end us) (λ last vs. ok (a, last) vs))) read)) (refused_too e (branch_end end rest) (λ last vs. ok (ts, last) vs) told),
  subst (Kept T) (sym put) (alternative_kept T ts),
)

-- ---- a rule was read
pub is_rule : (T V : Tables) (r : RuleTree) (hs : List Head) (h : Head) → V ≡ emit_all emit_alternative T r.alternatives → hs ≡ upto 33 V.rules (h ∷ []) → h ≡ record { name = r.name; place = r.place; branches = between T.alternatives V.alternatives } → ◌≡◌ {A = Tables} (record { rules = hs; alternatives = V.alternatives; terms = V.terms; bytes = V.bytes; code = V.code }) (emit_rule T r)
unfolding emit_rule
is_rule T V r hs h is put told =
    ap (λ l. record { rules = l; alternatives = V.alternatives; terms = V.terms; bytes = V.bytes; code = V.code }) (put ∙ ap (λ h. upto 33 V.rules (h ∷ [])) told)
    ∙ ap (λ v. with_rule v (record { name = r.name; place = r.place; branches = between T.alternatives v.alternatives })) is

pub rule_reads : (end : ℕ) (ts us vs ws : List Tok) (n : ℕ × List ℕ) (bs : List (List TermTree)) → name_at end ts ≡ ok n us → mark_at Colon end us ≡ ok tt vs → alternatives_at end vs ≡ ok bs ws → rule_at end ts ≡ ok (record { place = n.0; name = n.1; alternatives = bs }, none_left ws) ws
rule_reads end ts us vs ws n bs p q r =
    ap (λ x. and_then x (λ n ts. and_then (mark_at Colon end ts) (λ _ ts. and_then (alternatives_at end ts) (λ bs ts. ok (record { place = n.0; name = n.1; alternatives = bs }, none_left ts) ts)))) p
    ∙ ap (λ x. and_then x (λ _ ts. and_then (alternatives_at end ts) (λ bs ts. ok (record { place = n.0; name = n.1; alternatives = bs }, none_left ts) ts))) q
    ∙ ap (λ x. and_then x (λ bs ts. ok (record { place = n.0; name = n.1; alternatives = bs }, none_left ts) ts)) r

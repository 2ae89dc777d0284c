-- What becomes of a text that is added to a draft, names apart.
use Rattle.std.specs.Prelude.{◌≡◌, ℕ, ◌≤◌, cond, List, ◌++◌, length, Some, None, Ok, Err, Option, Result, nat_lt}
use Rattle.token.specs.Tokens.{tokens_at, bad_token}
use Rattle.expr.specs.Reading.{Read, ok, form, deep}
use Rattle.term.specs.Tables.{Tables, Kept}
use Rattle.rule.specs.Form.{RuleTree, rules_at}
use Rattle.draft.specs.declared.refused.Refused.{Refused}
use Rattle.draft.specs.declared.refused.Refused.TheVariants as refused
use Rattle.draft.specs.Limits.{counts, few_enough}
use Rattle.draft.specs.Shown.{rules_of}
use Rattle.draft.specs.Cutting.{sizes_of}
use Rattle.draft.specs.Reach.{most, code_end, bytes_end, span_end, head_end}

-- the rules that a text adds, or why it is refused
abbrev pub Answer : Type 0
Answer = Result (List RuleTree) Refused

abbrev pub by_form : List RuleTree → Read (List RuleTree) → Answer
by_form old (ok rs ts) = cond (few_enough (counts (old ++ rs))) (Ok rs) (Err refused.Limit)
by_form old (form p) = Err (refused.Form p)
by_form old (deep p) = Err (refused.Deep p)

abbrev pub by_tokens : List RuleTree → List ℕ → Option ℕ → Answer
by_tokens old text None = by_form old (rules_at (length text) (tokens_at text 0))
by_tokens old text (Some p) = Err (refused.Token p)

-- the causes in the order of their numbers, to a draft that holds the rules `old`
unfoldable pub answer : List RuleTree → List ℕ → Answer
answer old text = cond (nat_lt 65536 (length text)) (Err refused.TooLong) (by_tokens old text (bad_token text))

-- the rules that a draft holds then: a refusal changes none
abbrev pub after : List RuleTree → Answer → List RuleTree
after old (Ok rs) = old ++ rs
after old (Err e) = old

-- what is returned: rules that were added stand in the draft
abbrev pub outcome : Answer → Result (Unit {0}) Refused
outcome (Ok rs) = Ok tt
outcome (Err e) = Err e

-- no part reaches past what stands in its table, and the tables hold what the rules take and no more
pub record Whole (T : Tables) : Type 0 where
  pub code_in : most code_end T.terms ≤ length T.code
  pub bytes_in : most bytes_end T.terms ≤ length T.bytes
  pub terms_in : most span_end T.alternatives ≤ length T.terms
  pub alternatives_in : most head_end T.rules ≤ length T.alternatives
  pub counted : sizes_of T ≡ counts (rules_of T)

-- ---- what is told, of tables that are whole
pub record Taken (r : Result (Unit {0}) Refused) (want : Answer) (T U : Tables) : Type 0 where
  pub told : r ≡ outcome want
  pub rules_after : rules_of U ≡ after (rules_of T) want
  pub whole_after : Whole U

abbrev pub ReadsForm : List ℕ → Result (Unit {0}) Refused → Tables → Tables → Type 0
ReadsForm text r T U = Whole T → Taken r (by_form (rules_of T) (rules_at (length text) (tokens_at text 0))) T U

-- the same of tables that are cut back after a refusal: until then more may stand in them
abbrev pub Reads : List ℕ → Result (Unit {0}) Refused → Tables → Tables → Type 0
Reads text (Ok u) T U = ReadsForm text (Ok u) T U
Reads text (Err e) T U = Whole T → Taken (Err e) (by_form (rules_of T) (rules_at (length text) (tokens_at text 0))) T T × Kept T U

abbrev pub Loads : List ℕ → Result (Unit {0}) Refused → Tables → Tables → Type 0
Loads text r T U = Whole T → Taken r (answer (rules_of T) text) T U

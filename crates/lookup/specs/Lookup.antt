-- What a name of a text stands for: a rule or a reader, an attribute's slot, an earlier call.
use Rattle.std.specs.Prelude.{ℕ, suc, Bool, cond, List, [], ◌∷◌, ◌++◌, map, Some, None, Option}
use Rattle.std.specs.List.{fold, list_any, position}
use Rattle.std.specs.Option.{option_map, option_or}
use Rattle.std.specs.Str.{bytes_eq}
use Rattle.fields.specs.Names.{reader_table, number_in}
use Rattle.names.specs.Stored.{is_name}
use Rattle.term.specs.Form.{TermTree}
use Rattle.term.specs.Form as term
use Rattle.rule.specs.Form.{RuleTree}

-- ---- places in lists of names
-- the place of the first name that is w
abbrev pub place_in : List (List ℕ) → List ℕ → Option ℕ
place_in vs w = position (λ v. bytes_eq v w) vs

-- whether w is among them
abbrev pub among : List (Option (List ℕ)) → List ℕ → Bool
among vs w = list_any (λ v. is_name v w) vs

-- the latest place that has the name w
abbrev pub latest_in : List (Option (List ℕ)) → List ℕ → Option ℕ
latest_in [] w = None
latest_in (v ∷ vs) w = option_or (option_map suc (latest_in vs w)) (cond (is_name v w) (Some 0) None)

-- ---- the names of rules and readers
-- a rule's number, or else a reader's; no rule is called like a reader
abbrev pub callee : List (List ℕ) → List ℕ → Option ℕ
callee names w = option_or (place_in names w) (number_in reader_table w)

abbrev pub rule_names : List RuleTree → List (List ℕ)
rule_names rs = map (λ r. r.name) rs

-- ---- the names of terms
-- the name that a term calls
abbrev pub called : TermTree → Option (List ℕ)
called (term.call w a b) = Some w
called _ = None

-- the name of the attribute that a term sets
abbrev pub sets : TermTree → Option (List ℕ)
sets (term.attribute p w e) = Some w
sets _ = None

-- ---- slots: the different attribute names of a rule in the order of their first standing
-- one name more
abbrev pub noted : List (List ℕ) → Option (List ℕ) → List (List ℕ)
noted seen None = seen
noted seen (Some w) = cond (among (map Some seen) w) seen (seen ++ w ∷ [])

abbrev pub noted_all : List (List ℕ) → List (Option (List ℕ)) → List (List ℕ)
noted_all seen vs = fold noted seen vs

-- alternative after alternative
abbrev pub noted_in : List (List ℕ) → List (List TermTree) → List (List ℕ)
noted_in seen alternatives = fold (λ found ts. noted_all found (map sets ts)) seen alternatives

abbrev pub slots_of : RuleTree → List (List ℕ)
slots_of r = noted_in [] r.alternatives

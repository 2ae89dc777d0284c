-- The rules of a draft.
use Rattle.std.specs.Prelude.{List}
use Rattle.term.specs.Tables.{tables}
use Rattle.rule.specs.Form.{RuleTree}
use Rattle.draft.specs.declared.store.Draft.{Draft}
use Rattle.draft.specs.Shown.{rules_of}

-- the rules that a draft holds, numbered from 0 as they were read
abbrev pub held : Draft → List RuleTree
held d = rules_of (tables d.arenas)

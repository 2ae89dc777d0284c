use Rattle.std.proofs.Common.{◌≡◌, ℕ, ◌<◌, true, false, length, get_or, IfSome, IfNone, rules, sym, ap, ◌∙◌}
use Rattle.std.proofs.iter.runs.Made.{chains}
use Rattle.term.specs.Tables.{Term}
use Rattle.term.specs.Tables.{entry}
use Rattle.names.specs.Stored.{called_entry, is_name}
use Rattle.lookup.specs.Lookup.{latest_in}
use Rattle.std.proofs.lemmas.Simd.{map-map}
use Rattle.lookup.proofs.Latest.{latest_is}
use Rattle.lookup.proofs.latest_call.Goals as goal

pub returns : goal.returns
returns c =
    let w = c.args.name.now in
    let terms = c.args.terms.now in
    let r = c.rposition.result in
    let found : IfSome r (λ i. (d : Term) → is_name (called_entry (entry (get_or terms i d))) w ≡ true) = search (rules, chains) in
    let last : IfSome r (λ i. (k : ℕ) (d : Term) → i < k → k < length terms → is_name (called_entry (entry (get_or terms k d))) w ≡ false) = search (rules, chains) in
    let none : IfNone r ((k : ℕ) (d : Term) → k < length terms → is_name (called_entry (entry (get_or terms k d))) w ≡ false) = search (rules, chains) in
    let bound : IfSome r (λ i. i < length terms) = search (rules, chains) in
    latest_is (λ t. called_entry (entry t)) w terms r bound found last none
    ∙ ap (λ l. latest_in l w) (sym (map-map called_entry entry terms))

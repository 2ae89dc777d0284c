use Rattle.std.proofs.Common.{map, sym, ◌∙◌}
use Rattle.term.specs.Tables.{entry}
use Rattle.names.specs.Names.{attribute_is}
use Rattle.names.specs.Stored.{is_name, sets_entry}
use Rattle.lookup.proofs.Views.{any_seen}
use Rattle.lookup.proofs.sets_attribute.Goals as goal

pub returns : goal.returns
returns c =
    let w = c.args.name.now in
    let named = c.attribute_named.ensures ∙ sym (any_seen (attribute_is w) entry c.args.terms.now) in
    record { named = named; set = named ∙ sym (any_seen (λ v. is_name v w) sets_entry (map entry c.args.terms.now)) }

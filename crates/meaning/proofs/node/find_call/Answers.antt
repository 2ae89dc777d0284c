use Rattle.std.proofs.Common.{rules, tests, ◌&&◌, ◌==◌, ◌∙◌}
use Rattle.std.proofs.lemmas.Iterator.{YieldsList-from_slice}
use Rattle.std.proofs.lemmas.Iterator.Search.{find_from_yields_List}
use Rattle.meaning.specs.Values.{called}
use Rattle.meaning.specs.declared.node.Node.{Node}
use Rattle.meaning.proofs.node.find_call.Goals as goal

pub returns : goal.returns
unfolding called
returns c =
    c.copied.ensures
    ∙ find_from_yields_List (λ (n : Node). n.parent == c.args.caller && n.term == c.args.term) _ _ _ c.find.ensures.ran (YieldsList-from_slice c.args.below.now cc) (λ x b q k. search (rules, tests))

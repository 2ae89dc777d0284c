use Rattle.std.proofs.Common.{rules, tests, ℕ, ◌+◌, nat_eq, Some, ◌∙◌, arith}
use Rattle.std.specs.Option.{option_eq}
use Rattle.std.proofs.lemmas.Iterator.{YieldsList-from_slice}
use Rattle.std.proofs.lemmas.Iterator.Consumers.{YieldsList-from_enumerate}
use Rattle.std.proofs.lemmas.Iterator.Search.{all_from_yields_List}
use Rattle.input.specs.Bytes.{byte_at}
use Rattle.meaning.specs.Windows.{bytes_in}
use Rattle.engine.proofs.Same.{same_from}
use Rattle.engine.proofs.terms.same_at.Goals as goal

pub returns : goal.returns
unfolding bytes_in
returns g c =
    let bs = (g.I.Input.shown c.args.input.now).bytes in
    let ys = c.args.bytes.now in
    let w = c.args.w in
    all_from_yields_List (λ (p : ℕ × ℕ). option_eq nat_eq (byte_at bs (w.left + p.0)) (Some p.1)) _ _ c.all.result c.all.ensures.ran (YieldsList-from_enumerate (YieldsList-from_slice ys cc) cc) (λ x b q k. search (rules, tests))
    ∙ same_from bs ys w.left w.right 0 (omega arith) c.requires.1

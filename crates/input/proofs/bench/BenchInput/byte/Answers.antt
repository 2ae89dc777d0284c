use Rattle.std.proofs.Common.{rules, ◌≡◌, ◌<◌, length, get_or, take, sym, ap, ◌∙◌, arith}
use Rattle.std.proofs.lemmas.Bool.Decides.{nat_tests}
use Rattle.std.specs.List.{fold}
use Rattle.std.specs.Option.{unwrap_or}
use Rattle.input.specs.Errata.{erratum_of, erratum_at, shows, length_shows}
use Rattle.input.specs.Benches.{errata}
use Rattle.input.proofs.Writes.{shows_folded}
use Rattle.input.proofs.bench.BenchInput.byte.Goals as goal

pub returns-in_err-own : goal.returns-in_err-own
returns-in_err-own g c =
    let n = length_shows (g.I.Input.shown c.args.self.now.below).bytes (errata c.args.self.now) in
    let w = c.in_err-own.ensures in
    grind (arith, nat_tests)

pub returns : goal.returns
returns g c =
    let xs = (g.I.Input.shown c.args.self.now.below).bytes in
    let k = c.args.place in
    let ps = take c.args.self.now.count c.args.self.now.table in
    let w = c.in_ok-own.ensures in
    let inside : k < length xs = grind (arith, nat_tests) in
    let own : c.in_ok-own.own ≡ get_or xs k 0 = grind (arith, nat_tests) in
    let n = length_shows xs (errata c.args.self.now) in
    let folded : c.fold-shown.result ≡ fold (λ shown p. unwrap_or (erratum_at (erratum_of p) k) shown) c.in_ok-own.own ps = search rules in
    let shown : c.fold-shown.result ≡ get_or (shows xs (errata c.args.self.now)) k 0 =
    folded ∙ ap (λ first. fold (λ shown p. unwrap_or (erratum_at (erratum_of p) k) shown) first ps) own ∙ sym (shows_folded xs ps k inside) in
    grind (arith, nat_tests)

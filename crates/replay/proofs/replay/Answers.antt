use Rattle.std.proofs.Common.{length, refl, ap, ◌∙◌}
use Rattle.input.specs.Benches.{errata}
use Rattle.input.specs.Errata.{shows}
use Rattle.replay.specs.Calls.{errata_after, answers_after, written}
use Rattle.replay.proofs.Replaying.{begins, goes_on, ends}
use Rattle.replay.proofs.replay.Goals as goal

pub loop-i-init : goal.loop-i-init
loop-i-init g c = (refl, begins _ _ _ _ c.new-bench.ensures.errata)

pub loop-i-preserved : goal.loop-i-preserved
loop-i-preserved g c =
    let same = ap (λ z. length (g.I.Input.shown z).bytes) c.loop-i.invariant.0 in
    let met = c.meet-met.ensures in (
      met.below ∙ c.loop-i.invariant.0,
      goes_on _ _ _ _ _ _ _ _ _ _ _ same c.loop-i-test.true c.loop-i.invariant.1 met.errata met.answer c.write_at.ensures,
    )

pub returns : goal.returns
returns g c =
    let below = c.loop-i.invariant.0 ∙ c.new-bench.ensures.below in
    let done = ends _ _ _ _ _ _ c.loop-i-test.false c.loop-i.invariant.1 in
    let same = ap (λ z. length (g.I.Input.shown z).bytes) c.new-bench.ensures.below in
    let errata' = done.errata ∙ ap (λ n. errata_after n c.args.calls.now) same in
    record {
      below = below;
      errata = errata';
      shown = ap (λ z. shows (g.I.Input.shown z).bytes (errata c.loop-i.bench)) below ∙ ap (shows (g.I.Input.shown c.args.input).bytes) errata';
      answers = done.answers ∙ ap (λ n. written (answers_after n c.args.calls.now) c.args.answers.now) same;
    }

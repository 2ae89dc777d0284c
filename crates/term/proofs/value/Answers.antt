use Rattle.std.proofs.Common.{◌≡◌, length, sym, ap, ◌∙◌}
use Rattle.std.proofs.lemmas.List.{length-map}
use Rattle.arena.specs.Bounded.{stored}
use Rattle.code.specs.Pieces.{piece, codes}
use Rattle.arena.specs.declared.span.Span.{Span}
use Rattle.term.specs.Tables.{span_of}
use Rattle.term.proofs.value.Goals as goal

pub returns-clause-told : goal.returns-clause-told
returns-clause-told c =
    let read = c.in_ok-expression.ensures in
    let before = codes c.args.out.now in
    let from : c.len-from.result ≡ length before = c.len-from.ensures ∙ sym (length-map (stored c.args.out.now) piece) in
    let to : c.len-to.result ≡ length (codes c.expression.new.out) = c.len-to.ensures ∙ sym (length-map (stored c.expression.new.out) piece) in
    let is : ◌≡◌ {A = Span} (record { from = c.len-from.result; to = c.len-to.result }) (span_of before read.told.0) = cc (from, to ∙ ap length read.told.2) in
    (read.told.0, read.told.1, read.told.2, is)

use Rattle.std.proofs.Common.{◌≡◌, ◌+◌, ◌<◌, true, false, length, codes, sym, ap, ◌∙◌, subst, rules}
use Rattle.std.specs.Iterator.Adapters.{enumerate_source, enumerate_count}
use Rattle.std.specs.Str.{bytes_eq}
use Rattle.script.specs.Pieces.{until, after}
use Rattle.script.proofs.Blocks.{Going, goes_on, ends, finishes}
use Rattle.script.proofs.block.cut_block.Goals as goal

pub returns-then-eq : goal.returns-then-eq
returns-then-eq c =
    let left = (enumerate_source c.loop-count.count-iterator).rest.now in
    let some : 0 < length left = search rules in
    let piece : c.in-Some.line.piece.now ≡ until 0x0A left = search rules in
    let on : bytes_eq (until 0x0A left) (codes "end") ≡ true = ap (λ z. bytes_eq z (codes "end")) (sym piece) ∙ sym c.if-eq.ensures in
    let going = c.loop-count.invariant.3 in
    ends c.args.script.now left (enumerate_count c.loop-count.count-iterator) some going c.loop-count.len c.in-Some.count c.in-Some.line.rest.now c.loop-count.invariant.2 (search rules) (search rules) on

pub loop-count-preserved : goal.loop-count-preserved
loop-count-preserved c =
    let left = (enumerate_source c.loop-count.count-iterator).rest.now in
    let some : 0 < length left = search rules in
    let piece : c.in-Some.line.piece.now ≡ until 0x0A left = search rules in
    let off : bytes_eq (until 0x0A left) (codes "end") ≡ false = ap (λ z. bytes_eq z (codes "end")) (sym piece) ∙ sym c.if-eq.ensures in
    let later : after 0x0A left ≡ (enumerate_source c.next.new.self).rest.now = search rules in
    let one_more : enumerate_count c.loop-count.count-iterator + 1 ≡ enumerate_count c.next.new.self = search rules in
    let on = goes_on c.args.script.now left (enumerate_count c.loop-count.count-iterator) some c.loop-count.invariant.3 off in
    let going = subst (λ k. Going c.args.script.now (enumerate_source c.next.new.self).rest.now k) one_more (subst (λ z. Going c.args.script.now z (enumerate_count c.loop-count.count-iterator + 1)) later on) in
    (search rules, search rules, search rules, going)

pub returns : goal.returns
returns c =
    let left = (enumerate_source c.loop-count.count-iterator).rest.now in
    let none : length left ≡ 0 = search rules in
    finishes c.args.script.now left (enumerate_count c.loop-count.count-iterator) none c.loop-count.invariant.3

use Rattle.std.proofs.Common.{sym, ap, subst}
use Rattle.draft.specs.Loading.{Whole}
use Rattle.draft.proofs.Loaded.{blank_whole}
use Rattle.draft.proofs.store.Draft.new.Goals as goal

pub invariant_of-result : goal.invariant_of-result
invariant_of-result c =
    let w = subst Whole (sym c.in_ok-arenas.ensures) blank_whole in
    record {
      expressions = w.code_in;
      literals = w.bytes_in;
      alternatives = w.terms_in;
      rules = w.alternatives_in;
      rulecount = ap (λ k. k.rules) w.counted;
      branchcount = ap (λ k. k.alternatives) w.counted;
      termcount = ap (λ k. k.terms) w.counted;
      bytecount = ap (λ k. k.bytes) w.counted;
      partcount = ap (λ k. k.parts) w.counted;
    }

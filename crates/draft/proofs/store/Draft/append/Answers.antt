use Rattle.std.proofs.Common.{ap}
use Rattle.draft.proofs.Loaded.{whole_draft}
use Rattle.draft.proofs.store.Draft.append.Goals as goal

pub invariant_of-self : goal.invariant_of-self
invariant_of-self c =
    let w = (c.load.ensures (whole_draft c.args.self.now)).whole_after in
    record {
      expressions = w.code_in;
      literals = w.bytes_in;
      alternatives = w.terms_in;
      rules = w.alternatives_in;
      rulecount = ap (λ k. k.rules) w.counted;
      branchcount = ap (λ k. k.alternatives) w.counted;
      termcount = ap (λ k. k.terms) w.counted;
      bytecount = ap (λ k. k.bytes) w.counted;
      partcount = ap (λ k. k.parts) w.counted;
    }

pub returns : goal.returns
returns c =
    let taken = c.load.ensures (whole_draft c.args.self.now) in
    record { told = taken.told; rules = taken.rules_after }

use Rattle.std.proofs.Common.{None, ap, refl, arith}
use Rattle.std.proofs.lemmas.List.{get_or-replicate}
use Rattle.windows.specs.Chains.{number_of}
use Rattle.windows.proofs.stays.Stays.new.Goals as goal

pub invariant_of-result : goal.invariant_of-result
invariant_of-result c =
    rw c.new.ensures
    (record {
      last_whole = refl;
      starts = λ s low. ap number_of (get_or-replicate 65 s None None (omega arith));
      links = λ i d low. absurd (omega arith);
    })

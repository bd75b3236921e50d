use Rattle.std.proofs.Common.{ℕ, ◌+◌, subst, arith}
use Rattle.fx_dropout.specs.Dropout.{IsCount}
use Rattle.fx_dropout.specs.inner.Places.{IsCoveredIn}
use Rattle.fx_dropout.proofs.Counts.{count_none, count_from, few_from}
use Rattle.fx_dropout.proofs.places.Places.count_covered.Goals as goal

pub places-init : goal.places-init
places-init c = record { counted = count_none _; few = omega arith }

pub places-preserved : goal.places-preserved
places-preserved c =
    let inv = c.places.invariant in
    record {
      counted = count_from (λ n. IsCoveredIn c.args.self.now (n + c.args.from)) c.places.n c.places.count c.from-count.result
          c.is_covered.result c.is_covered.ensures c.from-count.ensures inv.counted;
      few = few_from c.places.count c.places.n c.from-count.result c.is_covered.result c.from-count.ensures inv.few;
    }

pub returns : goal.returns
returns c = subst (λ (k : ℕ). IsCount (λ n. IsCoveredIn c.args.self.now (n + c.args.from)) k c.places.count)
    (omega arith) c.places.invariant.counted

use Rattle.std.proofs.Common.{◌+◌, ◌*◌, ◌/◌, ◌≤◌, ℕ, arith, refl}
use Rattle.fx_fixed.proofs.Roots.{root_below_guess}
use Rattle.fx_fixed.proofs.vectors.root.Goals as goal

pub guesses-preserved : goal.guesses-preserved
guesses-preserved c =
    let i = c.guesses.invariant in
    let next : (k : ℕ) → k * k ≤ c.args.n → k ≤ (c.guesses.guess + c.guesses.quotient) / 2 = λ k h.
    rw i.quotient (root_below_guess c.args.n c.guesses.guess k i.positive h) in
    record {
      positive = next 1 (omega arith);
      bound = omega arith;
      quotient = refl;
      above = next;
    }

-- The table has for each flag how many bytes its deltas take: `sizes_at`.
-- For `sizes_of`.
use Rattle.std.proofs.Common.{◌≡◌, ℕ, zero, suc, ◌-◌, ◌/◌, ◌%◌, ◌<◌, ◌≤◌, ◌&&◌, Bool, true, T, eqb, get_or, arith, inl, inr}
use Rattle.std.proofs.Common.{eq-zero-or-pos, eqb→eq, cond}
use lib.Ieee.Fits.{and_l, and_r}
use Rattle.fx_glyf.specs.Words.{has}
use Rattle.fx_glyf.specs.inner.Sizes.{delta_size, AreSizes}
use Rattle.fx_glyf.specs.declared.flags.DeltaSizes.{DeltaSizes}
use Rattle.fx_glyf.specs.declared.flags.TheConstants.{SIZES}

-- the first n flags have their sizes in the table
abbrev are_sizes : DeltaSizes → ℕ → Bool
are_sizes d zero = true
are_sizes d (suc f) =
    (eqb (get_or SIZES (f / 2 % 32) d).xs (cond (has f 2) 1 (cond (has f 16) 0 2))
    && eqb (get_or SIZES (f / 2 % 32) d).ys (cond (has f 4) 1 (cond (has f 32) 0 2))) && are_sizes d f

below : (d : DeltaSizes) (n f : ℕ) → T (are_sizes d n) → f < n
    → AreSizes f (get_or SIZES (f / 2 % 32) d).xs (get_or SIZES (f / 2 % 32) d).ys
unfolding delta_size
below d zero f t h = absurd (omega arith)
below d (suc n) f t h =
    elim (eq-zero-or-pos (n - f)) [
      | inl z ↦
          let e : f ≡ n = omega arith in
          let a = and_l _ (are_sizes d n) t in
          rw e (eqb→eq _ _ (and_l _ _ a), eqb→eq _ _ (and_r _ _ a))
      | inr g ↦ below d n f (and_r _ (are_sizes d n) t) (omega arith)
    ]

pub sizes_at : (d : DeltaSizes) (f half : ℕ) → f < 256 → half ≡ f / 2
    → AreSizes f (get_or SIZES (half % 32) d).xs (get_or SIZES (half % 32) d).ys
sizes_at d f half h e = rw e (below d 256 f tt h)

size_at_most_two : (short same : Bool) → cond short 1 (cond same 0 2) ≤ 2
size_at_most_two short same = grind arith

-- a delta takes at most two bytes
pub at_most_two : (short same f : ℕ) → delta_size short same f ≤ 2
unfolding delta_size
at_most_two short same f = size_at_most_two (has f short) (has f same)

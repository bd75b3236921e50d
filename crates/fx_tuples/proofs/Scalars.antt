-- The product over axes, one axis at a time, as `scalar_next` says.
-- For `scalar`.
use Rattle.std.proofs.Common.{◌≡◌, ℕ, suc, ◌+◌, ℤ, pos, List, refl, sym, ap, ◌∙◌, add-one}
use Rattle.std.specs.Prelude.{slice_index_or}
use Rattle.fx_tuples.specs.declared.regions.Tent.{Tent}
use Rattle.fx_tuples.specs.Regions.{whole, factor_of, scaled_of, scalar_of}

pub scalar_first : (tents : ℕ → Tent) (vs : List ℤ) → whole ≡ scalar_of tents vs 0
unfolding scalar_of
scalar_first tents vs = refl

scalar_suc : (tents : ℕ → Tent) (vs : List ℤ) (k : ℕ)
    → scalar_of tents vs (suc k) ≡ scaled_of (scalar_of tents vs k) (factor_of (tents k) (slice_index_or vs k (pos 0)))
unfolding scalar_of
scalar_suc tents vs k = refl

pub scalar_next : (tents : ℕ → Tent) (vs : List ℤ) (k s : ℕ) (f : ℕ × ℕ) (t : Tent) (v : ℤ) → s ≡ scalar_of tents vs k
    → t ≡ tents k → v ≡ slice_index_or vs k (pos 0) → f ≡ factor_of t v → scaled_of s f ≡ scalar_of tents vs (k + 1)
scalar_next tents vs k s f t v es et ev ef =
    ap (λ (n : ℕ). scaled_of n f) es
    ∙ ap (scaled_of (scalar_of tents vs k)) (ef ∙ ap (λ (x : Tent). factor_of x v) et ∙ ap (factor_of (tents k)) ev)
    ∙ sym (ap (scalar_of tents vs) (add-one k) ∙ scalar_suc tents vs k)

-- The entries of `cvt `, one at a time, as `entries_next` says.
-- For `whole_controls`.
use Rattle.std.proofs.Common.{◌≡◌, ℕ, zero, suc, ◌+◌, ◌-◌, ◌*◌, ◌<◌, ◌≤◌, List, [], ◌∷◌, ◌++◌, length-append, refl, sym, ap, ◌∙◌, add-one, arith, ℤ, length}
use Rattle.std.specs.Prelude.{replicate}
use Rattle.fx_sfnt.specs.Fields.{signed_field}
use Rattle.fx_moves.specs.declared.point.GivenPoint.{GivenPoint}
use Rattle.fx_moves.specs.Adding.{AreWithin, sums}
use Rattle.fx_vary.specs.Shape.{blank}
use Rattle.fx_vary.specs.Controls.{entries_from, no_sums}
use Rattle.fx_vary.proofs.Listing.{Still, still_within}

entries_suc : (cvt : List ℕ) (k n : ℕ) → entries_from cvt k (suc n) ≡ signed_field cvt (2 * k) ∷ entries_from cvt (suc k) n
unfolding entries_from
entries_suc cvt k n = refl

pub entries_next : (cvt : List ℕ) (k n : ℕ) → k < n
    → entries_from cvt k (n - k) ≡ signed_field cvt (2 * k) ∷ entries_from cvt (k + 1) (n - (k + 1))
entries_next cvt k n h =
    let less : n - k ≡ suc (n - (k + 1)) = omega (arith, h) in
    ap (entries_from cvt k) less ∙ entries_suc cvt k (n - (k + 1))
    ∙ ap (λ (j : ℕ). signed_field cvt (2 * k) ∷ entries_from cvt j (n - (k + 1))) (sym (add-one k))

pub entries_none : (cvt : List ℕ) (k n : ℕ) → n ≤ k → entries_from cvt k (n - k) ≡ []
unfolding entries_from
entries_none cvt k n h = let none : n - k ≡ 0 = omega (arith, h) in ap (entries_from cvt k) none

-- one more value
pub longer : (next list : List ℤ) (v : ℤ) (k : ℕ) → next ≡ list ++ v ∷ [] → length list ≡ k → length next ≡ k + 1
longer next list v k e h = omega (arith, ap length e, length-append list (v ∷ []), h)

pub sums_filled : (n : ℕ) → replicate n blank ≡ no_sums n
sums_filled zero = refl
sums_filled (suc n) = ap (λ (ps : List GivenPoint). blank ∷ ps) (sums_filled n)

sums_still : (n : ℕ) → Still (no_sums n)
unfolding Still
sums_still zero = tt
sums_still (suc n) = (refl, sums_still n)

pub sums_within : (n : ℕ) (ps : List GivenPoint) → ps ≡ no_sums n → AreWithin 0 (sums ps)
sums_within n ps e = rw e (still_within (no_sums n) (sums_still n))

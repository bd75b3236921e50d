-- Deltas given to all points in order, one at a time, as `counted_more` says.
-- For `give_all`.
use Rattle.std.proofs.Common.{◌≡◌, ℕ, suc, ◌+◌, ◌-◌, ◌<◌, ◌≤◌, ℤ, List, [], ◌∷◌, refl, sym, ap, ◌∙◌, arith, add-one}
use Rattle.fx_moves.specs.declared.point.GivenPoint.{GivenPoint}
use Rattle.fx_moves.specs.Giving.{one_given, all_given}
use Rattle.fx_moves.specs.Moves.{count_up}
use Rattle.fx_moves.proofs.Given.{one_more, out_of_numbers}

count_suc : (k n : ℕ) → count_up k (suc n) ≡ k ∷ count_up (suc k) n
unfolding count_up
count_suc k n = refl

pub count_next : (k n : ℕ) → k < n → count_up k (n - k) ≡ k ∷ count_up (k + 1) (n - (k + 1))
count_next k n h =
    let less : n - k ≡ suc (n - (k + 1)) = omega arith in
    ap (count_up k) less ∙ count_suc k (n - (k + 1)) ∙ ap (λ (j : ℕ). k ∷ count_up j (n - (k + 1))) (sym (add-one k))

count_none : (k n : ℕ) → n ≤ k → count_up k (n - k) ≡ []
unfolding count_up
count_none k n h = let none : n - k ≡ 0 = omega arith in ap (count_up k) none

pub counted_more : (k n : ℕ) (d : ℤ) (cs ds : List ℤ) (points next t : List GivenPoint) → k < n → cs ≡ d ∷ ds
    → next ≡ one_given k d points → all_given (count_up k (n - k)) cs points ≡ t
    → all_given (count_up (k + 1) (n - (k + 1))) ds next ≡ t
counted_more k n d cs ds points next t h e g s =
    one_more k (count_up k (n - k)) (count_up (k + 1) (n - (k + 1))) d cs ds points next (count_next k n h) e g ∙ s

pub counted_end : (k n : ℕ) (cs : List ℤ) (points t : List GivenPoint) → n ≤ k → all_given (count_up k (n - k)) cs points ≡ t
    → points ≡ t
counted_end k n cs points t h s = out_of_numbers (count_up k (n - k)) cs points (count_none k n h) ∙ s

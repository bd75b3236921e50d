-- Places with a property, counted one by one, have one count: `count_is_one`.
-- Serves `nearer`.
use Rattle.std.proofs.Common.{◌≡◌, ◌↔◌, inl, inr, refl, sym, ap, ◌∙◌, subst, Bool, true, false, IsTrue, ℕ, zero, suc, ◌+◌}
use Rattle.std.proofs.Common.{◌<◌, ◌≤◌, arith}
use Rattle.std.specs.Int.{from_bool}
use Rattle.fx_winding.proofs.Places.{clash}
use Rattle.fx_dropout.specs.Dropout.{IsCount}

pub count_none : (P : ℕ → Type 0) → IsCount P 0 0
unfolding IsCount
count_none P = refl

pub count_more : (P : ℕ → Type 0) (n m : ℕ) → P n → IsCount P n m → IsCount P (n + 1) (m + 1)
unfolding IsCount
count_more P n m p h =
    let e : suc n ≡ n + 1 = omega arith in
    let d : suc m ≡ m + 1 = omega arith in
    subst (λ (k : ℕ). IsCount P k (m + 1)) e (inl (p, m, sym d, h))

pub count_same : (P : ℕ → Type 0) (n m : ℕ) → ¬ (P n) → IsCount P n m → IsCount P (n + 1) m
unfolding IsCount
count_same P n m p h =
    let e : suc n ≡ n + 1 = omega arith in
    subst (λ (k : ℕ). IsCount P k m) e (inr (p, h))

-- there is one count
pub count_is_one : (P : ℕ → Type 0) (n a b : ℕ) → IsCount P n a → IsCount P n b → a ≡ b
unfolding IsCount
count_is_one P zero a b h k = h ∙ sym k
count_is_one P (suc n) a b (inl (p, m, e, h)) (inl (q, l, d, k)) = e ∙ ap suc (count_is_one P n m l h k) ∙ sym d
count_is_one P (suc n) a b (inl h) (inr (q, k)) = absurd (q h.0)
count_is_one P (suc n) a b (inr (q, k)) (inl h) = absurd (q h.0)
count_is_one P (suc n) a b (inr (p, h)) (inr (q, k)) = count_is_one P n a b h k

-- the same count of what holds together
pub count_iff : (P Q : ℕ → Type 0) (n m : ℕ) → ((k : ℕ) → k < n → P k ↔ Q k) → IsCount P n m → IsCount Q n m
unfolding IsCount
count_iff P Q zero m e h = h
count_iff P Q (suc n) m e (inl (p, l, d, h)) =
    inl ((e n (omega arith)).0 p, l, d, count_iff P Q n l (λ k b. e k (omega (arith, b))) h)
count_iff P Q (suc n) m e (inr (p, h)) =
    inr (λ q. p ((e n (omega arith)).1 q), count_iff P Q n m (λ k b. e k (omega (arith, b))) h)

-- one more place, with a truth as a number
pub count_from : (P : ℕ → Type 0) (n m k : ℕ) (b : Bool) → (IsTrue b ↔ P n) → k ≡ from_bool b → IsCount P n m
    → IsCount P (n + 1) (m + k)
count_from P n m k b h i j = grind (arith, h, i, j, count_more, count_same, clash)

pub few_from : (m n k : ℕ) (b : Bool) → k ≡ from_bool b → m ≤ n → m + k ≤ n + 1
few_from m n k true e h = omega (arith, e, h)
few_from m n k false e h = omega (arith, e, h)

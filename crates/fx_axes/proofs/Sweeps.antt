-- Sweeps over numbers, one number at a time, as `any_on` and `all_on` say.
-- For `has_axis` and `are_in_order`, and for the loops over offsets in fx_vary.
use Rattle.std.proofs.Common.{◌≡◌, ℕ, suc, ◌+◌, ◌-◌, ◌<◌, ◌≤◌, Bool, true, false, cond, refl, sym, ap, ◌∙◌, arith, add-one}
use Rattle.fx_axes.specs.Sweeps.{any_from, all_from}

any_step : (test : ℕ → Bool) (k n : ℕ) → any_from test k (suc n) ≡ cond (test k) true (any_from test (suc k) n)
unfolding any_from
any_step test k n = refl

all_step : (test : ℕ → Bool) (k n : ℕ) → all_from test k (suc n) ≡ cond (test k) (all_from test (suc k) n) false
unfolding all_from
all_step test k n = refl

fewer : (k n : ℕ) → k < n → n - k ≡ suc (n - (k + 1))
fewer k n h = omega arith

module _ (test : ℕ → Bool) (k n : ℕ) where
  any_at : (b : Bool) → k < n → test k ≡ b → any_from test k (n - k) ≡ cond b true (any_from test (k + 1) (n - (k + 1)))
  any_at b h e =
      ap (any_from test k) (fewer k n h) ∙ any_step test k (n - (k + 1))
      ∙ ap (λ (t : Bool). cond t true (any_from test (suc k) (n - (k + 1)))) e
      ∙ ap (λ (j : ℕ). cond b true (any_from test j (n - (k + 1)))) (sym (add-one k))

  all_at : (b : Bool) → k < n → test k ≡ b → all_from test k (n - k) ≡ cond b (all_from test (k + 1) (n - (k + 1))) false
  all_at b h e =
      ap (all_from test k) (fewer k n h) ∙ all_step test k (n - (k + 1))
      ∙ ap (λ (t : Bool). cond t (all_from test (suc k) (n - (k + 1))) false) e
      ∙ ap (λ (j : ℕ). cond b (all_from test j (n - (k + 1))) false) (sym (add-one k))

  pub any_hit : k < n → test k ≡ true → any_from test k (n - k) ≡ any_from test 0 n → true ≡ any_from test 0 n
  any_hit h e s = sym (any_at true h e) ∙ s

  pub any_on : k < n → test k ≡ false → any_from test k (n - k) ≡ any_from test 0 n
      → any_from test (k + 1) (n - (k + 1)) ≡ any_from test 0 n
  any_on h e s = sym (any_at false h e) ∙ s

  pub any_end : n ≤ k → any_from test k (n - k) ≡ any_from test 0 n → false ≡ any_from test 0 n
  unfolding any_from
  any_end h s = let z : n - k ≡ 0 = omega arith in sym (ap (any_from test k) z) ∙ s

  pub all_miss : k < n → test k ≡ false → all_from test k (n - k) ≡ all_from test 0 n → false ≡ all_from test 0 n
  all_miss h e s = sym (all_at false h e) ∙ s

  pub all_on : k < n → test k ≡ true → all_from test k (n - k) ≡ all_from test 0 n
      → all_from test (k + 1) (n - (k + 1)) ≡ all_from test 0 n
  all_on h e s = sym (all_at true h e) ∙ s

  pub all_end : n ≤ k → all_from test k (n - k) ≡ all_from test 0 n → true ≡ all_from test 0 n
  unfolding all_from
  all_end h s = let z : n - k ≡ 0 = omega arith in sym (ap (all_from test k) z) ∙ s

-- Of two greatest numbers neither is less (`greatest_below`), and a search from above finds one: `passing`.
-- For the uniqueness of `unit`.
use Rattle.std.proofs.Common.{◌≡◌, ◌≢◌, ℕ, zero, suc, ◌≤◌, Bool, true, false, cond, arith, refl, sym, ◌∙◌, ap}
use Rattle.fx_fixed.specs.Greatest.{IsGreatestOrZero, greatest_passing}

-- of two greatest numbers of one kind neither is less
pub greatest_below : (P : ℕ → Type 0) (c d : ℕ) → IsGreatestOrZero P c → IsGreatestOrZero P d → c ≤ d
greatest_below P zero d g h = omega arith
greatest_below P (suc c) d g h = h.greatest (suc c) (g.member (omega arith))

-- g is the greatest number up to n that passes, or 0
pub record Passing (test : ℕ → Bool) (n g : ℕ) : Type 0 where
  pub passes : g ≢ 0 → test g ≡ true
  pub greatest : (k : ℕ) → 1 ≤ k → k ≤ n → test k ≡ true → k ≤ g

-- one step of the search, by what the test says
passing_step : (test : ℕ → Bool) (n g : ℕ) (b : Bool) → test (suc n) ≡ b → Passing test n g
    → Passing test (suc n) (cond b (suc n) g)
passing_step test n g true e h = record { passes = λ z. e; greatest = λ k one l t. l }
passing_step test n g false e h = record {
  passes = h.passes;
  greatest = λ k one l t.
      let other : k ≡ suc n → ⊥ = λ i. let clash : true ≡ false = sym t ∙ ap test i ∙ e in cc in
      h.greatest k one (omega arith) t;
}

-- the search goes down from n
pub passing : (test : ℕ → Bool) (n : ℕ) → Passing test n (greatest_passing test n)
unfolding greatest_passing
passing test zero = record { passes = λ z. absurd (z refl); greatest = λ k one l t. omega arith }
passing test (suc n) = passing_step test n (greatest_passing test n) (test (suc n)) refl (passing test n)

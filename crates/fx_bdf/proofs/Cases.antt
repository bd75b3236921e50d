-- A number is below another or not (`split`), and a test that is not set is false (`not_set`).
-- Serves the other files here.
use Rattle.std.proofs.Common.{◌≡◌, ℕ, ◌<◌, ◌≤◌, Bool, true, false, refl, nat_lt}
use Rattle.std.proofs.lemmas.Bool.{ltb-true, ltb-false}

split_by : {P : Type 0} (k n : ℕ) (t : Bool) → nat_lt k n ≡ t → (k < n → P) → (n ≤ k → P) → P
split_by k n true e low high = low (ltb-true k n e)
split_by k n false e low high = high (ltb-false k n e)

-- a number is below another or not
pub split : {P : Type 0} (k n : ℕ) → (k < n → P) → (n ≤ k → P) → P
split {P} k n low high = split_by {P = P} k n (nat_lt k n) refl low high

pub not_set : (b : Bool) → (b ≡ true → ⊥) → b ≡ false
not_set true h = absurd (h refl)
not_set false h = refl

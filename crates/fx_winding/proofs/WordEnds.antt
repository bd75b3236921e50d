-- The first and the last bit of a word that is not 0: `first_bit`, `last_bit`.
-- Serves `words`.
use Rattle.std.proofs.Common.{◌≡◌, ap, ◌∙◌, ℕ, suc, ◌+◌, ◌-◌, ◌*◌, ◌^◌, ◌<◌, ◌≤◌, arith, w32}
use Rattle.std.specs.Int.{bit_at}
use Rattle.std.specs.Int.Count.{count_leading_zeros, count_trailing_zeros}
use Rattle.std.proofs.Math.Nat.{pow-succ'}
use Rattle.std.proofs.lemmas.Nat.{leading_top}
use Rattle.std.proofs.lemmas.Nat.Bits.{bit_at_cat_high, bit_at_above, bit_at-trailing_zeros}

-- a number from 2 ^ j up to below 2 ^ (j + 1) has the bit j
top_bit : (a j : ℕ) → 2 ^ j ≤ a → a < 2 ^ suc j → bit_at a j ≡ 1
top_bit a j h k =
    let e : a ≡ 1 * 2 ^ j + (a - 2 ^ j) = omega arith in
    let twice : 2 ^ suc j ≡ 2 * 2 ^ j = pow-succ' 2 j in
    let zero_j : j - j ≡ 0 = omega arith in
    ap (λ n. bit_at n j) e
    ∙ bit_at_cat_high 1 j (a - 2 ^ j) j (omega (arith, twice, h, k)) (omega arith)
    ∙ ap (bit_at 1) zero_j

pub first_bit : (a : ℕ) → 0 < a → a < 4294967296 → bit_at a (31 - count_leading_zeros 32 a) ≡ 1
first_bit a h k = grind (arith, leading_top 32 a h k, top_bit)

pub none_before : (a i : ℕ) → 0 < a → a < 4294967296 → i < count_leading_zeros 32 a → bit_at a (31 - i) ≡ 0
none_before a i h k l = let t = leading_top 32 a h k in bit_at_above a (suc t.0) (31 - i) t.3 (omega (arith, t.1))

pub last_bit : (a : ℕ) → 0 < a → a < 4294967296 → bit_at a (31 - (31 - count_trailing_zeros 32 a)) ≡ 1
last_bit a h k = grind (arith, bit_at-trailing_zeros w32 a h k)

pub none_after : (a i : ℕ) → 0 < a → a < 4294967296 → 31 - count_trailing_zeros 32 a < i → i < 32 → bit_at a (31 - i) ≡ 0
none_after a i h k l m = let t = bit_at-trailing_zeros w32 a h k in t.2 (31 - i) (omega (arith, t.0))

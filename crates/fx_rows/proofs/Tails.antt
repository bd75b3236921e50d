-- The word with all bits from a column on sets these bits (`set_from`) or clears them (`clear_from`), and no bit before.
-- Serves the words whose bits change at a column.
use Rattle.std.proofs.Common.{◌≡◌, ◌⊎◌, inl, inr, ◌∙◌, ap, sym, ℕ, zero, suc, ◌+◌, ◌-◌, ◌/◌, ◌*◌, ◌<◌, ◌≤◌, ◌^◌, arith}
use Rattle.std.proofs.Common.{bit_and, bit_or, bit_xor, ◌%◌}
use Rattle.std.specs.Int.{bit_at}
use Rattle.std.proofs.lemmas.Nat.{and_le_l}
use Rattle.std.proofs.lemmas.Nat.Bits.{bit_at_or, bit_at_and, bit_at_xor, bit_at-lt, bit_at-suc, bit_at_lowest, bit_at_ones, bit_at_ones_above}
use Rattle.std.proofs.lemmas.Nat.Bits.{bit_at_mask_inside, bit_at_mask_below, ones_shr, ones_shl}
use Rattle.fx_fixed.proofs.Order.{below_or_not}

-- the word of all bits from a column on
abbrev tail : ℕ → ℕ
tail c = 4294967295 / 2 ^ c

tail_before : (c i : ℕ) → c < 32 → i < c → bit_at (tail c) (31 - i) ≡ 0
tail_before c i h l =
    ap (λ n. bit_at n (31 - i)) (ones_shr 32 c (omega arith)) ∙ bit_at_ones_above (32 - c) (31 - i) (omega arith)

tail_from : (c i : ℕ) → c < 32 → c ≤ i → i < 32 → bit_at (tail c) (31 - i) ≡ 1
tail_from c i h l k = ap (λ n. bit_at n (31 - i)) (ones_shr 32 c (omega arith)) ∙ bit_at_ones (32 - c) (31 - i) (omega arith)

pub set_before : (word c i : ℕ) → c < 32 → i < c → bit_at (bit_or word (tail c)) (31 - i) ≡ bit_at word (31 - i)
set_before word c i h l = omega (arith, bit_at_or word (tail c) (31 - i), tail_before c i h l)

pub set_from : (word c i : ℕ) → c < 32 → c ≤ i → i < 32 → bit_at (bit_or word (tail c)) (31 - i) ≡ 1
set_from word c i h l k = omega (arith, bit_at_or word (tail c) (31 - i), tail_from c i h l k, bit_at-lt word (31 - i))

pub clear_before : (word c i : ℕ) → c < 32 → i < c
    → bit_at (bit_xor (bit_or word (tail c)) (tail c)) (31 - i) ≡ bit_at word (31 - i)
clear_before word c i h l = grind (arith, h, l, bit_at_xor, set_before, tail_before, bit_at-lt)

pub clear_from : (word c i : ℕ) → c < 32 → c ≤ i → i < 32 → bit_at (bit_xor (bit_or word (tail c)) (tail c)) (31 - i) ≡ 0
clear_from word c i h l k =
    omega (arith, bit_at_xor (bit_or word (tail c)) (tail c) (31 - i), set_from word c i h l k, tail_from c i h l k)

-- ---- the lowest bits of a word
head_fits : (a : ℕ) → a < 32 → 4294967295 * 2 ^ a % 4294967296 ≡ 4294967296 - 2 ^ a
head_fits a h = ones_shl 32 a (omega arith)

one_less : (c word : ℕ) → ((i : ℕ) → i < c → bit_at word i ≡ 0) → bit_at word c ≡ 1 → bit_at (word - 1) c ≡ 0
one_less zero word low one =
    let odd = sym (bit_at_lowest word) ∙ one in bit_at_lowest (word - 1) ∙ omega (arith, odd)
one_less (suc c) word low one =
    let even = sym (bit_at_lowest word) ∙ low 0 (omega arith) in
    let half : (word - 1) / 2 ≡ word / 2 - 1 = omega (arith, even) in
    bit_at-suc (word - 1) c ∙ ap (λ n. bit_at n c) half
    ∙ one_less c (word / 2) (λ i h. sym (bit_at-suc word i) ∙ low (suc i) (omega arith)) (sym (bit_at-suc word c) ∙ one)

one_less_above : (c word i : ℕ) → ((j : ℕ) → j < c → bit_at word j ≡ 0) → bit_at word c ≡ 1 → c < i
    → bit_at (word - 1) i ≡ bit_at word i
one_less_above c word zero low one h = absurd (omega arith)
one_less_above zero word (suc i) low one h =
    let odd = sym (bit_at_lowest word) ∙ one in
    let half : (word - 1) / 2 ≡ word / 2 = omega (arith, odd) in
    bit_at-suc (word - 1) i ∙ ap (λ n. bit_at n i) half ∙ sym (bit_at-suc word i)
one_less_above (suc c) word (suc i) low one h =
    let even = sym (bit_at_lowest word) ∙ low 0 (omega arith) in
    let half : (word - 1) / 2 ≡ word / 2 - 1 = omega (arith, even) in
    bit_at-suc (word - 1) i ∙ ap (λ n. bit_at n i) half
    ∙ one_less_above c (word / 2) i (λ j l. sym (bit_at-suc word j) ∙ low (suc j) (omega arith))
    (sym (bit_at-suc word c) ∙ one) (omega arith)
    ∙ sym (bit_at-suc word i)

pub first_gone : (c word i : ℕ) → ((j : ℕ) → j < c → bit_at word j ≡ 0) → bit_at word c ≡ 1 → i ≤ c
    → bit_at (bit_and word (word - 1)) i ≡ 0
first_gone c word i low one h = grind (arith, low, one, h, bit_at_and, one_less, below_or_not i c)

pub first_rest : (c word i : ℕ) → ((j : ℕ) → j < c → bit_at word j ≡ 0) → bit_at word c ≡ 1 → c < i
    → bit_at (bit_and word (word - 1)) i ≡ bit_at word i
first_rest c word i low one h = omega (arith, bit_at_and word (word - 1) i, one_less_above c word i low one h)

pub lowest_gone : (word : ℕ) → bit_at (bit_and word (4294967295 * 2 ^ 1 % 4294967296)) 0 ≡ 0
lowest_gone word =
    let y : bit_at (4294967295 * 2 ^ 1 % 4294967296) 0 ≡ 0 =
    ap (λ (n : ℕ). bit_at n 0) (head_fits 1 (omega arith)) ∙ bit_at_mask_below 1 32 0 (omega arith) in
    omega (arith, bit_at_and word (4294967295 * 2 ^ 1 % 4294967296) 0, y)

pub lowest_rest : (word i : ℕ) → 0 < i → i < 32 → bit_at (bit_and word (4294967295 * 2 ^ 1 % 4294967296)) i ≡ bit_at word i
lowest_rest word i h l =
    let y : bit_at (4294967295 * 2 ^ 1 % 4294967296) i ≡ 1 =
    ap (λ (n : ℕ). bit_at n i) (head_fits 1 (omega arith)) ∙ bit_at_mask_inside 1 32 i (omega arith) (omega arith) in
    omega (arith, bit_at_and word (4294967295 * 2 ^ 1 % 4294967296) i, y, bit_at-lt word i)

-- ---- the word of the bits from a column to another
pub between_inside : (b a i : ℕ) → b < 32 → a < 32 → b ≤ i → i + a < 32
    → bit_at (bit_and (tail b) (4294967295 * 2 ^ a % 4294967296)) (31 - i) ≡ 1
between_inside b a i h k l m =
    let x = tail_from b i h l (omega arith) in
    let y : bit_at (4294967295 * 2 ^ a % 4294967296) (31 - i) ≡ 1 =
    ap (λ (n : ℕ). bit_at n (31 - i)) (head_fits a k) ∙ bit_at_mask_inside a 32 (31 - i) (omega arith) (omega arith) in
    omega (arith, bit_at_and (tail b) (4294967295 * 2 ^ a % 4294967296) (31 - i), x, y)

pub between_outside : (b a i : ℕ) → b < 32 → a < 32 → i < 32 → (i < b) ⊎ (32 ≤ i + a)
    → bit_at (bit_and (tail b) (4294967295 * 2 ^ a % 4294967296)) (31 - i) ≡ 0
between_outside b a i h k l (inl m) =
    let x = tail_before b i h m in omega (arith, bit_at_and (tail b) (4294967295 * 2 ^ a % 4294967296) (31 - i), x)
between_outside b a i h k l (inr m) =
    let y : bit_at (4294967295 * 2 ^ a % 4294967296) (31 - i) ≡ 0 =
    ap (λ (n : ℕ). bit_at n (31 - i)) (head_fits a k) ∙ bit_at_mask_below a 32 (31 - i) (omega arith) in
    omega (arith, bit_at_and (tail b) (4294967295 * 2 ^ a % 4294967296) (31 - i), y)

-- a word without one of its bits is less
pub fewer : (word m j : ℕ) → bit_at word j ≡ 1 → bit_at (bit_and word m) j ≡ 0 → bit_and word m < word
fewer word m j h k = grind (arith, h, k, and_le_l, below_or_not (bit_and word m) word)

pub ruleset rests = (set_before, set_from, clear_before, clear_from)

-- A word moved by one bit and joined with the word before has the bits of the left neighbours: `left_before`.
-- Serves `open`.
use Rattle.std.proofs.Common.{◌≡◌, ◌↔◌, sym, ap, ◌∙◌, ℕ, zero, suc, ◌+◌, ◌-◌, ◌*◌, ◌/◌, ◌%◌, ◌<◌, ◌^◌, min, max, w32}
use Rattle.std.proofs.Common.{bit_or, bit_and, arith}
use Rattle.std.specs.Int.{bit_at}
use Rattle.std.proofs.lemmas.Nat.{or_of_32}
use Rattle.std.proofs.lemmas.Nat.Bits.{bit_at_or, bit_at_and, bit_at_not, bit_at-lt, bit_at-zero, bit_at_above}
use Rattle.std.proofs.lemmas.Nat.Bits.{bit_at_cat_high, bit_at_cat_low, bit_at-suc, bit_at_lowest}
use Rattle.fx_dropout.specs.inner.Closing.{left_bit, IsOpen}

-- of the word before only the last bit is carried, to the first
carried : (before : ℕ) → before * 2147483648 % 4294967296 ≡ (before % 2) * 2 ^ 31 + 0
carried before = omega arith

carried_first : (before : ℕ) → bit_at (before * 2147483648 % 4294967296) 31 ≡ bit_at before 0
carried_first before = grind (arith, carried, bit_at_cat_high, bit_at_lowest)

carried_rest : (before i : ℕ) → 0 < i → bit_at (before * 2147483648 % 4294967296) (31 - i) ≡ 0
carried_rest before i h =
    ap (λ n. bit_at n (31 - i)) (carried before)
    ∙ bit_at_cat_low (before % 2) 31 0 (31 - i) (omega arith)
    ∙ bit_at-zero (31 - i)

-- the bits of left neighbours
left_first : (before word : ℕ) → word < 4294967296
    → bit_at (bit_or (before * 2147483648 % 4294967296) (word / 2)) 31 ≡ bit_at before 0
left_first before word fits =
    let a = carried_first before in
    let b = bit_at_above (word / 2) 31 31 (omega (arith, fits)) (omega arith) in
    omega (arith, bit_at_or (before * 2147483648 % 4294967296) (word / 2) 31, a, b, bit_at-lt before 0)

left_inner : (before word i : ℕ) → 0 < i → i < 32
    → bit_at (bit_or (before * 2147483648 % 4294967296) (word / 2)) (31 - i) ≡ bit_at word (32 - i)
left_inner before word i h l =
    let a = carried_rest before i h in
    let e : suc (31 - i) ≡ 32 - i = omega (arith, l) in
    let b = sym (bit_at-suc word (31 - i)) ∙ ap (bit_at word) e in
    omega (arith, bit_at_or (before * 2147483648 % 4294967296) (word / 2) (31 - i), a, b, bit_at-lt (word / 2) (31 - i))

pub left_before : (before word c : ℕ) → word < 4294967296 → c < 32
    → bit_at (bit_or (before * 2147483648 % 4294967296) (word / 2)) (31 - c) ≡ left_bit before word c
left_before before word zero fits l = left_first before word fits
left_before before word (suc c) fits l =
    let e : 32 - suc c ≡ 31 - c = omega (arith, l) in left_inner before word (suc c) (omega arith) l ∙ ap (bit_at word) e

-- ---- the segments that are open
-- what is left of a word without the bits of another
without_bit : (word t i : ℕ) → t < 4294967296 → i < 32
    → bit_at (bit_and word (4294967295 - t)) i ≡ min (bit_at word i) (1 - bit_at t i)
without_bit word t i fits l =
    bit_at_and word (4294967295 - t) i ∙ ap (min (bit_at word i)) (bit_at_not w32 t i fits l)

open_of : (a noted here next : ℕ) → a ≡ min noted (1 - max here next) → noted < 2 → here < 2 → next < 2
    → (a ≡ 1) ↔ IsOpen noted here next
open_of a noted here next e l m n = grind (arith, e, l, m, n)

pub open_bit : (noted here next i : ℕ) → here < 4294967296 → next < 4294967296 → i < 32
    → (bit_at (bit_and noted (4294967295 - bit_or here next)) i ≡ 1) ↔ IsOpen (bit_at noted i) (bit_at here i) (bit_at next i)
open_bit noted here next i fh fn l = grind (arith, fh, fn, l, open_of, without_bit, or_of_32, bit_at_or, bit_at-lt)

-- The lanes of two words are their digits, since each byte stands in two neighbouring lanes: `pair_text`.
-- Serves the digits of a word.
use Rattle.std.proofs.Common.{◌≡◌, ℕ, zero, suc, ◌+◌, ◌*◌, ◌/◌, ◌%◌, ◌^◌, ◌<◌, List, [], ◌∷◌, ◌++◌, true, ap, ◌∙◌, refl, arith}
use Rattle.std.proofs.Common.{nat_lt}
use Rattle.std.proofs.lemmas.Nat.{and_mask}
use Rattle.std.specs.Prelude.{cond}
use Rattle.std.specs.Int.Bits.{bit_and, bit_or, and_zero_r, or_zero_r}
use Rattle.std.specs.Fmt.{digit_glyph}
use lib.Lanes.{top}
use Rattle.fx_bdf.specs.inner.Lines.{word_text}
use Rattle.std.proofs.lemmas.Bool.Decides.{nat_tests}

-- the digit of a lane with a number below 16
abbrev digit_lane : ℕ → ℕ
digit_lane n = ((n + 48) % 256 + cond (top 7 (cond (nat_lt 9 n) 255 0)) 7 0) % 256

digit_is : (n : ℕ) → n < 16 → digit_lane n ≡ digit_glyph true n
digit_is n h = grind (arith, nat_tests, h)

-- a byte's high and low four bits
abbrev high_lane : ℕ → ℕ
high_lane x = bit_or (bit_and (x / 16) 15) (bit_and x 0)

abbrev low_lane : ℕ → ℕ
low_lane x = bit_or (bit_and (x / 16) 0) (bit_and x 15)

high_is : (x q : ℕ) → x / 16 % 16 ≡ q → digit_lane (high_lane x) ≡ digit_glyph true q
high_is x q e =
    let is : high_lane x ≡ q = grind (arith, e, and_mask (x / 16) 4, and_zero_r x, or_zero_r) in
    ap digit_lane is ∙ digit_is q (omega (arith, e))

low_is : (x q : ℕ) → x % 16 ≡ q → digit_lane (low_lane x) ≡ digit_glyph true q
low_is x q e =
    let is : low_lane x ≡ q = (λ i. bit_or (and_zero_r (x / 16) i) (and_mask x 4 i)) ∙ e in
    ap digit_lane is ∙ digit_is q (omega (arith, e))

-- the two lanes of a byte
abbrev lanes : ℕ → List ℕ → List ℕ
lanes b rest = digit_lane (high_lane b) ∷ digit_lane (low_lane b) ∷ rest

byte_text : (b high low : ℕ) (rest more : List ℕ) → b / 16 % 16 ≡ high → b % 16 ≡ low → rest ≡ more
    → lanes b rest ≡ digit_glyph true high ∷ digit_glyph true low ∷ more
byte_text b high low rest more h l e = λ i. high_is b high h i ∷ low_is b low l i ∷ e i

-- the lanes of the four bytes of a word are its digits
four_bytes : (w a b c d : ℕ) (rest more : List ℕ) → a ≡ w / 16777216 % 256 → b ≡ w / 65536 % 256 → c ≡ w / 256 % 256 → d ≡ w % 256
    → rest ≡ more → lanes a (lanes b (lanes c (lanes d rest))) ≡ word_text w ++ more
four_bytes w a b c d rest more b3 b2 b1 b0 e =
    byte_text a (w / 2 ^ 28 % 16) (w / 2 ^ 24 % 16) _ _ (omega (arith, b3)) (omega (arith, b3))
    (byte_text b (w / 2 ^ 20 % 16) (w / 2 ^ 16 % 16) _ _ (omega (arith, b2)) (omega (arith, b2))
    (byte_text c (w / 2 ^ 12 % 16) (w / 2 ^ 8 % 16) _ _ (omega (arith, b1)) (omega (arith, b1))
    (byte_text d (w / 2 ^ 4 % 16) (w % 16) rest more (omega (arith, b0)) (omega (arith, b0)) e)))

-- a byte of a number, counted from the lowest
abbrev byte_at : ℕ → ℕ → ℕ
byte_at p zero = p % 256
byte_at p (suc k) = byte_at (p / 256) k

-- the lanes of two words: a number holds the first in its lower half
pub pair_text : (v w : ℕ) → v < 4294967296 → w < 4294967296 → let p = v + 4294967296 * (w + 0) in
    lanes (byte_at p 3) (lanes (byte_at p 2) (lanes (byte_at p 1) (lanes (byte_at p 0)
    (lanes (byte_at p 7) (lanes (byte_at p 6) (lanes (byte_at p 5) (lanes (byte_at p 4) [])))))))
    ≡ word_text v ++ word_text w
pair_text v w h k =
    let p = v + 4294967296 * (w + 0) in
    four_bytes v (byte_at p 3) (byte_at p 2) (byte_at p 1) (byte_at p 0) _ _ (omega arith) (omega arith) (omega arith) (omega arith)
    (four_bytes w (byte_at p 7) (byte_at p 6) (byte_at p 5) (byte_at p 4) [] [] (omega arith) (omega arith) (omega arith)
    (omega arith) refl)

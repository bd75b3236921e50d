-- What a segment costs, by its bit: `unset_price`, `set_price`. Work that goes past a limit early stays past it: `past_within`.
-- Serves `work`.
use Rattle.std.proofs.Common.{◌≡◌, ◌≢◌, ◌∙◌, ℕ, ◌+◌, ◌-◌, ◌*◌, ◌/◌, ◌%◌, ◌<◌, ◌≤◌, ℤ, pos, ◌+ℤ◌, ◌-ℤ◌, Bool, List, get_or, Some}
use Rattle.std.proofs.Common.{None, arith}
use Rattle.std.specs.Prelude.{◌==◌, if◌then◌else◌}
use Rattle.std.specs.Int.{bit_at}
use Rattle.std.proofs.lemmas.Bool.Decides.{nat_tests}
use Rattle.std.proofs.lemmas.Nat.Bits.{bit_at-zero}
use Rattle.fx_winding.specs.Bitmaps.{word_bit}
use Rattle.fx_winding.specs.Winding.{Span, centre}
use Rattle.fx_winding.specs.declared.frame.Frame.{Frame}
use Rattle.fx_dropout.specs.Work.{sum_below, within}
use Rattle.fx_dropout.specs.inner.Pairs.{seen_spans}
use Rattle.fx_dropout.specs.inner.Segments.{segment_price, segment_start, start_across, start_price}
use Rattle.fx_dropout.proofs.Sums.{sum_zero}

-- ---- one segment
pub unset_price : (up : Bool) (f : Frame) (ss : List Span) (bits : List ℕ) (m : ℕ) → word_bit bits m ≢ 1
    → segment_price up f ss bits m ≡ 0
unfolding segment_price
unset_price up f ss bits m n = by (word_bit bits m) n
  where
    by : (b : ℕ) → b ≢ 1 → (if b == 1 then start_price (seen_spans up ss) (segment_start up f m) else 0) ≡ 0
    by b n = grind (arith, nat_tests, n)

pub set_price : (up : Bool) (f : Frame) (ss : List Span) (bits : List ℕ) (m : ℕ) → word_bit bits m ≡ 1
    → segment_price up f ss bits m ≡ start_price (seen_spans up ss) (segment_start up f m)
unfolding segment_price
set_price up f ss bits m e = λ t. if e t == 1 then start_price (seen_spans up ss) (segment_start up f m) else 0

-- the segments of a word without a bit
pub empty_word : (up : Bool) (f : Frame) (ss : List Span) (bits : List ℕ) (w : ℕ) → get_or bits w 0 ≡ 0
    → sum_below 32 (λ k. segment_price up f ss bits (32 * w + k)) ≡ 0
empty_word up f ss bits w e = sum_zero 32 _ (λ k l. unset_price up f ss bits (32 * w + k) (λ h.
    let at : (32 * w + k) / 32 ≡ w = omega (arith, l) in
    let z = (λ t. bit_at (get_or bits (at t) 0) (31 - (32 * w + k) % 32)) ∙ (λ t. bit_at (e t) (31 - (32 * w + k) % 32))
    ∙ bit_at-zero (31 - (32 * w + k) % 32) in
    omega (arith, h, z)))

-- where a segment of the frame comes from
pub start_is : (left : ℤ) (width : ℕ) (bottom : ℤ) (height column row : ℕ) → column ≤ width → row < height
    → start_across left width bottom height column row ≡ Some (centre ((left -ℤ pos 1) +ℤ pos column) (bottom +ℤ pos row))
start_is left width bottom height column row k l = grind (arith, nat_tests, k, l)

-- ---- limits
pub past_within : (most part whole : ℕ) → None ≡ within most part → part ≤ whole → None ≡ within most whole
past_within most part whole h l = grind (arith, nat_tests, h, l)

pub some_within : (most work sum : ℕ) → Some sum ≡ within most work → (sum ≡ work) × (sum ≤ most)
some_within most work sum h = grind (arith, nat_tests, h)

pub all_within : (most work whole : ℕ) → work ≡ whole → work ≤ most → Some work ≡ within most whole
all_within most work whole e l = grind (arith, nat_tests, e, l)

-- Words of segments that are left one after the other are the open segments of rows (`open_across`), or of columns (`open_up`).
-- Serves `open`.
use Rattle.std.proofs.Common.{◌≡◌, ◌≢◌, ◌⊎◌, ◌↔◌, inl, inr, refl, sym, ◌∙◌, subst, ℕ, zero, suc, ◌+◌, ◌-◌, ◌*◌, ◌/◌, ◌%◌, ◌<◌, ◌≤◌}
use Rattle.std.proofs.Common.{List, ◌∷◌, get_or, slice_set, length, not, nat_eq, false, arith}
use Rattle.std.specs.Int.{bit_at}
use Rattle.std.proofs.lemmas.Bool.Decides.{nat_tests}
use Rattle.std.proofs.lemmas.List.{get_or_past, get_or-set_same, get_or-set_other, length-set}
use Rattle.std.proofs.lemmas.Nat.Bits.{bit_at-zero}
use Rattle.fx_fixed.proofs.Order.{below_or_not}
use Rattle.fx_winding.specs.Bitmaps.{word_bit}
use Rattle.fx_dropout.specs.inner.Closing.{bit_before, bit_in, left_bit, AreLeft, AreLeftIn, AreNone, AreOpen, IsOpen, IsOpenIn}

-- ---- one word after the other
pub none_left : (place : ℕ → ℕ) (IsOpenAt : ℕ → ℕ → Type 0) (old : List ℕ) → AreLeft place IsOpenAt old old 0
none_left place IsOpenAt old = record {
  long = refl;
  opens = λ k c l m. absurd (omega (arith, l));
  others = λ k h. refl;
}

pub more_left : (place : ℕ → ℕ) (IsOpenAt : ℕ → ℕ → Type 0) (old new : List ℕ) (w g : ℕ) → AreLeft place IsOpenAt old new w
    → place w < length new → ((k : ℕ) → k < w → place k ≢ place w)
    → ((c : ℕ) → c < 32 → (bit_at g (31 - c) ≡ 1) ↔ IsOpenAt w c) → AreLeft place IsOpenAt old (slice_set new (place w) g) (w + 1)
more_left place IsOpenAt old new w g left l apart is = record {
  long = length-set new (place w) g ∙ left.long;
  opens = λ k c h m. elim (below_or_not k w) [
    | inl b ↦ subst (λ v. (bit_at v (31 - c) ≡ 1) ↔ IsOpenAt k c) (sym (other (place k) (apart k b))) (left.opens k c b m)
    | inr b ↦ let e : w ≡ k = omega (arith, h, b) in
        subst (λ n. (bit_in (slice_set new (place w) g) (place n) c ≡ 1) ↔ IsOpenAt n c) e
        (subst (λ v. (bit_at v (31 - c) ≡ 1) ↔ IsOpenAt w c) (sym own) (is c m))
  ];
  others = λ k h. other k (h w (omega arith)) ∙ left.others k (λ i m. h i (omega (arith, m)));
}
  where
    own : get_or (slice_set new (place w) g) (place w) 0 ≡ g
    own = get_or-set_same new (place w) g 0 l

    other : (k : ℕ) → k ≢ place w → get_or (slice_set new (place w) g) k 0 ≡ get_or new k 0
    other k n = get_or-set_other new (place w) k g 0 n

-- ---- all words
-- after the last word nothing is noted
pub past_word : (xs : List ℕ) (m : ℕ) → length xs ≤ m / 32 → word_bit xs m ≡ 0
past_word xs m h = (λ t. bit_at (get_or_past xs (m / 32) 0 h t) (31 - m % 32)) ∙ bit_at-zero (31 - m % 32)

past_open : (far : ℕ) (noted words left : List ℕ) (m : ℕ) → length left ≡ length noted → length noted ≤ m / 32
    → (word_bit left m ≡ 1) ↔ IsOpenIn far noted words m
past_open far noted words left m e h =
    let n = past_word noted m h in
    let l = past_word left m (omega (arith, e, h)) in
    (λ t. absurd (omega (arith, t, l)), λ o. absurd (let z = o.noted_is in omega (arith, z, n)))

-- the bit before a bit in its word, or of the word before
before_is : (words : List ℕ) (m : ℕ)
    → left_bit (get_or (0 ∷ words) (m / 32) 0) (get_or words (m / 32) 0) (m % 32) ≡ bit_before 1 words m
before_is words m = by (m / 32) (m % 32) refl refl
  where
    seen : (n : ℕ) → 1 ≤ n → word_bit words (n - 1) ≡ bit_before 1 words n
    seen n h = grind (arith, h, nat_tests)

    by : (w c : ℕ) → m / 32 ≡ w → m % 32 ≡ c → left_bit (get_or (0 ∷ words) w 0) (get_or words w 0) c ≡ bit_before 1 words m
    by zero zero a b = let z : 0 ≡ m = omega (arith, a, b) in bit_at-zero 0 ∙ (λ t. bit_before 1 words (z t))
    by (suc w) zero a b =
        let z : 32 * w + 32 ≡ m = omega (arith, a, b) in
        let q : (32 * w + 32 - 1) / 32 ≡ w = omega arith in
        let r : 31 - (32 * w + 32 - 1) % 32 ≡ 0 = omega arith in
        (λ t. bit_at (get_or words (sym q t) 0) (sym r t)) ∙ seen (32 * w + 32) (omega arith) ∙ (λ t. bit_before 1 words (z t))
    by w (suc c) a b =
        let q : (m - 1) / 32 ≡ w = omega (arith, a, b) in
        let r : 31 - (m - 1) % 32 ≡ 31 - c = omega (arith, a, b) in
        (λ t. bit_at (get_or words (sym q t) 0) (sym r t)) ∙ seen m (omega (arith, b))

pub open_across : (noted words left : List ℕ) → length noted ≡ length words → length left ≡ length noted
    → ((w c : ℕ) → w < length words → c < 32 → (bit_in left w c ≡ 1)
    ↔ IsOpen (bit_in noted w c) (left_bit (get_or (0 ∷ words) w 0) (get_or words w 0) c) (bit_in words w c))
    → AreOpen 1 noted words left
open_across noted words left e f is = record { long = f; bits = λ m. by m (below_or_not (m / 32) (length words)) }
  where
    by : (m : ℕ) → (m / 32 < length words) ⊎ (length words ≤ m / 32) → (word_bit left m ≡ 1) ↔ IsOpenIn 1 noted words m
    by m (inl l) = subst (λ b. (word_bit left m ≡ 1) ↔ IsOpen (word_bit noted m) b (word_bit words m)) (before_is words m)
        (is (m / 32) (m % 32) l (omega arith))
    by m (inr h) = past_open 1 noted words left m f (omega (arith, e, h))

-- words whose bits joined are 0 have none
pub none_set : (words : List ℕ) (bits : ℕ) → (bits ≡ 0 → (k : ℕ) → k < length words → get_or words k 0 ≡ 0)
    → not (nat_eq bits 0) ≡ false → AreNone words
none_set words bits empty e m =
    let zero : bits ≡ 0 = grind (arith, e, nat_tests) in
    grind (arith, empty zero, below_or_not (m / 32) (length words), past_word, bit_at-zero)

-- the segments up columns: those of the lowest row, of the rows between, and of the one after the highest
module _ (words old low mid new : List ℕ) (size : ℕ) (some : size ≤ length words) (long : length old ≡ length words + size)
    (first : AreLeftIn words old low 0 0 0 size) (between : AreLeftIn words low mid size 0 size (length words - size))
    (last : AreLeftIn words mid new (size + (length words - size)) (length words - size) (length words - size) size) where
  low_word : (k : ℕ) → k < size → get_or new k 0 ≡ get_or low (0 + k) 0
  low_word k h =
      let w : k ≡ 0 + k = omega arith in
      last.others k (λ i l e. omega (arith, e, h)) ∙ between.others k (λ i l e. omega (arith, e, h)) ∙ (λ t. get_or low (w t) 0)

  mid_word : (k : ℕ) → size ≤ k → k < length words → get_or new k 0 ≡ get_or mid (size + (k - size)) 0
  mid_word k h l =
      let w : k ≡ size + (k - size) = omega (arith, h) in
      last.others k (λ i m e. omega (arith, e, l, some)) ∙ (λ t. get_or mid (w t) 0)

  old_mid : (k : ℕ) → size ≤ k → get_or low k 0 ≡ get_or old k 0
  old_mid k h = first.others k (λ i l e. omega (arith, e, h, l))

  old_last : (k : ℕ) → length words ≤ k → get_or mid k 0 ≡ get_or old k 0
  old_last k h = between.others k (λ i l e. omega (arith, e, h, l)) ∙ old_mid k (omega (arith, h, some))

  pub open_up : AreOpen (32 * size) old words new
  open_up = record {
    long = last.long ∙ between.long ∙ first.long;
    bits = λ m. by m (below_or_not (m / 32) size) (below_or_not (m / 32) (length words)) (below_or_not (m / 32) (length old));
  }
    where
      by : (m : ℕ) → (m / 32 < size) ⊎ (size ≤ m / 32) → (m / 32 < length words) ⊎ (length words ≤ m / 32)
          → (m / 32 < length old) ⊎ (length old ≤ m / 32) → (word_bit new m ≡ 1) ↔ IsOpenIn (32 * size) old words m
      by m (inl l) h k = grind (arith, l, nat_tests, low_word (m / 32) l, first.opens (m / 32) (m % 32))
      by m (inr l) (inl h) k =
          let w : size + (m / 32 - size) ≡ m / 32 = omega (arith, l) in
          grind (arith, l, h, w, nat_tests, mid_word (m / 32) l h, old_mid (m / 32) l, between.opens (m / 32 - size) (m % 32))
      by m (inr l) (inr h) (inl k) =
          let w : size + (length words - size) + (m / 32 - length words) ≡ m / 32 = omega (arith, some, h) in
          let u : length words - size + (m / 32 - length words) ≡ m / 32 - size = omega (arith, some, h) in
          let z = past_word words m h in
          grind (arith, l, h, k, long, w, u, z, nat_tests, old_last (m / 32) h, last.opens (m / 32 - length words) (m % 32))
      by m (inr l) (inr h) (inr k) = past_open (32 * size) old words new m (last.long ∙ between.long ∙ first.long) k

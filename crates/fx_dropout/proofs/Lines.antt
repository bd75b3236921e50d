-- In a line whose gaps are closed a pixel's bit is 1 exactly if the pixel is set or closes a gap: `line_closed`.
-- Serves `noted`.
use Rattle.std.proofs.Common.{◌≡◌, ◌⊎◌, ◌↔◌, inl, inr, sym, ◌∙◌, subst, ℕ, zero, suc, ◌+◌, ◌-◌, ◌<◌, ◌≤◌, ℤ, pos, ◌+ℤ◌, ◌-ℤ◌}
use Rattle.std.proofs.Common.{List, Any, arith}
use Rattle.std.proofs.Math.Logic.{⊎_map}
use Rattle.std.proofs.lemmas.Bool.Decides.{nat_tests}
use Rattle.std.proofs.lemmas.Nat.Bits.{bit_at-lt}
use Rattle.fx_fixed.proofs.Linear.{signed_linear}
use Rattle.fx_fixed.proofs.Order.{below_or_not}
use Rattle.fx_winding.specs.Bitmaps.{word_bit}
use Rattle.fx_winding.specs.Meets.{IsMet}
use Rattle.fx_winding.specs.Winding.{Span, centre}
use Rattle.fx_dropout.specs.Dropout.{IsGap, IsClosedByLeft, IsClosedByRight, IsBridged}
use Rattle.fx_dropout.specs.inner.Closing.{bit_before, IsClosed, IsOpen, IsOpenIn}

-- bits of pixels and of segments, at some places, for what is set and what pieces meet in a row, from a column on
pub record IsLine (ss : List Span) (In Right So : ℤ → ℤ → Type 0) (first j : ℤ) (count far : ℕ) (words noted : List ℕ)
    (Reaches : ℕ → Type 0) (place : ℕ → ℕ) : Type 0 where
  pub step : (n : ℕ) → place n + far ≡ place (suc n)
  pub set : (n : ℕ) → n < count → (word_bit words (place n) ≡ 1) ↔ So (first +ℤ pos n) j
  pub start : bit_before far words (place 0) ≡ 0
  pub end : word_bit words (place count) ≡ 0
  pub none : (i : ℤ) → ¬ (In i j) → ¬ (So i j)
  pub tells : (k : ℕ) → k ≤ count → ¬ (So ((first -ℤ pos 1) +ℤ pos k) j) → ¬ (So (first +ℤ pos k) j)
      → (word_bit noted (place k) ≡ 1) ↔ Any (IsMet (centre ((first -ℤ pos 1) +ℤ pos k) j) (centre (first +ℤ pos k) j)) ss
  pub inside : (n : ℕ) → n < count → In (first +ℤ pos n) j
  pub before : ¬ (In (first -ℤ pos 1) j)
  pub after : ¬ (In (first +ℤ pos count) j)
  pub first_is : Reaches (place 0)
  pub next_is : (n : ℕ) → n < count → Reaches (place (suc n)) ↔ (Right (first +ℤ pos n) j × In ((first +ℤ pos n) +ℤ pos 1) j)

-- a bit of 0
zero_of : (b : ℕ) (P : Type 0) → b < 2 → (b ≡ 1) ↔ P → ¬ P → b ≡ 0
zero_of b P h i j = grind (arith, signed_linear, h, i, j)

unset : (b : ℕ) (P : Type 0) → (b ≡ 1) ↔ P → b ≡ 0 → ¬ P
unset b P is z p = let e = is.1 p in omega (arith, e, z)

open_gap : (ss : List Span) (So : ℤ → ℤ → Type 0) (i p q j : ℤ) (noted here next : ℕ) → i ≡ p → i +ℤ pos 1 ≡ q
    → (here ≡ 0) ↔ ¬ (So p j) → (next ≡ 0) ↔ ¬ (So q j)
    → (¬ (So p j) → ¬ (So q j) → (noted ≡ 1) ↔ Any (IsMet (centre p j) (centre q j)) ss) → IsOpen noted here next ↔ IsGap ss So i j
open_gap ss So i p q j noted here next e f off off' tells = grind (arith, e, f, off, off', tells)

-- of the gap after a pixel
left_is : (ss : List Span) (In Right So : ℤ → ℤ → Type 0) (i j : ℤ) (Open Next : Type 0) → In (i +ℤ pos 1) j ⊎ ¬ (In (i +ℤ pos 1) j)
    → Open ↔ IsGap ss So i j → Next ↔ (Right i j × In (i +ℤ pos 1) j) → (Open × ¬ Next) ↔ IsClosedByLeft ss In Right So i j
left_is ss In Right So i j Open Next after gap chosen = grind (arith, after, gap, chosen)

-- of the gap before one
right_is : (ss : List Span) (In Right So : ℤ → ℤ → Type 0) (i j : ℤ) (Open R : Type 0) → Open ↔ IsGap ss So i j
    → R ↔ (Right i j ⊎ ¬ (In i j)) → (Open × R) ↔ IsClosedByRight ss In Right So i j
right_is ss In Right So i j Open R gap chosen =
    (λ h. record { gap = gap.0 h.0; chosen = chosen.0 h.1 }, λ c. (gap.1 c.gap, chosen.1 c.chosen))

-- the bit before another
pub before_first : (far : ℕ) (words : List ℕ) (m : ℕ) → m < far → bit_before far words m ≡ 0
before_first far words m l = grind (arith, l, nat_tests)

pub before_past : (far : ℕ) (words : List ℕ) (m : ℕ) → far ≤ m → bit_before far words m ≡ word_bit words (m - far)
before_past far words m h = grind (arith, h, nat_tests)

module _ (ss : List Span) (In Right So : ℤ → ℤ → Type 0) (first j : ℤ) (count far : ℕ) (words noted : List ℕ)
    (Reaches : ℕ → Type 0) (place : ℕ → ℕ) (line : IsLine ss In Right So first j count far words noted Reaches place) where
  -- a pixel of the line, or the one after its last: its bit is 0 exactly if it is not set
  clear : (n : ℕ) → n ≤ count → (word_bit words (place n) ≡ 0) ↔ ¬ (So (first +ℤ pos n) j)
  clear n l =
      let none = line.none (first +ℤ pos count) line.after in
      grind (arith, signed_linear, line, none, below_or_not n count, unset, zero_of, bit_at-lt)

  -- the one before, or the one before the first
  clear_before : (k : ℕ) → k ≤ count → (bit_before far words (place k) ≡ 0) ↔ ¬ (So ((first -ℤ pos 1) +ℤ pos k) j)
  clear_before zero l =
      let here : first -ℤ pos 1 ≡ (first -ℤ pos 1) +ℤ pos 0 = omega (arith, signed_linear) in
      (λ _. subst (λ z. ¬ (So z j)) here (line.none (first -ℤ pos 1) line.before), λ _. line.start)
  clear_before (suc n) l =
      let here : first +ℤ pos n ≡ (first -ℤ pos 1) +ℤ pos (suc n) = omega (arith, signed_linear) in
      let back : place (suc n) - far ≡ place n = omega (arith, line.step n) in
      let e = before_past far words (place (suc n)) (omega (arith, line.step n)) ∙ (λ t. word_bit words (back t)) in
      subst (λ z. (bit_before far words (place (suc n)) ≡ 0) ↔ ¬ (So z j)) here
      (subst (λ (b : ℕ). (b ≡ 0) ↔ ¬ (So (first +ℤ pos n) j)) (sym e) (clear n (omega (arith, l))))

  -- the segment k is open exactly if there is a gap
  pub is_gap : (k : ℕ) (i : ℤ) → k ≤ count → i ≡ (first -ℤ pos 1) +ℤ pos k → IsOpenIn far noted words (place k) ↔ IsGap ss So i j
  is_gap k i l e = open_gap ss So i _ _ j _ _ _ e (omega (arith, signed_linear, e)) (clear_before k l) (clear k l) (line.tells k l)

  -- so a pixel closes the gap before it as the code has it
  reached : (n : ℕ) → n < count
      → (IsOpenIn far noted words (place n) × Reaches (place n)) ↔ IsClosedByRight ss In Right So ((first +ℤ pos n) -ℤ pos 1) j
  reached zero l =
      let i = (first +ℤ pos 0) -ℤ pos 1 in
      let at : i ≡ (first -ℤ pos 1) +ℤ pos 0 = omega (arith, signed_linear) in
      let none : first -ℤ pos 1 ≡ i = omega (arith, signed_linear) in
      right_is ss In Right So i j _ (Reaches (place 0)) (is_gap 0 i (omega (arith, l)) at)
      (λ _. inr (subst (λ z. ¬ (In z j)) none line.before), λ _. line.first_is)
  reached (suc m) l =
      let i = (first +ℤ pos (suc m)) -ℤ pos 1 in
      let at : i ≡ (first -ℤ pos 1) +ℤ pos (suc m) = omega (arith, signed_linear) in
      let here : first +ℤ pos m ≡ i = omega (arith, signed_linear) in
      let next : first +ℤ pos (suc m) ≡ (first +ℤ pos m) +ℤ pos 1 = omega (arith, signed_linear) in
      let k : m < count = omega (arith, l) in
      let to = subst (λ z. In z j) next (line.inside (suc m) l) in
      right_is ss In Right So i j _ (Reaches (place (suc m))) (is_gap (suc m) i (omega (arith, l)) at)
      (subst (λ z. Reaches (place (suc m)) ↔ (Right z j ⊎ ¬ (In z j))) here (
        λ r. inl ((line.next_is m k).0 r).0,
        λ h. (line.next_is m k).1 (elim h [ inl r ↦ r | inr n ↦ absurd (n (line.inside m k)) ], to),
      ))

  after : (n : ℕ) → n < count → In ((first +ℤ pos n) +ℤ pos 1) j ⊎ ¬ (In ((first +ℤ pos n) +ℤ pos 1) j)
  after n l = elim (below_or_not (suc n) count) [
    | inl m ↦ let e : first +ℤ pos (suc n) ≡ (first +ℤ pos n) +ℤ pos 1 = omega (arith, signed_linear) in
        inl (subst (λ z. In z j) e (line.inside (suc n) m))
    | inr m ↦ let e : first +ℤ pos count ≡ (first +ℤ pos n) +ℤ pos 1 = omega (arith, signed_linear, l, m) in
        inr (subst (λ z. ¬ (In z j)) e line.after)
  ]

  -- so its bit is 1 exactly if it is set, or closes a gap
  pub line_closed : (n new : ℕ) → n < count
      → IsClosed (IsOpenIn far noted words) far Reaches (place n) (word_bit words (place n)) new
      → (new ≡ 1) ↔ IsBridged ss In Right So (first +ℤ pos n) j
  line_closed n new l is =
      let at : first +ℤ pos n ≡ (first -ℤ pos 1) +ℤ pos (suc n) = omega (arith, signed_linear) in
      let left = subst (λ (m : ℕ). (IsOpenIn far noted words m × ¬ (Reaches m)) ↔ IsClosedByLeft ss In Right So (first +ℤ pos n) j)
      (sym (line.step n)) (left_is ss In Right So (first +ℤ pos n) j _ (Reaches (place (suc n))) (after n l)
      (is_gap (suc n) (first +ℤ pos n) (omega (arith, l)) at) (line.next_is n l)) in
      let right = reached n l in (
        λ t. ⊎_map (line.set n l).0 (λ h. record { inside = line.inside n l; closes = ⊎_map left.0 right.0 h }) (is.0 t),
        λ b. is.1 (⊎_map (line.set n l).1 (λ b. ⊎_map left.1 right.1 b.closes) b),
      )

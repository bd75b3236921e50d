-- Gaps closed one by one are closed together: `closed_then`. Which pixel closes one: `closed_next`, `closed_before`.
-- Serves `closing` and `chooser`.
use Rattle.std.proofs.Common.{◌≡◌, ◌≢◌, ◌⊎◌, ◌↔◌, inl, inr, refl, sym, ap, ◌∙◌, subst, ℕ, zero, suc, ◌+◌, ◌-◌, ◌*◌, ◌/◌, ◌%◌, ◌<◌, ◌≤◌, pos, ◌+ℤ◌}
use Rattle.std.proofs.Common.{Bool, true, false, List, get_or, length, mul-le-mul, arith}
use Rattle.std.proofs.lemmas.List.{get_or_past}
use Rattle.std.proofs.lemmas.Nat.Bits.{bit_at-zero}
use Rattle.std.proofs.Math.Nat.{div-add-mod}
use Rattle.std.proofs.lemmas.Nat.{div-mul-add, mod_below}
use Rattle.std.specs.Int.{bit_at}
use Rattle.fx_fixed.proofs.Order.{below_or_not}
use Rattle.fx_fixed.proofs.Linear.{signed_linear}
use Rattle.fx_winding.specs.declared.frame.Frame.{Frame}
use Rattle.fx_winding.specs.Bitmaps.{words_for, word_bit}
use Rattle.fx_winding.proofs.Grid.{row_fits, same_or_not}
use Rattle.fx_dropout.specs.declared.chooser.Chooser.{Chooser}
use Rattle.fx_dropout.specs.inner.Closing.{distance, segment_rows, stride, tests_before, AreClosed, AreCounted, AreLinesClosed, AreOpen, IsAmong, IsNext, IsOpenIn}
use Rattle.fx_dropout.specs.inner.Closing.{IsReached, Reaches}

-- ---- gaps one after the other
among_then : (a b d : ℕ) (gaps : List ℕ) (m : ℕ) → a ≤ b → b ≤ d
    → IsAmong a d gaps m ↔ (IsAmong a b gaps m ⊎ IsAmong b d gaps m)
among_then a b d gaps m h l = grind (arith, h, l)

either : (P Q R A B C D E F X U : Type 0) → E ↔ (A ⊎ C) → F ↔ (B ⊎ D) → Q ↔ (P ⊎ ((A × ¬ X) ⊎ (B × U)))
    → R ↔ (Q ⊎ ((C × ¬ X) ⊎ (D × U))) → R ↔ (P ⊎ ((E × ¬ X) ⊎ (F × U)))
either P Q R A B C D E F X U e f q r = grind (arith, e, f, q, r)

pub closed_then : (c : Chooser) (up : Bool) (gaps : List ℕ) (a b d : ℕ) (old mid new : List ℕ) → a ≤ b → b ≤ d
    → AreClosed c up gaps a b old mid → AreClosed c up gaps b d mid new → AreClosed c up gaps a d old new
closed_then c up gaps a b d old mid new h l first then = record {
  long = then.long ∙ first.long;
  bits = λ m.
      either _ _ _ _ _ _ _ _ _ _ _ (among_then a b d gaps (m + distance up c.frame) h l) (among_then a b d gaps m h l)
      (first.bits m) (then.bits m);
}

-- where there is none, nothing changes
pub closed_none : (c : Chooser) (up : Bool) (gaps : List ℕ) (a b : ℕ) (old : List ℕ)
    → ((m : ℕ) → a ≤ m → m < b → word_bit gaps m ≢ 1) → AreClosed c up gaps a b old old
closed_none c up gaps a b old none = record {
  long = refl;
  bits = λ m. (
    λ e. inl e,
    λ h. elim h [
      | inl e ↦ e
      | inr g ↦ elim g [
        | inl n ↦ absurd (none (m + distance up c.frame) n.0.0 n.0.1 n.0.2)
        | inr r ↦ absurd (none m r.0.0 r.0.1 r.0.2)
      ]
    ],
  );
}

-- nor in the part of a word that has no bit
pub closed_outside : (c : Chooser) (up : Bool) (gaps : List ℕ) (w a b : ℕ) (old : List ℕ) → 32 * w ≤ a → b ≤ 32 * w + 32
    → ((i : ℕ) → a ≤ 32 * w + i → 32 * w + i < b → bit_at (get_or gaps w 0) (31 - i) ≡ 0) → AreClosed c up gaps a b old old
closed_outside c up gaps w a b old low high none = closed_none c up gaps a b old (λ m h l e.
    let at : m / 32 ≡ w = omega (arith, low, high, h, l) in
    let z = (λ t. bit_at (get_or gaps (at t) 0) (31 - m % 32)) ∙ none (m % 32) (omega (arith, at, h)) (omega (arith, at, l)) in
    omega (arith, e, z))

-- ---- where a segment is
-- the next row begins after it
cell_end : (f : Frame) (m : ℕ) → m < stride f * (m / stride f) + stride f
cell_end f m =
    let e = div-add-mod m (stride f) in let l = mod_below m (stride f) (omega arith) in omega (arith, e, l)

one_less : (n : ℕ) → n ≡ suc n - 1
one_less n = omega arith

-- a pixel after the first of its line closes the segment that leads to it if it is chosen
pub reached_across : (c : Chooser) (k r : ℕ) → 0 < k
    → IsReached c false k r ↔ IsNext c false (c.frame.left +ℤ pos (k - 1)) (c.frame.bottom +ℤ pos r)
reached_across c zero r l = elim l [ ]
reached_across c (suc k) r l =
    subst (λ (n : ℕ). IsReached c false (suc k) r ↔ IsNext c false (c.frame.left +ℤ pos n) (c.frame.bottom +ℤ pos r))
    (one_less k) (λ h. h, λ h. h)

pub reached_up : (c : Chooser) (k r : ℕ) → 0 < r
    → IsReached c true k r ↔ IsNext c true (c.frame.left +ℤ pos k) (c.frame.bottom +ℤ pos (r - 1))
reached_up c k zero l = elim l [ ]
reached_up c k (suc r) l =
    subst (λ (n : ℕ). IsReached c true k (suc r) ↔ IsNext c true (c.frame.left +ℤ pos k) (c.frame.bottom +ℤ pos n))
    (one_less r) (λ h. h, λ h. h)

-- the first one always does
pub first_across : (c : Chooser) (k r : ℕ) → k ≡ 0 → IsReached c false k r
first_across c zero r e = tt
first_across c (suc k) r e = absurd (omega (arith, e))

pub first_up : (c : Chooser) (k r : ℕ) → r ≡ 0 → IsReached c true k r
first_up c k zero e = tt
first_up c k (suc r) e = absurd (omega (arith, e))

low_row : (f : Frame) (m : ℕ) → m < stride f → m / stride f ≡ 0
low_row f m l =
    let e : m ≡ 0 * stride f + m = omega arith in ap (λ (n : ℕ). n / stride f) e ∙ div-mul-add 0 (stride f) m l

first_reached : (c : Chooser) (up : Bool) (m : ℕ) → m < distance up c.frame → Reaches c up m
first_reached c false m l =
    first_across c (m % stride c.frame) (m / stride c.frame) (omega (arith, l, div-add-mod m (stride c.frame)))
first_reached c true m l = first_up c (m % stride c.frame) (m / stride c.frame) (low_row c.frame m l)

-- a segment past the first row of them
pub past_first : (f : Frame) (m : ℕ) → m / stride f ≢ 0 → stride f ≤ m
past_first f m n = elim (below_or_not m (stride f)) [ inl l ↦ absurd (n (low_row f m l)) | inr h ↦ h ]

-- so the pixel before the segment of any other is there
pub before_there : (c : Chooser) (up : Bool) (m : ℕ) → ¬ (Reaches c up m) → distance up c.frame ≤ m
before_there c up m n = elim (below_or_not m (distance up c.frame)) [ inl l ↦ absurd (n (first_reached c up m l)) | inr h ↦ h ]

row_end : (f : Frame) (r m : ℕ) → r < f.height → m < stride f * r + stride f → m < f.height * stride f
row_end f r m h l = let t = row_fits r f.height (stride f) h in omega (arith, t, l)

-- the pixel to which a segment leads that it closes is there
reached_row : (c : Chooser) (k r m : ℕ) → 0 < c.frame.height → IsReached c true k r → m < stride c.frame * r + stride c.frame
    → m < c.frame.height * stride c.frame
reached_row c k zero m some is l = row_end c.frame 0 m some l
reached_row c k (suc r) m some is l = row_end c.frame (suc r) m (omega (arith, signed_linear, is.1.row)) l

pub next_there : (c : Chooser) (up : Bool) (m : ℕ) → 0 < c.frame.height → m < segment_rows up c.frame * stride c.frame
    → Reaches c up m → m < c.frame.height * stride c.frame
next_there c false m some l reached = l
next_there c true m some l reached =
    reached_row c (m % stride c.frame) (m / stride c.frame) m some reached (cell_end c.frame m)

-- ---- one gap
only : (s : ℕ) (gaps : List ℕ) (m : ℕ) → IsAmong s (s + 1) gaps m → m ≡ s
only s gaps m h = omega (arith, h.0, h.1)

among : (s : ℕ) (gaps : List ℕ) → word_bit gaps s ≡ 1 → IsAmong s (s + 1) gaps s
among s gaps gap = (omega arith, omega arith, gap)

-- closed by a pixel, if that alone closes it
closed_by : (c : Chooser) (up : Bool) (gaps : List ℕ) (s t : ℕ) (old new : List ℕ) → length new ≡ length old
    → word_bit new t ≡ 1 → ((j : ℕ) → j ≢ t → word_bit new j ≡ word_bit old j)
    → ((m : ℕ) → ((IsAmong s (s + 1) gaps (m + distance up c.frame) × ¬ (Reaches c up (m + distance up c.frame)))
    ⊎ (IsAmong s (s + 1) gaps m × Reaches c up m)) ↔ (m ≡ t)) → AreClosed c up gaps s (s + 1) old new
closed_by c up gaps s t old new long here others is =
    record { long = long; bits = λ m. same _ _ _ _ (is m) (set m (same_or_not m t)) }
  where
    set : (m : ℕ) → (m ≡ t) ⊎ (m ≢ t) → (word_bit new m ≡ 1) ↔ ((word_bit old m ≡ 1) ⊎ (m ≡ t))
    set m (inl e) = (λ _. inr e, λ _. (λ i. word_bit new (e i)) ∙ here)
    set m (inr n) =
        (λ e. inl (sym (others m n) ∙ e), λ h. elim h [ inl e ↦ others m n ∙ e | inr e ↦ absurd (n e) ])

    same : (P Q E F : Type 0) → E ↔ F → P ↔ (Q ⊎ F) → P ↔ (Q ⊎ E)
    same P Q E F e h = grind (arith, e, h)

-- by the one to which it leads
pub closed_next : (c : Chooser) (up : Bool) (gaps : List ℕ) (s : ℕ) (old new : List ℕ) → length new ≡ length old
    → word_bit new s ≡ 1 → ((j : ℕ) → j ≢ s → word_bit new j ≡ word_bit old j) → word_bit gaps s ≡ 1 → Reaches c up s
    → AreClosed c up gaps s (s + 1) old new
closed_next c up gaps s old new long here others gap is = closed_by c up gaps s s old new long here others (λ m. (
  λ h. elim h [
    | inl l ↦ absurd (l.1 (subst (Reaches c up) (sym (only s gaps (m + distance up c.frame) l.0)) is))
    | inr r ↦ only s gaps m r.0
  ],
  λ e. inr (subst (λ n. IsAmong s (s + 1) gaps n × Reaches c up n) (sym e) (among s gaps gap, is)),
))

-- by the one before that
pub closed_before : (c : Chooser) (up : Bool) (gaps : List ℕ) (s : ℕ) (old new : List ℕ) → length new ≡ length old
    → word_bit new (s - distance up c.frame) ≡ 1
    → ((j : ℕ) → j ≢ s - distance up c.frame → word_bit new j ≡ word_bit old j) → word_bit gaps s ≡ 1 → ¬ (Reaches c up s)
    → AreClosed c up gaps s (s + 1) old new
closed_before c up gaps s old new long here others gap is =
    let past = before_there c up s is in
    closed_by c up gaps s (s - distance up c.frame) old new long here others (λ m. (
      λ h. elim h [
        | inl l ↦ let e = only s gaps (m + distance up c.frame) l.0 in omega (arith, e)
        | inr r ↦ absurd (is (subst (Reaches c up) (only s gaps m r.0) r.1))
      ],
      λ e.
          let back : s ≡ m + distance up c.frame = omega (arith, e, past) in
          inl (subst (λ n. IsAmong s (s + 1) gaps n × ¬ (Reaches c up n)) back (among s gaps gap, is)),
    ))

-- ---- tests
-- one choice more
pub counted_more : (s far each old new : ℕ) → far ≤ s → new ≤ old + each → new + (s - far) * each ≤ old + (s + 1 - far) * each
counted_more s far each old new h l =
    let d : s + 1 - far ≡ (s - far) + 1 = omega (arith, h) in
    let e : (s + 1 - far) * each ≡ (s - far) * each + each = ap (λ (n : ℕ). n * each) d ∙ omega arith in omega (arith, e, l)

-- segments more
pub counted_to : (c : Chooser) (up : Bool) (a b d old new : ℕ) → b ≤ d → AreCounted c up a b old new → AreCounted c up a d old new
counted_to c up a b d old new h l =
    let e : tests_before c up b ≤ tests_before c up d = mul-le-mul (omega (arith, h)) (omega arith) in omega (arith, l, e)

-- those of all lines
pub all_counted : (f : Frame) (up : Bool) (n each old new : ℕ) → n ≡ segment_rows up f * words_for f.width
    → new + (0 - distance up f) * each ≤ old + (32 * n - distance up f) * each
    → new ≤ old + f.height * (words_for f.width * (32 * each))
all_counted f up n each old new e h =
    let few : (32 * n - distance up f) * each ≤ (f.height * stride f) * each = mul-le-mul (by up e) (omega arith) in
    let same : (f.height * stride f) * each ≡ f.height * (words_for f.width * (32 * each)) = omega arith in
    omega (arith, h, few, same)
  where
    by : (up : Bool) → n ≡ segment_rows up f * words_for f.width → 32 * n - distance up f ≤ f.height * stride f
    by false e = omega (arith, e)
    by true e = omega (arith, e)

-- ---- all gaps
-- the open segments of all lines closed
pub lines_closed : (c : Chooser) (up : Bool) (noted gaps old new : List ℕ) → AreOpen (distance up c.frame) noted old gaps
    → AreClosed c up gaps 0 (32 * length gaps) old new → AreLinesClosed c up noted old new
lines_closed c up noted gaps old new opens closed = record {
  long = closed.long;
  bits = λ m l. same _ _ _ _ _ _ _ _ (is (m + distance up c.frame)) (is m) (closed.bits m);
}
  where
    low : (k : ℕ) → word_bit gaps k ≡ 1 → k < 32 * length gaps
    low k e = grind (arith, e, below_or_not (k / 32) (length gaps), get_or_past, bit_at-zero)

    is : (k : ℕ) → IsAmong 0 (32 * length gaps) gaps k ↔ IsOpenIn (distance up c.frame) noted old k
    is k = (
      λ a. (opens.bits k).0 a.2,
      λ o. let e = (opens.bits k).1 o in (omega arith, low k e, e),
    )

    same : (P Q A B C D X Y : Type 0) → A ↔ B → C ↔ D → P ↔ (Q ⊎ ((A × ¬ X) ⊎ (C × Y))) → P ↔ (Q ⊎ ((B × ¬ X) ⊎ (D × Y)))
    same P Q A B C D X Y e f h = grind (arith, e, f, h)

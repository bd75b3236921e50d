-- Rows that were added one after the other are all added: `band_both` joins some rows and those after them.
-- Serves the rows of a piece, and the pieces of a band.
use Rattle.std.proofs.Common.{◌≡◌, ◌⊎◌, inl, inr, refl, sym, ap, ◌∙◌, subst, ℕ, zero, suc, ◌+◌, ◌-◌, ◌*◌, ◌/◌, ◌<◌, ◌≤◌, ℤ}
use Rattle.std.proofs.Common.{pos, ◌+ℤ◌, Bool, false, arith, IsTrue, List, length, get_or}
use Rattle.std.proofs.Math.Nat.{mul-le-mul_right, mul-le-mul_left}
use Rattle.fx_fixed.proofs.Order.{below_or_not}
use Rattle.fx_fixed.proofs.Linear.{signed_linear}
use Rattle.fx_winding.specs.Bitmaps.{words_for}
use Rattle.fx_winding.specs.Area.{Place}
use Rattle.fx_winding.specs.Winding.{Span, centre}
use Rattle.fx_winding.specs.declared.frame.Frame.{Frame}
use Rattle.fx_rows.specs.declared.band.Band.{Band}
use Rattle.fx_rows.specs.inner.Heights.{height_of, IsMissed}
use Rattle.fx_rows.specs.inner.Sums.{AreWithin, before}
use Rattle.fx_rows.proofs.Sums.{before_more}
use Rattle.fx_rows.specs.inner.Cuts.{IsAdded}
use Rattle.fx_rows.proofs.Counted.{Added}
use Rattle.fx_rows.proofs.Missed.{missed}
use Rattle.fx_rows.specs.inner.Bands.{stride, turns_at, mark_at, IsKept, IsRowAdded, IsBandAdded, IsCounted}
use Rattle.fx_rows.specs.inner.Telling.{with_first}

-- ---- numbers of different rows
next_row : (r s : ℕ) → (r + 1) * s ≡ r * s + s
next_row r s = grind arith

pub row_before : (r t s : ℕ) → r < t → r * s + s ≤ t * s
row_before r t s h =
    let e = next_row r s in let l : r + 1 ≤ t = omega arith in let m = mul-le-mul_right s l in omega (arith, e, m)

pub wide : (w : ℕ) → w < stride w
wide w = omega arith

-- a row's words are among those of all rows
pub word_in : (up high w first n : ℕ) → up < high → first ≡ up * stride w → n ≡ high * words_for w → (first + w) / 32 < n
word_in up high w first n h e l = grind (arith, signed_linear, h, e, l, row_before)

-- ---- what stays
pub kept_none : (b : Band) (n : ℕ) → IsKept b b n
kept_none b n = record { turns = refl; mark = refl }

kept_through : (old mid new : Band) (n : ℕ) → IsKept old mid n → IsKept mid new n → IsKept old new n
kept_through old mid new n a b = record { turns = b.turns ∙ a.turns; mark = b.mark ∙ a.mark }

-- added first, and then kept
added_kept : (s : Span) (p : Place) (old mid new : Band) (n : ℕ)
    → IsAdded s p (mark_at old n) (mark_at mid n) (turns_at old n) (turns_at mid n) → IsKept mid new n
    → IsAdded s p (mark_at old n) (mark_at new n) (turns_at old n) (turns_at new n)
added_kept s p old mid new n a k =
    subst (λ z. z) (λ i. IsAdded s p (mark_at old n) (sym k.mark i) (turns_at old n) (sym k.turns i)) a

-- kept first, and then added
kept_added : (s : Span) (p : Place) (old mid new : Band) (n : ℕ) → IsKept old mid n
    → IsAdded s p (mark_at mid n) (mark_at new n) (turns_at mid n) (turns_at new n)
    → IsAdded s p (mark_at old n) (mark_at new n) (turns_at old n) (turns_at new n)
kept_added s p old mid new n k a =
    subst (λ z. z) (λ i. IsAdded s p (k.mark i) (mark_at new n) (k.turns i) (turns_at new n)) a

-- what lists say of a row
pub row_added : (s : Span) (f : Frame) (row : ℤ) (at : ℕ) (old new : Band) (d d' : List ℤ) (t t' m m' : List ℕ)
    → d ≡ old.diff.items → d' ≡ new.diff.items → t ≡ old.touched.items → t' ≡ new.touched.items → m ≡ old.marks.items
    → m' ≡ new.marks.items → Added s f row at d d' t t' m m' → IsRowAdded s f row at old new
row_added s f row at old new d d' t t' m m' ed ed' et et' em em' h =
    of (subst (λ z. z) (λ i. Added s f row at (ed i) (ed' i) (et i) (et' i) (em i) (em' i)) h)
  where
    of : Added s f row at old.diff.items new.diff.items old.touched.items new.touched.items old.marks.items new.marks.items
        → IsRowAdded s f row at old new
    of a = record {
      added = a.added;
      under = λ n l. record { turns = (a.under n l).0; mark = (a.under n l).1 };
      over = λ k l. record { turns = (a.over k l).0; mark = (a.over k l).1 };
      grown = a.grown;
      touches = a.touches;
    }

-- ---- rows of one piece
-- no row yet
pub band_none : (s : Span) (f : Frame) (at : ℕ) (b : Band) → IsBandAdded s f at at b b
band_none s f at b = grind (arith, signed_linear, kept_none)

-- a number in a row before, or after
beside_row : (w r t k : ℕ) → k < w → (r < t) ⊎ (t < r) → (r * stride w + k < t * stride w) ⊎ (t * stride w + w ≤ r * stride w + k)
beside_row w r t k h o = grind (arith, o, row_before r t (stride w), row_before t r (stride w), wide w)

-- rows, and then the rows after them
pub band_both : (s : Span) (f : Frame) (from mid to : ℕ) (old now new : Band) → from ≤ mid → mid ≤ to
    → IsBandAdded s f from mid old now → IsBandAdded s f mid to now new → IsBandAdded s f from to old new
band_both s f from mid to old now new fm mt a b = record {
  added = λ r k h l m. by r k h l m (below_or_not r mid);
  kept = λ n h. kept_through old now new n (a.kept n (λ r x y. h r x (omega arith))) (b.kept n (λ r x y. h r (omega arith) y));
  grown = λ n w. b.grown n (a.grown n w);
  touches = λ t. b.touches (a.touches t);
}
  where
    at : ℕ → ℕ → ℕ
    at r k = r * stride f.width + k

    by : (r k : ℕ) → from ≤ r → r < to → k < f.width → (r < mid) ⊎ (mid ≤ r)
        → IsAdded s (centre (f.left +ℤ pos k) (f.bottom +ℤ pos r)) (mark_at old (r * stride f.width + k))
        (mark_at new (r * stride f.width + k)) (turns_at old (r * stride f.width + k)) (turns_at new (r * stride f.width + k))
    by r k h l m (inl x) =
        added_kept s (centre (f.left +ℤ pos k) (f.bottom +ℤ pos r)) old now new (r * stride f.width + k) (a.added r k h x m)
        (b.kept (r * stride f.width + k) (λ t y z. beside_row f.width r t k m (inl (omega arith))))
    by r k h l m (inr x) =
        kept_added s (centre (f.left +ℤ pos k) (f.bottom +ℤ pos r)) old now new (r * stride f.width + k)
        (a.kept (r * stride f.width + k) (λ t y z. beside_row f.width r t k m (inr (omega arith)))) (b.added r k x l m)

-- one row
pub band_row : (s : Span) (f : Frame) (at : ℕ) (old new : Band)
    → IsRowAdded s f (f.bottom +ℤ pos at) (at * stride f.width) old new → IsBandAdded s f at (at + 1) old new
band_row s f at old new h = record {
  added = λ r k x y m. let e : at ≡ r = omega arith in
      subst (λ (t : ℕ). IsAdded s (centre (f.left +ℤ pos k) (f.bottom +ℤ pos t)) (mark_at old (t * stride f.width + k))
      (mark_at new (t * stride f.width + k)) (turns_at old (t * stride f.width + k)) (turns_at new (t * stride f.width + k))) e
      (h.added k m);
  kept = λ n b. by n (b at (omega arith) (omega arith));
  grown = λ n w. let e : n + 4 * at + 4 ≡ n + 4 * (at + 1) = omega arith in
      subst (λ (m : ℕ). AreWithin m new.diff.items) e (h.grown (n + 4 * at) w);
  touches = h.touches;
}
  where
    by : (n : ℕ) → (n < at * stride f.width) ⊎ (at * stride f.width + f.width ≤ n) → IsKept old new n
    by n (inl l) = h.under n l
    by n (inr l) =
        let e : at * stride f.width + (n - at * stride f.width) ≡ n = omega arith in
        subst (IsKept old new) e (h.over (n - at * stride f.width) (omega arith))

-- rows, and then one more
pub band_more : (s : Span) (f : Frame) (from at : ℕ) (old now new : Band) → from ≤ at → IsBandAdded s f from at old now
    → IsRowAdded s f (f.bottom +ℤ pos at) (at * stride f.width) now new → IsBandAdded s f from (at + 1) old new
band_more s f from at old now new h a r = band_both s f from at (at + 1) old now new h (omega arith) a (band_row s f at now new r)

-- rows that a piece misses
added_none : (s : Span) (p : Place) (on : Bool) (turns : ℤ) → IsMissed s p.y → IsAdded s p on on turns turns
added_none s p on turns h =
    let n = missed p s h in
    record {
      here = false;
      told = (λ t. absurd (no t), λ o. absurd (n.2 o));
      marks = inr (refl, refl);
      sum = λ f. omega (arith, signed_linear, n.0, n.1);
      small = (omega (arith, signed_linear), omega (arith, signed_linear));
    }
  where
    no : IsTrue false → ⊥
    no t = grind arith

pub band_missed : (s : Span) (f : Frame) (from to : ℕ) (b : Band) → from ≤ to
    → ((r : ℕ) → from ≤ r → r < to → IsMissed s (height_of f r)) → IsBandAdded s f from to b b
band_missed s f from to b o h = record {
  added = λ r k x y m. added_none s (centre (f.left +ℤ pos k) (f.bottom +ℤ pos r)) _ _ (h r x y);
  kept = λ n l. kept_none b n;
  grown = λ n w k. let e = w k in omega (arith, signed_linear, e, o);
  touches = λ t. t;
}

-- rows, rows after them, and rows after those
pub band_three : (s : Span) (from low high to : ℕ) (old x y new : Band) → from ≤ low → low ≤ high → high ≤ to
    → x.frame ≡ old.frame → y.frame ≡ x.frame → IsBandAdded s old.frame from low old x → IsBandAdded s x.frame low high x y
    → IsBandAdded s y.frame high to y new → IsBandAdded s old.frame from to old new
band_three s from low high to old x y new h k l ex ey a b c = grind (arith, signed_linear, h, k, l, ex, ey, a, b, c, band_both)

-- ---- numbers of pixels, and the others
abbrev pub IsNumber : ℕ → ℕ → ℕ → Type 0
IsNumber w high n = (r : ℕ) × (k : ℕ) × (r < high) × (k < w) × (n ≡ r * stride w + k)

-- a number is a pixel's, or no pixel's
pub number_or_not : (w high n : ℕ)
    → IsNumber w high n ⊎ ((r : ℕ) → 0 ≤ r → r < high → (n < r * stride w) ⊎ (r * stride w + w ≤ n))
number_or_not w zero n = inr (λ r z h. absurd (omega arith))
number_or_not w (suc high) n = by (below_or_not n (high * stride w)) (below_or_not n (high * stride w + w)) (number_or_not w high n)
  where
    by : (n < high * stride w) ⊎ (high * stride w ≤ n) → (n < high * stride w + w) ⊎ (high * stride w + w ≤ n)
        → IsNumber w high n ⊎ ((r : ℕ) → 0 ≤ r → r < high → (n < r * stride w) ⊎ (r * stride w + w ≤ n))
        → IsNumber w (suc high) n ⊎ ((r : ℕ) → 0 ≤ r → r < suc high → (n < r * stride w) ⊎ (r * stride w + w ≤ n))
    by (inl l) m (inl (r, k, a, b, e)) = inl (r, k, omega arith, b, e)
    by (inl l) m (inr h) = inr (λ r z a. last r a (below_or_not r high))
      where
        last : (r : ℕ) → r < suc high → (r < high) ⊎ (high ≤ r) → (n < r * stride w) ⊎ (r * stride w + w ≤ n)
        last r a (inl b) = h r (omega arith) b
        last r a (inr b) =
            let e : high ≡ r = omega arith in inl (subst (λ (x : ℕ). n < x * stride w) e l)
    by (inr l) (inl m) o = inl (high, n - high * stride w, omega arith, omega arith, omega arith)
    by (inr l) (inr m) o = inr (λ r z a. below r a (below_or_not r high))
      where
        below : (r : ℕ) → r < suc high → (r < high) ⊎ (high ≤ r) → (n < r * stride w) ⊎ (r * stride w + w ≤ n)
        below r a (inl b) = let e = row_before r high (stride w) b in let x = wide w in inr (omega (arith, e, x))
        below r a (inr b) =
            let e : high ≡ r = omega arith in inr (subst (λ (x : ℕ). x * stride w + w ≤ n) e m)

-- a number after a row's last pixel is no pixel's
pub after_last : (w high r k : ℕ) → w ≤ k → k < stride w → (t : ℕ) → 0 ≤ t → t < high
    → (r * stride w + k < t * stride w) ⊎ (t * stride w + w ≤ r * stride w + k)
after_last w high r k h l t z a =
    grind (arith, below_or_not r t, below_or_not t r, row_before r t (stride w), row_before t r (stride w), wide w)

pub number_in : (up high w k n : ℕ) → up < high → k < stride w → n ≡ high * words_for w → up * stride w + k < 32 * n
number_in up high w k n h l e = grind (arith, signed_linear, h, l, e, row_before)

-- the numbers from the last of the last row on are those of no pixel
past_rows : (w high n : ℕ) → high * stride w ≤ n + 1 → (t : ℕ) → 0 ≤ t → t < high → (n < t * stride w) ⊎ (t * stride w + w ≤ n)
past_rows w high n h t z a = let e = row_before t high (stride w) a in let x = wide w in inr (omega (arith, e, x))

-- after the room of its marks a counted band has no difference
before_end : (ss : List Span) (f : Frame) (b : Band) (k : ℕ) → IsCounted ss f b → f.height * stride f.width ≤ k
    → before k b.diff.items ≡ pos 0
before_end ss f b zero c h = refl
before_end ss f b (suc k) c h =
    let e : suc k ≡ k + 1 = omega arith in
    ap (λ (n : ℕ). before n b.diff.items) e ∙ c.rest k (past_rows f.width f.height k (omega arith))

pub past_marks : (ss : List Span) (f : Frame) (b : Band) (k : ℕ) → length b.marks.items ≡ f.height * words_for f.width
    → IsCounted ss f b → 32 * length b.marks.items ≤ k → get_or b.diff.items k (pos 0) ≡ pos 0
past_marks ss f b k e c h =
    let end : f.height * stride f.width ≤ k = grind (arith, signed_linear, e, h) in
    let here = before_end ss f b k c end in
    let next = before_end ss f b (suc k) c (omega arith) in
    let m = before_more k b.diff.items in
    omega (arith, signed_linear, here, next, m)

-- ---- counts of tests
tests_more : (p c u v : ℕ) → u ≤ v → p * (c * u) + p * (c * (v - u)) ≡ p * (c * v)
tests_more p c u v h = grind (arith, signed_linear, h)

pub with_later : (r n : ℕ) → 0 < r → with_first r n ≡ 0
with_later zero n h = absurd (omega (arith, h))
with_later (suc r) n h = refl

-- the tests of the rows before u and of those before v, and with the first row n more for each piece
pub bands_more : {X : Type 0} (old now new c n u h v : ℕ) (ps qs : List X) → ps ≡ qs → u < v → u + h ≡ v
    → now + length qs * with_first u n ≤ old + (length qs * (c * u) + length qs * n)
    → new ≤ now + length ps * (c * h + with_first u n)
    → new + length qs * with_first v n ≤ old + (length qs * (c * v) + length qs * n)
bands_more old now new c n u h v ps qs same some high before more =
    let p = length qs in
    let rows : h ≡ v - u = omega (arith, high) in
    let none : p * with_first v n ≡ 0 = ap (λ x. p * x) (with_later v n (omega (arith, some))) ∙ omega arith in
    let all = tests_more p c u v (omega (arith, some)) in
    let sum : length ps * (c * h + with_first u n) ≡ p * (c * (v - u)) + p * with_first u n =
    ap (λ k. length ps * (c * k + with_first u n)) rows ∙ ap (λ xs. length xs * (c * (v - u) + with_first u n)) same
    ∙ omega arith in
    omega (arith, none, all, sum, before, more)

pub tests_fit : (p c u h d : ℕ) → u ≤ h → p * (c * u) ≤ p * h * (6 * d + c)
tests_fit p c u h d l = grind (arith, signed_linear, l, mul-le-mul_left)

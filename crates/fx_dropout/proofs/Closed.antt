-- Words of a frame whose rows and then columns were closed have the bits that drop-out control sets: `closed_pixels`.
-- Serves `noted`.
use Rattle.std.proofs.Common.{◌≡◌, ◌⊎◌, ◌↔◌, inl, inr, refl, sym, ◌∙◌, subst, ℕ, zero, suc, ◌+◌, ◌-◌, ◌*◌, ◌/◌, ◌%◌, ◌<◌, ◌≤◌, ℤ}
use Rattle.std.proofs.Common.{pos}
use Rattle.std.proofs.Common.{◌+ℤ◌, ◌-ℤ◌, Bool, true, false, IsTrue, List, ◌++◌, Any, get_or, map, take, drop, length, length-drop}
use Rattle.std.proofs.Common.{arith}
use Rattle.std.specs.Int.{bit_at}
use Rattle.std.proofs.lemmas.List.{get_or-take, get_or-drop, length-take, take_at}
use Rattle.std.proofs.lemmas.Nat.{div-mul-add, mod-mul-add}
use Rattle.std.proofs.lemmas.Nat.Bits.{bit_at-lt}
use Rattle.fx_fixed.proofs.Order.{below_or_not}
use Rattle.fx_fixed.proofs.Linear.{signed_linear}
use Rattle.fx_winding.specs.declared.frame.Frame.{Frame}
use Rattle.fx_winding.specs.Area.{Place}
use Rattle.fx_winding.specs.Bitmaps.{AreWords, AreRowWords, IsScanOf, bit_of, rows_of, words_for, word_bit}
use Rattle.fx_winding.specs.Turned.{turned_span}
use Rattle.fx_winding.specs.Frames.{IsFrom, IsInFrame, steps}
use Rattle.fx_winding.specs.Notes.{AreExact, pixel_number}
use Rattle.fx_winding.specs.Winding.{Span, IsCovered, IsOn, centre, span_of}
use Rattle.fx_winding.proofs.Dotted.{bit_of-number}
use Rattle.fx_winding.proofs.Grid.{cut-row, row_fits, steps_below}
use Rattle.fx_winding.proofs.Scanned.{one, steps_back, steps_of}
use Rattle.fx_dropout.specs.declared.chooser.Chooser.{Chooser}
use Rattle.fx_dropout.specs.declared.chooser.Closing.{Closing}
use Rattle.fx_dropout.specs.Dropout.{IsNextChosen, IsRowSet, IsSet}
use Rattle.fx_dropout.specs.inner.Closing.{bit_before, stride, AreLinesClosed, IsClosed, IsOpenIn, IsReached, Reaches}
use Rattle.fx_dropout.proofs.Lines.{before_first, before_past, line_closed}
use Rattle.fx_dropout.proofs.Opens.{past_word}

-- ---- where pixels are
from_in : (first : ℤ) (count n : ℕ) → n < count → IsFrom first count (first +ℤ pos n)
from_in first count n l = (omega (arith, signed_linear), omega (arith, signed_linear, l))

pub in_frame : (f : Frame) (n r : ℕ) → n < f.width → r < f.height → IsInFrame f (f.left +ℤ pos n) (f.bottom +ℤ pos r)
in_frame f n r l h = record { column = from_in f.left f.width n l; row = from_in f.bottom f.height r h }

pub not_before : (first : ℤ) (count : ℕ) → ¬ (IsFrom first count (first -ℤ pos 1))
not_before first count i = omega (arith, signed_linear, i)

pub not_after : (first : ℤ) (count : ℕ) → ¬ (IsFrom first count (first +ℤ pos count))
not_after first count i = omega (arith, signed_linear, i)

-- the bit of a pixel of a frame is that with its number
pub pixel_bit : (f : Frame) (xs : List ℕ) (r k : ℕ) → r < f.height → k < f.width
    → IsTrue (bit_of (record { frame = f; rows = rows_of f.height f.width xs }) (f.left +ℤ pos k) (f.bottom +ℤ pos r))
    ↔ (word_bit xs (pixel_number f r k) ≡ 1)
pixel_bit f xs r k h l =
    let e : 32 * (r * words_for f.width) + k ≡ pixel_number f r k = omega arith in
    grind (arith, h, l, e, bit_of-number, from_in, steps_of, one)

-- a bit of a row of words is that with its number
part_bit : (xs : List ℕ) (f : Frame) (r k : ℕ) → k < stride f
    → word_bit (take (words_for f.width) (drop (r * words_for f.width) xs)) k ≡ word_bit xs (pixel_number f r k)
part_bit xs f r k h =
    let at : r * words_for f.width + k / 32 ≡ pixel_number f r k / 32 = omega arith in
    let bit : k % 32 ≡ pixel_number f r k % 32 = omega arith in
    (λ t. bit_at (get_or-take (words_for f.width) (drop (r * words_for f.width) xs) (k / 32) 0 (omega (arith, h)) t) (31 - k % 32))
    ∙ (λ t. bit_at (get_or-drop (r * words_for f.width) xs (k / 32) 0 t) (31 - k % 32))
    ∙ (λ t. bit_at (get_or xs (at t) 0) (31 - bit t))

-- the bits after a row's last pixel are 0
pub unused_bit : (f : Frame) (xs : List ℕ) (r k : ℕ) → AreWords f.height f.width xs → r < f.height → f.width ≤ k → k < stride f
    → word_bit xs (pixel_number f r k) ≡ 0
unused_bit f xs r k words h w l =
    let row : AreRowWords f.width (take (words_for f.width) (drop (r * words_for f.width) xs)) =
    subst (AreRowWords f.width) (cut-row f.height (words_for f.width) xs r h) (words.rows r h) in
    let count = row.count in
    sym (part_bit xs f r k l) ∙ row.unused k w (omega (arith, l, count))

-- the bit before the first one of a row is 0: it is after the last pixel of the row below
pub row_start : (f : Frame) (xs : List ℕ) → AreWords f.height f.width xs → (r : ℕ) → r < f.height
    → bit_before 1 xs (pixel_number f r 0) ≡ 0
row_start f xs words zero h = before_first 1 xs (pixel_number f 0 0) (omega arith)
row_start f xs words (suc r) h =
    let e : pixel_number f (suc r) 0 - 1 ≡ pixel_number f r (stride f - 1) = omega arith in
    let z = unused_bit f xs r (stride f - 1) words (omega (arith, h)) (omega arith) (omega arith) in
    before_past 1 xs (pixel_number f (suc r) 0) (omega arith) ∙ (λ t. word_bit xs (e t)) ∙ z

-- a segment that leads to a pixel, by its column and its row
cell_at : (c : Chooser) (up : Bool) (r k : ℕ) → k < stride c.frame → Reaches c up (pixel_number c.frame r k) ≡ IsReached c up k r
cell_at c up r k l = λ t. IsReached c up (column t) (row t)
  where
    row : pixel_number c.frame r k / stride c.frame ≡ r
    row = div-mul-add r (stride c.frame) k l

    column : pixel_number c.frame r k % stride c.frame ≡ k
    column = mod-mul-add r (stride c.frame) k l

pub on_covers : (p : Place) (ss : List Span) → Any (IsOn p) ss → IsCovered p ss
unfolding IsCovered
on_covers p ss a = inl a

-- no pixel outside a frame is covered
abbrev pub NoneOutside : Frame → List Span → Type 0
NoneOutside f ss = (i j : ℤ) → ¬ (IsInFrame f i j) → ¬ (IsCovered (centre i j) ss)

-- outside the frame no row sets a pixel
row_outside : (closing : Closing) (f : Frame) (ss : List Span) → NoneOutside f ss → (i j : ℤ) → ¬ (IsInFrame f i j)
    → ¬ (IsRowSet closing ss f i j)
row_outside closing f ss outside i j out (inl c) = outside i j out c
row_outside closing f ss outside i j out (inr b) = out b.inside

-- where nothing is set, and no gap is closed, the bit stays 0
still : (IsGap : ℕ → Type 0) (far : ℕ) (IsReachedAt : ℕ → Type 0) (m old new : ℕ) → IsClosed IsGap far IsReachedAt m old new
    → new < 2 → old ≡ 0 → (IsGap (m + far) → IsReachedAt (m + far)) → (IsGap m → ¬ (IsReachedAt m)) → new ≡ 0
still IsGap far IsReachedAt m old new is small z after before = grind (arith, is, small, z, after, before)

pub record IsGiven (ch : Chooser) (across up old mid new : List ℕ) : Type 0 where
  pub wide : 0 < ch.frame.width
  pub words : AreWords ch.frame.height ch.frame.width old
  pub scanned : IsScanOf ch.frame (map span_of ch.pieces.now)
      (record { frame = ch.frame; rows = rows_of ch.frame.height ch.frame.width old })
  pub noted : AreExact ch.frame across up (map span_of ch.pieces.now)
  pub rows : AreLinesClosed ch false across old mid
  pub columns : AreLinesClosed ch true up mid new

module _ (ch : Chooser) (across up old mid new : List ℕ) (given : IsGiven ch across up old mid new) where
  abbrev f : Frame
  f = ch.frame

  abbrev ss : List Span
  ss = map span_of ch.pieces.now

  in_words : (r k : ℕ) → r < f.height → k < stride f → pixel_number f r k < 32 * length old
  in_words r k h l =
      let t = row_fits r f.height (words_for f.width) h in
      let long = given.words.long in
      let e : r * (32 * words_for f.width) ≡ 32 * (r * words_for f.width) = omega arith in
      omega (arith, t, l, long, e)

  -- ---- the rows
  row_closed : NoneOutside f ss → (r n : ℕ) → r < f.height → n < f.width
      → (word_bit mid (pixel_number f r n) ≡ 1) ↔ IsRowSet ch.closing ss f (f.left +ℤ pos n) (f.bottom +ℤ pos r)
  row_closed outside r n h l =
      line_closed ss (IsInFrame f) (IsNextChosen ch.closing ss) (λ i j. IsCovered (centre i j) ss) f.left (f.bottom +ℤ pos r)
      f.width 1 old across (Reaches ch false) (λ n. pixel_number f r n) (record {
        step = λ n. omega arith;
        set = λ n l.
            let bit = pixel_bit f old r n h l in
            let is = given.scanned.bits (f.left +ℤ pos n) (f.bottom +ℤ pos r) (in_frame f n r l h) in
            (λ e. is.0 (bit.1 e), λ c. bit.0 (is.1 c));
        start = row_start f old given.words r h;
        end = unused_bit f old r f.width given.words h (omega arith) (omega arith);
        none = λ i. outside i (f.bottom +ℤ pos r);
        tells = λ k l off off'. given.noted.across r k h l (record {
          off_from = λ a. off (on_covers _ ss a);
          off_to = λ a. off' (on_covers _ ss a);
        });
        inside = λ n l. in_frame f n r l h;
        before = λ i. not_before f.left f.width i.column;
        after = λ i. not_after f.left f.width i.column;
        first_is = subst (λ (P : Type 0). P) (sym (cell_at ch false r 0 (omega arith))) tt;
        next_is = λ n l. subst (λ (P : Type 0). P ↔ IsReached ch false (suc n) r)
            (sym (cell_at ch false r (suc n) (omega (arith, l)))) (λ h. h, λ h. h);
      }) n _ l (given.rows.bits (pixel_number f r n) (in_words r n h (omega (arith, l))))

  -- the bits after the last pixel stay 0
  row_rest : (r k : ℕ) → r < f.height → f.width ≤ k → k < stride f → word_bit mid (pixel_number f r k) ≡ 0
  row_rest r k h w l =
      still (IsOpenIn 1 across old) 1 (Reaches ch false) (pixel_number f r k) _ _
      (given.rows.bits (pixel_number f r k) (in_words r k h l)) (bit_at-lt _ _) (unused_bit f old r k given.words h w l)
      (λ o. after (below_or_not (k + 1) (stride f)) o) (λ o n. past k refl (subst (λ (P : Type 0). P) (cell_at ch false r k l) n))
    where
      after : (k + 1 < stride f) ⊎ (stride f ≤ k + 1) → IsOpenIn 1 across old (pixel_number f r k + 1)
          → Reaches ch false (pixel_number f r k + 1)
      after (inl m) o =
          let e : pixel_number f r (k + 1) ≡ pixel_number f r k + 1 = omega arith in
          let z = given.noted.rest_across r (k + 1) h (omega (arith, w)) m in
          absurd (omega (arith, (λ t. word_bit across (e t)) ∙ o.noted_is, z))
      after (inr m) o =
          let e : pixel_number f (suc r) 0 ≡ pixel_number f r k + 1 = omega (arith, l, m) in
          subst (Reaches ch false) e (subst (λ (P : Type 0). P) (sym (cell_at ch false (suc r) 0 (omega arith))) tt)

      past : (i : ℕ) → i ≡ k → IsReached ch false i r → ⊥
      past zero e n = let x = given.wide in omega (arith, e, w, x)
      past (suc i) e n = omega (arith, signed_linear, e, w, n.1.column)

  -- ---- the columns
  column_closed : NoneOutside f ss → (r k : ℕ) → r < f.height → k < f.width
      → (word_bit new (pixel_number f r k) ≡ 1) ↔ IsSet ch.closing ss f (f.left +ℤ pos k) (f.bottom +ℤ pos r)
  column_closed outside r k h l =
      line_closed (map turned_span ss) (λ j i. IsInFrame f i j) (IsNextChosen ch.closing (map turned_span ss))
      (λ j i. IsRowSet ch.closing ss f i j) f.bottom (f.left +ℤ pos k) f.height (stride f) mid up (Reaches ch true)
      (λ q. pixel_number f q k) (record {
        step = λ n. omega arith;
        set = λ r h. row_closed outside r k h l;
        start = before_first (stride f) mid (pixel_number f 0 k) (omega (arith, l));
        end = past_words (omega (arith, l));
        none = λ j. row_outside ch.closing f ss outside (f.left +ℤ pos k) j;
        tells = λ q m off off'. given.noted.up q k (omega (arith, h)) m l (record {
          off_from = λ a. off (inl (on_covers _ ss a));
          off_to = λ a. off' (inl (on_covers _ ss a));
        });
        inside = λ r h. in_frame f k r l h;
        before = λ i. not_before f.bottom f.height i.row;
        after = λ i. not_after f.bottom f.height i.row;
        first_is = subst (λ (P : Type 0). P) (sym (cell_at ch true 0 k (omega (arith, l)))) tt;
        next_is = λ n m. subst (λ (P : Type 0). P ↔ IsReached ch true k (suc n))
            (sym (cell_at ch true (suc n) k (omega (arith, l)))) (λ h. h, λ h. h);
      }) r _ h (given.columns.bits (pixel_number f r k) (omega (arith, in_words r k h (omega (arith, l)), given.rows.long)))
    where
      past_words : k < stride f → word_bit mid (pixel_number f f.height k) ≡ 0
      past_words m =
          let long = given.words.long in
          let same = given.rows.long in
          let e : f.height * (32 * words_for f.width) ≡ 32 * (f.height * words_for f.width) = omega arith in
          past_word mid (pixel_number f f.height k) (omega (arith, long, same, e))

  column_rest : (r k : ℕ) → r < f.height → f.width ≤ k → k < stride f → word_bit new (pixel_number f r k) ≡ 0
  column_rest r k h w l =
      let e : pixel_number f (suc r) k ≡ pixel_number f r k + stride f = omega arith in
      still (IsOpenIn (stride f) up mid) (stride f) (Reaches ch true) (pixel_number f r k) _ _
      (given.columns.bits (pixel_number f r k) (omega (arith, in_words r k h l, given.rows.long)))
      (bit_at-lt _ _) (row_rest r k h w l)
      (λ o. absurd (none (suc r) (omega (arith, h)) (subst (IsOpenIn (stride f) up mid) (sym e) o)))
      (λ o _. none r (omega (arith, h)) o)
    where
      none : (q : ℕ) → q ≤ f.height → ¬ (IsOpenIn (stride f) up mid (pixel_number f q k))
      none q m o = let z = given.noted.rest_up q k m w l in let y = o.noted_is in omega (arith, y, z)

  -- ---- the bitmap
  pub closed_words : length new ≡ length old → AreWords f.height f.width new
  closed_words same = record {
    long = same ∙ given.words.long;
    rows = λ r h.
        let size = words_for f.width in
        let fits = row_fits r f.height size h in
        let n = length-take size (drop (r * size) new) in
        let d = length-drop (r * size) new in
        let long = given.words.long in
        let count : length (take size (drop (r * size) new)) ≡ size = omega (arith, fits, n, d, same, long) in
        let row : AreRowWords f.width (take size (drop (r * size) new)) = record {
          count = count;
          unused = λ k w l. let m : k < stride f = omega (arith, l, count) in part_bit new f r k m ∙ column_rest r k h w m;
        } in
        subst (AreRowWords f.width) (sym (cut-row f.height size new r h)) row;
  }

  pub closed_pixels : NoneOutside f ss → (i j : ℤ) → IsInFrame f i j
      → IsTrue (bit_of (record { frame = f; rows = rows_of f.height f.width new }) i j) ↔ IsSet ch.closing ss f i j
  closed_pixels outside i j inside =
      let k = steps f.left i in
      let r = steps f.bottom j in
      let l = steps_below f.left f.width i inside.column in
      let h = steps_below f.bottom f.height j inside.row in
      let bit = pixel_bit f new r k h l in
      let is = column_closed outside r k h l in
      subst (λ (z : ℤ × ℤ). IsTrue (bit_of (record { frame = f; rows = rows_of f.height f.width new }) z.0 z.1)
      ↔ IsSet ch.closing ss f z.0 z.1)
      (λ t. (steps_back f.left f.width i inside.column t, steps_back f.bottom f.height j inside.row t))
      (λ x. is.0 (bit.0 x), λ y. bit.1 (is.1 y))

-- ---- for `close_gaps`
-- a list that was lent whole and came back
pub lent : (xs ys : List ℕ) (n : ℕ) → length ys ≡ length xs → n ≡ length xs → take n (ys ++ drop (length ys) xs) ≡ ys
lent xs ys n e f = (λ t. take ((f ∙ sym e) t) (ys ++ drop (length ys) xs)) ∙ take_at ys (drop (length ys) xs) (length ys) refl

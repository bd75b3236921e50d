-- Words of all rows, each with the bits of its covered pixels, are the bitmap that a scan gives: `scanned_bitmap`.
-- Serves the bands of a scan, and its bitmap.
use Rattle.std.proofs.Common.{◌≡◌, ◌⊎◌, ◌↔◌, inl, inr, refl, sym, ap, ◌∙◌, subst, ℕ, ◌+◌, ◌-◌, ◌*◌, ◌/◌, ◌%◌, ◌<◌, ◌≤◌, ℤ, pos}
use Rattle.std.proofs.Common.{◌+ℤ◌, List, ◌++◌, length, take, drop, length-append, length-drop, arith}
use Rattle.std.specs.Int.{bit_at}
use Rattle.std.proofs.lemmas.List.{get_or-take, get_or-drop, get_or_append_left, get_or-append-add, length-take-le}
use Rattle.fx_fixed.proofs.Order.{below_or_not}
use Rattle.fx_fixed.proofs.Linear.{signed_linear}
use Rattle.fx_winding.specs.Winding.{Span, IsCovered, centre}
use Rattle.fx_winding.specs.Bitmaps.{words_for, word_bit, bits_in, rows_of, AreWords, IsScanOf}
use Rattle.fx_winding.specs.declared.frame.Frame.{Frame}
use Rattle.fx_winding.proofs.Grid.{cut-row, row_fits, row_bits, rows_of-shape, length-bits_in}
use Rattle.fx_winding.proofs.Scanned.{IsRowSet, row_set, scanned_all}
use Rattle.fx_rows.specs.inner.Bands.{stride, AreBitsOf, AreScanned}
use Rattle.fx_rows.specs.inner.Telling.{IsPartOf}
use Rattle.fx_rows.proofs.Banding.{row_before, wide}

-- ---- bits of parts of a list of words
part_bit : (a m k : ℕ) (words : List ℕ) → k / 32 < m → word_bit (take m (drop a words)) k ≡ word_bit words (32 * a + k)
part_bit a m k words h = grind (arith, signed_linear, h, get_or-take, get_or-drop)

left_bit : (xs ys : List ℕ) (k : ℕ) → k / 32 < length xs → word_bit (xs ++ ys) k ≡ word_bit xs k
left_bit xs ys k h = ap (λ w. bit_at w (31 - k % 32)) (get_or_append_left xs ys 0 (k / 32) h)

right_bit : (xs ys : List ℕ) (n k : ℕ) → n ≡ 32 * length xs + k → word_bit (xs ++ ys) n ≡ word_bit ys k
right_bit xs ys n k e = grind (arith, signed_linear, e, get_or-append-add)

-- ---- where the bits of rows are, each of q words
row_start : (r q k : ℕ) → 32 * (r * q) + k ≡ r * (32 * q) + k
row_start r q k = grind arith

rows_start : (done t q k : ℕ) → (done + t) * (32 * q) + k ≡ 32 * (done * q) + (t * (32 * q) + k)
rows_start done t q k = grind arith

rows_of_both : (done more q : ℕ) → (done + more) * q ≡ done * q + more * q
rows_of_both done more q = grind arith

word_low : (r done q k : ℕ) → r < done → k < 32 * q → (r * (32 * q) + k) / 32 < done * q
word_low r done q k h l = let e = row_before r done q h in let s = row_start r q k in omega (arith, e, s)

-- ---- rows, and then those above them

scanned_both : (ss : List Span) (left bottom low : ℤ) (width done more : ℕ) (old part : List ℕ) → bottom +ℤ pos done ≡ low
    → AreScanned ss left bottom width done old → AreScanned ss left low width more part
    → AreScanned ss left bottom width (done + more) (old ++ part)
scanned_both ss left bottom low width done more old part e a b = record {
  long =
      let l = length-append old part in
      let s = rows_of_both done more (words_for width) in
      let x = a.long in
      let y = b.long in
      omega (arith, l, s, x, y);
  bits = λ r k h l. set r k h l (below_or_not r done);
  unused = λ r k h w l. rest r k h w l (below_or_not r done);
}
  where
    below : (r k : ℕ) → r < done → k < stride width
        → word_bit (old ++ part) (r * stride width + k) ≡ word_bit old (r * stride width + k)
    below r k h l =
        let x = a.long in
        let m = word_low r done (words_for width) k h l in
        left_bit old part (r * stride width + k) (omega (arith, x, m))

    above : (r k : ℕ) → done ≤ r
        → word_bit (old ++ part) (r * stride width + k) ≡ word_bit part ((r - done) * stride width + k)
    above r k h =
        let x = a.long in
        let t : done + (r - done) ≡ r = omega arith in
        let at = sym (ap (λ (s : ℕ). s * stride width + k) t) ∙ rows_start done (r - done) (words_for width) k in
        right_bit old part (r * stride width + k) ((r - done) * stride width + k) (omega (arith, x, at))

    set : (r k : ℕ) → r < done + more → k < width → (r < done) ⊎ (done ≤ r)
        → (word_bit (old ++ part) (r * stride width + k) ≡ 1) ↔ IsCovered (centre (left +ℤ pos k) (bottom +ℤ pos r)) ss
    set r k h l (inl m) =
        let w = wide width in
        let is = below r k m (omega (arith, w)) in
        subst (λ (n : ℕ). (n ≡ 1) ↔ IsCovered (centre (left +ℤ pos k) (bottom +ℤ pos r)) ss) (sym is) (a.bits r k m l)
    set r k h l (inr m) =
        let is = above r k m in
        let row : low +ℤ pos (r - done) ≡ bottom +ℤ pos r = omega (arith, signed_linear, e) in
        subst (λ z. z) (λ i. (sym is i ≡ 1) ↔ IsCovered (centre (left +ℤ pos k) (row i)) ss)
        (b.bits (r - done) k (omega arith) l)

    rest : (r k : ℕ) → r < done + more → width ≤ k → k < stride width → (r < done) ⊎ (done ≤ r)
        → word_bit (old ++ part) (r * stride width + k) ≡ 0
    rest r k h w l (inl m) = below r k m l ∙ a.unused r k m w l
    rest r k h w l (inr m) = above r k m ∙ b.unused (r - done) k (omega arith) w l

-- ---- the bitmap of all rows
row_long : (up high q : ℕ) (words : List ℕ) → up < high → length words ≡ high * q → length (take q (drop (up * q) words)) ≡ q
row_long up high q words h e =
    let fits = row_fits up high q h in
    let d = length-drop (up * q) words in
    length-take-le q (drop (up * q) words) (omega (arith, fits, d, e))

row_bit : (up width k : ℕ) (words : List ℕ) → k < stride width
    → word_bit (take (words_for width) (drop (up * words_for width) words)) k ≡ word_bit words (up * stride width + k)
row_bit up width k words l = grind (arith, signed_linear, l, part_bit, row_start)

-- the rows of a band after those below it
pub scanned_band : (ss : List Span) (f g : Frame) (from to : ℕ) (marks old new : List ℕ) → IsPartOf f from to g
    → length marks ≡ g.height * words_for g.width → AreBitsOf ss g marks → new ≡ old ++ marks
    → AreScanned ss f.left f.bottom f.width from old → AreScanned ss f.left f.bottom f.width to new
scanned_band ss f g from to marks old new of room here more below =
    subst (λ z. z) (λ i. AreScanned ss f.left f.bottom f.width (of.height i) (sym more i))
    (scanned_both ss f.left f.bottom g.bottom f.width from g.height old marks (sym of.bottom) below
    (subst (λ z. z) (λ i. AreScanned ss (of.left i) g.bottom (of.width i) g.height marks)
    (record { long = room; bits = here.bits; unused = here.unused })))

pub scanned_words : (ss : List Span) (left bottom : ℤ) (width high : ℕ) (words : List ℕ)
    → AreScanned ss left bottom width high words → AreWords high width words
scanned_words ss left bottom width high words h = grind (arith, signed_linear, h, cut-row, row_long, row_bit)

pub scanned_bitmap : (ss : List Span) (f : Frame) (words : List ℕ) → AreScanned ss f.left f.bottom f.width f.height words
    → IsScanOf f ss (record { frame = f; rows = rows_of f.height f.width words })
scanned_bitmap ss f words h =
    scanned_all f ss (record { frame = f; rows = rows_of f.height f.width words }) f.height refl (record {
      same = refl;
      high = (rows_of-shape f words).height;
      rows = λ k l. subst (IsRowSet f ss k) (row_bits f words (part k) k l refl) (row k l);
    })
  where
    part : ℕ → List ℕ
    part k = take (words_for f.width) (drop (k * words_for f.width) words)

    row : (k : ℕ) → k < f.height → IsRowSet f ss k (bits_in f.width (part k))
    row k l = record {
      wide = length-bits_in f.width (part k);
      bits = row_set (λ j. IsCovered (centre (f.left +ℤ pos j) (f.bottom +ℤ pos k)) ss) f.width (part k) (λ j m.
          let w = wide f.width in
          let is = row_bit k f.width j words (omega (arith, w)) in
          subst (λ (n : ℕ). (n ≡ 1) ↔ IsCovered (centre (f.left +ℤ pos j) (f.bottom +ℤ pos k)) ss) (sym is) (h.bits k j l m));
    }

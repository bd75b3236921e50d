-- Rows between a piece's ends, told one by one, are all told (`piece_all`), and the notes made of them are exact (`exact_of`).
-- Serves the rows of a piece, and the pieces of a band.
use Rattle.std.proofs.Common.{◌≡◌, ◌≢◌, ◌⊎◌, inl, inr, refl, sym, ap, ◌∙◌, subst, ℕ, zero, suc, ◌+◌, ◌-◌, ◌*◌, ◌<◌, ◌≤◌, ℤ, pos, ◌+ℤ◌, ◌-ℤ◌, ◌*ℤ◌}
use Rattle.std.proofs.Common.{◌≤ℤ◌, ◌<ℤ◌, List, length, take, get_or, arith, Any}
use Rattle.std.specs.List.{All}
use Rattle.std.proofs.lemmas.List.{get_or_default}
use Rattle.std.proofs.lemmas.List.Elements.{All-more}
use Rattle.fx_fixed.proofs.Order.{below_or_not, below_or_not_ℤ}
use Rattle.fx_fixed.proofs.Linear.{signed_linear}
use Rattle.fx_winding.proofs.Covers.{any_map, any_unmap}
use Rattle.fx_winding.proofs.Numbered.{clear_unless}
use Rattle.fx_winding.specs.declared.frame.Frame.{Frame}
use Rattle.fx_winding.specs.Area.{Place}
use Rattle.fx_winding.specs.Bitmaps.{word_bit}
use Rattle.fx_winding.specs.Meets.{turn, IsMet}
use Rattle.fx_winding.specs.Turned.{turned_span}
use Rattle.fx_winding.specs.Notes.{AreExact, AreOff, pixel_number, IsMetUp}
use Rattle.fx_winding.specs.Winding.{Span, IsOn, centre}
use Rattle.fx_rows.specs.declared.strip.Strip.{Strip}
use Rattle.fx_rows.specs.inner.Cuts.{IsStripEnd}
use Rattle.fx_rows.specs.declared.band.Band.{Band}
use Rattle.fx_rows.specs.declared.heights.RowRange.{RowRange}
use Rattle.fx_rows.specs.inner.Bands.{stride, IsRowAdded, IsBandAdded}
use Rattle.fx_rows.specs.inner.Heights.{height_of, AreOutside, IsAbove, IsBelow, IsMissed, IsAtMostEnds, IsAtLeastEnds, AreAmong}
use Rattle.fx_rows.specs.inner.Placing.{AreBetween, AreOthersMet, IsPieceAdded}
use Rattle.fx_rows.specs.inner.Points.{IsInner, IsRise}
use Rattle.fx_rows.specs.inner.Sides.{place_at, IsWhole}
use Rattle.fx_rows.specs.inner.Told.{rise_value, IsEnd, IsEndOn}
use Rattle.fx_rows.specs.inner.Telling.{AreMetBySome, IsAmong, IsRowTold, AreRowsTold, AreRowsAdded, IsPartOf, AreRowsNoted, AreNotedIn}
use Rattle.fx_rows.specs.inner.Telling.{AreMetAdded, BitsSay, IsBandOf, IsNotedBy, KeepsFor, Saying, met_in, noted}
use Rattle.fx_rows.specs.inner.Telling.{of_frame, Way, across_row, up_to_row, with_first}
use Rattle.fx_rows.proofs.Banding.{band_none, band_three, band_missed}
use Rattle.fx_rows.proofs.Stepping.{band_next}

-- ---- the end of one row
pub cut_end : (s : Span) (f : Frame) (strip : Strip) (end : ℕ) (row : ℤ) → strip.row ≡ row
    → IsWhole f strip → IsStripEnd s strip end → IsEndOn s f row end
cut_end s f strip end row at_row whole is = record {
  within = subst (λ (n : ℕ). end ≤ n) whole.stop is.within;
  left = λ k h off. ap (λ (q : Place). turn q s) (sym (at k)) ∙ is.inside k
      (let w = is.within in omega (arith, h, w)) h (off_at k off);
  right = λ k h l off. ap (λ (q : Place). turn q s) (sym (at k)) ∙ is.outside k
      (omega (arith, whole.stop, l)) h (off_at k off);
}
  where
    at : (k : ℕ) → place_at strip k ≡ centre (f.left +ℤ pos k) row
    at k = λ i. centre (whole.base i +ℤ pos k) (at_row i)

    off_at : (k : ℕ) → ¬ (IsOn (centre (f.left +ℤ pos k) row) s) → ¬ (IsOn (place_at strip k) s)
    off_at k off = subst (λ (q : Place). ¬ (IsOn q s)) (sym (at k)) off

-- ---- from row to row
told_none : (T : ℕ → ℕ → Type 0) (s : Span) (f : Frame) (from to : ℕ) → to ≤ from → AreRowsTold T s f from to
told_none T s f from to h = record { rows = λ r l m i. absurd (omega (arith, h, l, m)) }

-- the rows so far stay told, and one more is
told_next : (T U : ℕ → ℕ → Type 0) (s : Span) (f : Frame) (from up n : ℕ) → AreRowsTold T s f from up
    → ((r m : ℕ) → r ≢ up → T r m → U r m) → U up n → IsEnd s f up n → AreRowsTold U s f from (up + 1)
told_next T U s f from up n h kept here is = record { rows = λ r l m i. by r l m i (below_or_not r up) }
  where
    by : (r : ℕ) → from ≤ r → r < up + 1 → IsInner s.a.y s.c.y (height_of f r) → (r < up) ⊎ (up ≤ r) → IsRowTold U s f r
    by r l m i (inl o) =
        let t = h.rows r l o i in
        record { end = t.end; told = kept r t.end (λ e. absurd (omega (arith, e, o))) t.told; is = t.is }
    by r l m i (inr o) =
        let e : up ≡ r = omega (arith, m, o) in
        subst (IsRowTold U s f) e (record { end = n; told = here; is = is })

-- what is told stays so
told_also : (T U : ℕ → ℕ → Type 0) (s : Span) (f : Frame) (from to : ℕ) → ((r n : ℕ) → T r n → U r n) → AreRowsTold T s f from to
    → AreRowsTold U s f from to
told_also T U s f from to kept h = record {
  rows = λ r l m i. let t = h.rows r l m i in record { end = t.end; told = kept r t.end t.told; is = t.is };
}

-- a height at or below both ends is not between them, nor one at or above both
pub at_most_outside : (a c y : ℤ) → y ≤ℤ a → y ≤ℤ c → ¬ (IsInner a c y)
at_most_outside a c y h k i = omega (arith, signed_linear, i)

pub at_least_outside : (a c y : ℤ) → a ≤ℤ y → c ≤ℤ y → ¬ (IsInner a c y)
at_least_outside a c y h k i = omega (arith, signed_linear, i)

-- rows that are not between the ends, below and above
told_beside : (T : ℕ → ℕ → Type 0) (s : Span) (f : Frame) (from low high to : ℕ)
    → ((r : ℕ) → from ≤ r → r < low → IsAtMostEnds s (height_of f r))
    → ((r : ℕ) → high ≤ r → r < to → IsAtLeastEnds s (height_of f r)) → AreRowsTold T s f low high → AreRowsTold T s f from to
told_beside T s f from low high to under over h = grind (arith, signed_linear, under, over, h, at_most_outside, at_least_outside)

-- a height that is not above the lower end, or not below the upper one
at_most_ends : (s : Span) (foot head value y : ℤ) → IsRise s foot head value → y ≤ℤ foot → IsAtMostEnds s y
at_most_ends s foot head value y h l = grind (arith, signed_linear, below_or_not_ℤ s.a.y s.c.y)

at_least_ends : (s : Span) (foot head value y : ℤ) → IsRise s foot head value → head ≤ℤ y → IsAtLeastEnds s y
at_least_ends s foot head value y h l = grind (arith, signed_linear, below_or_not_ℤ s.a.y s.c.y)

-- a piece is above a height, or below it: so are its ends
above_all : (s : Span) (y : ℤ) → IsAbove s y → IsAtMostEnds s y
above_all s y h = grind (arith, signed_linear)

below_all : (s : Span) (y : ℤ) → IsBelow s y → IsAtLeastEnds s y
below_all s y h = grind (arith, signed_linear)

rise_inner : (s : Span) (foot head value y : ℤ) → IsRise s foot head value → foot <ℤ y → y <ℤ head → IsInner s.a.y s.c.y y
rise_inner s foot head value y h l m = grind (arith, signed_linear, below_or_not_ℤ s.a.y s.c.y)

pub between_of : (s : Span) (foot head value : ℤ) (f : Frame) (rows inner : RowRange) → IsRise s foot head value
    → AreAmong foot head f rows.first rows.end inner.first inner.end → AreBetween s f rows.first rows.end inner
between_of s foot head value f rows inner rise h = grind (arith, signed_linear, rise, h, rise_inner, at_most_ends, at_least_ends)

-- the rows below those between the ends, and those above them, do not pass between them; and if none does, none of all
pub outside_below : (s : Span) (f : Frame) (from to : ℕ) (part : RowRange) → AreBetween s f from to part
    → AreOutside s f from part.first
outside_below s f from to part is r l m =
    at_most_outside s.a.y s.c.y (height_of f r) (is.under r l m).0 (is.under r l m).1

pub outside_above : (s : Span) (f : Frame) (from to : ℕ) (part : RowRange) → AreBetween s f from to part
    → AreOutside s f part.end to
outside_above s f from to part is r l m =
    at_least_outside s.a.y s.c.y (height_of f r) (is.over r l m).0 (is.over r l m).1

pub outside_all : (s : Span) (f : Frame) (from to : ℕ) (part : RowRange) → part.end ≤ part.first → AreBetween s f from to part
    → AreOutside s f from to
outside_all s f from to part none is r l m = elim (below_or_not r part.first) [
  | inl o ↦ outside_below s f from to part is r l o
  | inr o ↦ outside_above s f from to part is r (omega (arith, none, o)) m
]

-- ---- what is added and told
pub added_start : (T : ℕ → ℕ → Type 0) (s : Span) (at : ℕ) (b : Band) → AreRowsAdded T s at at b b
added_start T s at b =
    record { frame = refl; added = band_none s b.frame at b; told = told_none T s b.frame at at (omega arith) }

-- one more row
pub added_next : (T U : ℕ → ℕ → Type 0) (s : Span) (row : ℤ) (from up n : ℕ) (old now new : Band) → from ≤ up
    → row ≡ now.frame.bottom +ℤ pos up → AreRowsAdded T s from up old now → new.frame ≡ now.frame
    → IsRowAdded s now.frame row (up * stride now.frame.width) now new → ((r m : ℕ) → r ≢ up → T r m → U r m) → U up n
    → IsEnd s now.frame up n → AreRowsAdded U s from (up + 1) old new
added_next T U s row from up n old now new l at h frame added kept here is = record {
  frame = frame ∙ h.frame;
  added = band_next s old.frame now.frame row from up old now new l h.frame at h.added added;
  told = told_next T U s old.frame from up n h.told kept here (subst (λ (x : Frame). IsEnd s x up n) h.frame is);
}

-- and rows beside them that are not between the ends
pub added_beside : (T U : ℕ → ℕ → Type 0) (s : Span) (from low high to : ℕ) (old x y new : Band) → from ≤ low → low ≤ high
    → high ≤ to → x.frame ≡ old.frame → new.frame ≡ y.frame → IsBandAdded s old.frame from low old x
    → AreRowsAdded T s low high x y → IsBandAdded s y.frame high to y new → ((r n : ℕ) → T r n → U r n)
    → ((r : ℕ) → from ≤ r → r < low → IsAtMostEnds s (height_of old.frame r))
    → ((r : ℕ) → high ≤ r → r < to → IsAtLeastEnds s (height_of old.frame r)) → AreRowsAdded U s from to old new
added_beside T U s from low high to old x y new l m n ex ey a b c kept under over = record {
  frame = ey ∙ b.frame ∙ ex;
  added = band_three s from low high to old x y new l m n ex b.frame a b.added c;
  told = told_beside U s old.frame from low high to under over
      (told_also T U s old.frame low high kept (subst (λ (g : Frame). AreRowsTold T s g low high) ex b.told));
}

-- none of them is
pub added_outside : (T : ℕ → ℕ → Type 0) (s : Span) (from low high to : ℕ) (old new : Band) → high ≤ low
    → new.frame ≡ old.frame → IsBandAdded s old.frame from to old new
    → ((r : ℕ) → from ≤ r → r < low → IsAtMostEnds s (height_of old.frame r))
    → ((r : ℕ) → high ≤ r → r < to → IsAtLeastEnds s (height_of old.frame r)) → AreRowsAdded T s from to old new
added_outside T s from low high to old new l e a under over =
    grind (arith, signed_linear, l, e, a, under, over, told_beside, told_none)

-- rows below those between the ends, and above them
pub others_beside : (P : Saying → Type 0) (s : Span) (f : Frame) (from to : ℕ) (part : RowRange) → AreBetween s f from to part
    → ((r : ℕ) → from ≤ r → r < part.first → P (met_in s (f.bottom +ℤ pos r)))
    → ((r : ℕ) → part.end ≤ r → r < to → P (met_in s (f.bottom +ℤ pos r))) → AreOthersMet P s f from to
others_beside P s f from to part is below above r l m n o =
    grind (arith, is, below, above, n, below_or_not r part.first, below_or_not r part.end)

-- a piece that adds nothing
pub piece_none : (T : ℕ → ℕ → Type 0) (P : Saying → Type 0) (s : Span) (rows : RowRange) (b : Band) → rows.end ≤ rows.first
    → IsPieceAdded T P P s rows.first rows.end b b rows
piece_none T P s rows b l = grind (arith, l, added_start)

-- all rows of a band, of which a piece misses those before some and after them
between_all : (s : Span) (f : Frame) (rows inner : RowRange) → rows.end ≤ f.height
    → ((r : ℕ) → r < rows.first → IsAbove s (height_of f r)) → ((r : ℕ) → rows.end ≤ r → r < f.height → IsBelow s (height_of f r))
    → AreBetween s f rows.first rows.end inner → AreBetween s f 0 f.height inner
between_all s f rows inner within below above h = grind (arith, signed_linear, within, below, above, h, above_all, below_all)

pub piece_all : (T : ℕ → ℕ → Type 0) (P Q : Saying → Type 0) (s : Span) (rows inner : RowRange) (old new : Band)
    → rows.end ≤ old.frame.height → ((r : ℕ) → r < rows.first → IsAbove s (height_of old.frame r))
    → ((r : ℕ) → rows.end ≤ r → r < old.frame.height → IsBelow s (height_of old.frame r))
    → IsPieceAdded T P Q s rows.first rows.end old new inner → IsPieceAdded T P Q s 0 old.frame.height old new inner
piece_all T P Q s rows inner old new within below above h = record {
  rows = added_beside T T s 0 rows.first rows.end old.frame.height old old new new (omega arith) rows.order within refl refl
      (band_missed s old.frame 0 rows.first old (omega arith) (λ r l m. inl (below r m))) h.rows
      (subst (λ (x : Frame). IsBandAdded s x rows.end old.frame.height new new) (sym h.rows.frame)
      (band_missed s old.frame rows.end old.frame.height new within (λ r l m. inr (above r l m)))) (λ r n t. t)
      (λ r l m. above_all s (height_of old.frame r) (below r m)) (λ r l m. below_all s (height_of old.frame r) (above r l m));
  kept = h.kept;
  between = between_all s old.frame rows inner within below above h.between;
  others = λ r l m n o. by r m n o (below_or_not r rows.first) (below_or_not r rows.end);
}
  where
    by : (r : ℕ) → r < old.frame.height → ¬ (IsInner s.a.y s.c.y (height_of old.frame r)) → ¬ (IsMissed s (height_of old.frame r))
        → (r < rows.first) ⊎ (rows.first ≤ r) → (r < rows.end) ⊎ (rows.end ≤ r) → Q (met_in s (old.frame.bottom +ℤ pos r))
    by r m n o (inl a) b = absurd (o (inl (below r a)))
    by r m n o (inr a) (inl b) = h.others r a b n o
    by r m n o (inr a) (inr b) = absurd (o (inr (above r b m)))

-- ---- the rows g of a frame f from one to before another: a row of f that is among them
row_of_part : (f g : Frame) (from to r : ℕ) → IsPartOf f from to g → from ≤ r → g.bottom +ℤ pos (r - from) ≡ f.bottom +ℤ pos r
row_of_part f g from to r part l = let bottom = part.bottom in omega (arith, signed_linear, bottom, l)

height_of_part : (f g : Frame) (from to r : ℕ) → IsPartOf f from to g → from ≤ r → height_of g (r - from) ≡ height_of f r
height_of_part f g from to r part l = ap (λ (z : ℤ). pos 128 *ℤ z +ℤ pos 64) (row_of_part f g from to r part l)

-- the end of its columns there
end_in_frame : (s : Span) (f g : Frame) (from to r n : ℕ) → IsPartOf f from to g → from ≤ r → IsEnd s g (r - from) n → IsEnd s f r n
end_in_frame s f g from to r n part l is =
    let at : (k : ℕ) → centre (g.left +ℤ pos k) (g.bottom +ℤ pos (r - from)) ≡ centre (f.left +ℤ pos k) (f.bottom +ℤ pos r) =
    λ k i. centre (part.left i +ℤ pos k) (row_of_part f g from to r part l i) in
    record {
      within = subst (λ (w : ℕ). n ≤ w) part.width is.within;
      left = λ k m. subst (λ (q : Place). ¬ (IsOn q s) → turn q s ≡ rise_value s) (at k) (is.left k m);
      right = λ k m o. subst (λ (q : Place). ¬ (IsOn q s) → turn q s ≡ pos 0) (at k)
          (is.right k m (subst (λ (w : ℕ). k < w) (sym part.width) o));
    }

pub told_in_frame : (T : ℕ → ℕ → Type 0) (s : Span) (f g : Frame) (from to : ℕ) → IsPartOf f from to g
    → AreRowsTold T s g 0 g.height → AreRowsTold (λ r. T (r - from)) s f from to
told_in_frame T s f g from to part is = record { rows = λ r l m i. here r l m i }
  where
    here : (r : ℕ) → from ≤ r → r < to → IsInner s.a.y s.c.y (height_of f r) → IsRowTold (λ r. T (r - from)) s f r
    here r l m i =
        let t = is.rows (r - from) (omega arith) (omega (arith, l, m, part.height))
        (subst (IsInner s.a.y s.c.y) (sym (height_of_part f g from to r part l)) i) in
        record { end = t.end; told = t.told; is = end_in_frame s f g from to r t.end part l t.is }

pub between_in_frame : (s : Span) (f g : Frame) (from to : ℕ) (m n : RowRange) → IsPartOf f from to g → n.first ≡ from + m.first
    → n.end ≡ from + m.end → AreBetween s g 0 g.height m → AreBetween s f from to n
between_in_frame s f g from to m n part first end is = record {
  low = omega (arith, first);
  high = omega (arith, end, is.high, part.height);
  inner = λ r l o.
      let k : from ≤ r = omega (arith, first, l) in subst (IsInner s.a.y s.c.y) (at r k)
      (is.inner (r - from) (omega (arith, first, l)) (omega (arith, end, k, o)));
  under = λ r l o. subst (IsAtMostEnds s) (at r l) (is.under (r - from) (omega arith) (omega (arith, first, l, o)));
  over = λ r l o.
      let k : from ≤ r = omega (arith, end, l) in subst (IsAtLeastEnds s) (at r k)
      (is.over (r - from) (omega (arith, end, l)) (omega (arith, o, k, part.height)));
}
  where
    at : (r : ℕ) → from ≤ r → height_of g (r - from) ≡ height_of f r
    at r l = height_of_part f g from to r part l

-- the rows that are noted when they are added
pub others_in_frame : (P : Saying → Type 0) (s : Span) (f g : Frame) (from to : ℕ) → IsPartOf f from to g
    → AreOthersMet P s g 0 g.height → AreOthersMet P s f from to
others_in_frame P s f g from to part is r l m n o =
    let at = height_of_part f g from to r part l in
    subst (λ (z : ℤ). P (met_in s z)) (row_of_part f g from to r part l)
    (is (r - from) (omega arith) (omega (arith, l, m, part.height)) (subst (λ (y : ℤ). ¬ (IsInner s.a.y s.c.y y)) (sym at) n)
    (subst (λ (y : ℤ). ¬ (IsMissed s y)) (sym at) o))

-- ---- rows that are added in the general way
pub met_none : (T : ℕ → ℕ → Type 0) (P : Saying → Type 0) (s : Span) (at : ℕ) (b : Band) → AreMetAdded T T P P s at at b b
met_none T P s at b = grind (arith, band_none)

-- one more row
pub met_next : (T U V : ℕ → ℕ → Type 0) (P Q R : Saying → Type 0) (s : Span) (from up : ℕ) (old now new : Band) → from ≤ up
    → AreMetAdded T U P Q s from up old now → new.frame ≡ now.frame
    → IsRowAdded s now.frame (now.frame.bottom +ℤ pos up) (up * stride now.frame.width) now new → ((r n : ℕ) → U r n → V r n)
    → KeepsFor s Q R → R (met_in s (new.frame.bottom +ℤ pos up)) → AreMetAdded T V P R s from (up + 1) old new
met_next T U V P Q R s from up old now new l h frame added told kept here =
    grind (arith, l, h, frame, added, told, kept, here, band_next, below_or_not)

-- the band's frame stays, and so does that of the notes
pub band_kept : (P Q : Saying → Type 0) (s : Span) (g h : Frame) → h ≡ g → KeepsFor s P Q → IsBandOf P g → IsBandOf Q h
band_kept P Q s g h e kept b = record {
  frame = b.frame;
  from = b.from;
  to = b.to;
  of = kept (of_frame b.frame) tt b.of;
  part = subst (IsPartOf b.frame b.from b.to) (sym e) b.part;
}

-- ---- the pieces that are noted
-- no piece yet
pub noted_start : (P : Saying → Type 0) (ss : List Span) (to : ℕ) → AreNotedIn P (take 0 ss) to
noted_start P ss to k d h = absurd (omega (arith, h))

-- what is noted stays so
pub rows_also : (P Q : Saying → Type 0) (s : Span) (to : ℕ)
    → ((t : Span) (w : Way) (r : ℕ) → P (noted t w r) → Q (noted t w r)) → AreRowsNoted P s to → AreRowsNoted Q s to
rows_also P Q s to kept h = record { across = λ r l. kept s _ r (h.across r l); up = λ o r l. kept s _ r (h.up o r l) }

-- one more piece
pub noted_more : (P Q : Saying → Type 0) (ss : List Span) (to at : ℕ) (s : Span) → at < length ss
    → s ≡ get_or ss at s → ((t : Span) (w : Way) (r : ℕ) → P (noted t w r) → Q (noted t w r))
    → AreNotedIn P (take at ss) to → AreRowsNoted Q s to → AreNotedIn Q (take (at + 1) ss) to
noted_more P Q ss to at s l e kept h here =
    All-more (λ t. AreRowsNoted Q t to) ss at s l (λ k d m. rows_also P Q _ to kept (h k d m))
    (subst (λ t. AreRowsNoted Q t to) e here)

-- rows, and then some rows after them
pub rows_noted : (P Q : Saying → Type 0) (s : Span) (mid to : ℕ) → ((w : Way) (r : ℕ) → P (noted s w r) → Q (noted s w r))
    → AreRowsNoted P s mid → ((r : ℕ) → mid ≤ r → r < to → Q (noted s across_row r))
    → ((r : ℕ) → mid ≤ r → r ≤ to → Q (noted s up_to_row r)) → AreRowsNoted Q s to
rows_noted P Q s mid to kept h across up = grind (arith, signed_linear, kept, h, across, up, below_or_not)

pub with_sum : (r a b : ℕ) → with_first r (a + b) ≡ with_first r a + with_first r b
with_sum zero a b = refl
with_sum (suc r) a b = refl

-- with one row of what is noted apart, all are noted
pub row_apart : (A : Span → Way → Type 0) (f : Frame) (a u : List ℕ) (s : Span) (w : Way) (first : ℕ) → A s w
    → (first ≡ 0 → (q : ℕ) → IsNotedBy f a u s w q) → AreRowsNoted (BitsSay A f a u) s first → (q : ℕ) → IsNotedBy f a u s w q
row_apart A f a u s w zero of all before = all refl
row_apart A f a u s across_row (suc n) of all before = (before.across 0 (omega arith)).1 of
row_apart A f a u s up_to_row (suc n) of all before = (before.up (omega arith) 0 (omega arith)).1 of

-- what is noted is exact, and stays so while these pieces are noted
pub all_among : (ss : List Span) → All (λ s. IsAmong s ss) ss
all_among ss k d l = record { at = k; inside = l; is = get_or_default ss k _ d l }

-- a place is on none of some pieces: so on none that is among them
off_one : (p : Place) (ss : List Span) (s : Span) → ¬ (Any (IsOn p) ss) → IsAmong s ss → ¬ (IsOn p s)
off_one p ss s off among on = off (among.at, s, among.inside, among.is, on)

pub exact_of : (A : Span → Way → Type 0) (f : Frame) (across up : List ℕ) (ss : List Span)
    → AreNotedIn (BitsSay A f across up) ss f.height → AreMetBySome f across up ss → AreExact f across up ss
exact_of A f across up ss all h = record {
  across = λ r k l m off. (
    λ e. let p = (h.rows r k (omega (arith, m)) e).1 in (
      p.among.at,
      p.piece,
      p.among.inside,
      p.among.is,
      p.met (off_one _ ss p.piece off.off_from p.among)
          (off_one _ ss p.piece off.off_to p.among),
    ),
    λ (i, s, inside, is, met). ((subst (λ t. AreRowsNoted (BitsSay A f across up) t f.height) is
        (all i s inside)).across r l).0 l k m (record {
          met = met;
          off_left = λ on. off.off_from (i, s, inside, is, on);
          off_right = λ on. off.off_to (i, s, inside, is, on);
        }),
  );
  up = λ r k some l m off. (
    λ e. let p = (h.columns r k (omega (arith, m)) e).1 in
        any_map turned_span (λ s. IsMetUp s f r k) _ (λ s m. m.met) ss (
          p.among.at,
          p.piece,
          p.among.inside,
          p.among.is,
          p.met (off_one _ ss p.piece off.off_from p.among)
              (off_one _ ss p.piece off.off_to p.among),
        ),
    λ met. back r k some l m off (any_unmap turned_span (λ s. IsMet (centre ((f.bottom -ℤ pos 1) +ℤ pos r) (f.left +ℤ pos k))
        (centre (f.bottom +ℤ pos r) (f.left +ℤ pos k)) (turned_span s)) _ (λ s m. m) ss met),
  );
  rest_across = λ r k l m w. clear_unless across _ (λ e. let p = (h.rows r k w e).0 in omega (arith, p, m));
  rest_up = λ r k l m w. clear_unless up _ (λ e. let p = (h.columns r k w e).0 in omega (arith, p, m));
}
  where
    back : (r k : ℕ) → 0 < f.height → r ≤ f.height → k < f.width
        → AreOff (centre (f.left +ℤ pos k) ((f.bottom -ℤ pos 1) +ℤ pos r)) (centre (f.left +ℤ pos k) (f.bottom +ℤ pos r)) ss
        → Any (λ s. IsMet (centre ((f.bottom -ℤ pos 1) +ℤ pos r) (f.left +ℤ pos k))
        (centre (f.bottom +ℤ pos r) (f.left +ℤ pos k)) (turned_span s)) ss → word_bit up (pixel_number f r k) ≡ 1
    back r k some l m off (i, s, inside, is, met) =
        ((subst (λ t. AreRowsNoted (BitsSay A f across up) t f.height) is (all i s inside)).up some r l).0 l k m (record {
          met = met;
          off_lower = λ on. off.off_from (i, s, inside, is, on);
          off_upper = λ on. off.off_to (i, s, inside, is, on);
        })

-- The bits that are left of a scan's notes say where the gaps are, so that what the segments cost adds up to the prices of all
-- gaps: `rows_priced`, `columns_priced`.
-- Serves `work`.
use Rattle.std.proofs.Common.{◌≡◌, ◌≢◌, ◌⊎◌, ◌↔◌, inl, inr, refl, sym, ◌∙◌, subst, ℕ, ◌+◌, ◌*◌, ◌<◌, ◌≤◌, ℤ, pos}
use Rattle.std.proofs.Common.{◌+ℤ◌, ◌-ℤ◌, ◌≤ℤ◌, ◌<ℤ◌, Bool, true, false, List, Any, Some, map, length, arith}
use Rattle.std.specs.Prelude.{◌==◌, if◌then◌else◌}
use Rattle.std.proofs.lemmas.Bool.Decides.{Decides-eqb, Decides-like, same_from_decides}
use Rattle.std.proofs.lemmas.Nat.{div-mul-add, mod-mul-add}
use Rattle.fx_fixed.proofs.Linear.{signed_linear}
use Rattle.fx_winding.specs.declared.frame.Frame.{Frame}
use Rattle.fx_winding.specs.Bitmaps.{Bits, AreWords, IsScanOf, rows_of, words_for, word_bit}
use Rattle.fx_winding.specs.Frames.{HasMargin, IsInFrame}
use Rattle.fx_winding.specs.Meets.{IsMet}
use Rattle.fx_winding.specs.Notes.{AreExact, pixel_number}
use Rattle.fx_winding.specs.Turned.{turned_span}
use Rattle.fx_winding.specs.Winding.{Span, IsCovered, centre}
use Rattle.fx_dropout.specs.Decided.{is_covered, is_met}
use Rattle.fx_dropout.specs.Dropout.{IsGap}
use Rattle.fx_dropout.specs.Work.{gap_price, gap_work, gaps_work, is_gap as is_gap_at, rows_work, sum_below, HoldsGaps}
use Rattle.fx_dropout.specs.inner.Closing.{stride, AreOpen, IsOpenIn}
use Rattle.fx_dropout.specs.inner.Pairs.{seen_spans}
use Rattle.fx_dropout.specs.inner.Segments.{segment_price, segment_start, start_across, start_price}
use Rattle.fx_dropout.proofs.Closed.{in_frame, not_before, not_after, on_covers, pixel_bit, row_start, unused_bit}
use Rattle.fx_dropout.proofs.Decided.{IsTest, any_of, both, covered_is, like, met_is, none}
use Rattle.fx_dropout.proofs.Lines.{before_first, is_gap}
use Rattle.fx_dropout.proofs.Opens.{past_word}
use Rattle.fx_dropout.proofs.Priced.{start_is, unset_price}
use Rattle.fx_dropout.proofs.Sums.{sum_blocks, sum_box, sum_cut, sum_nothing, sum_same, sum_swap}

-- ---- one gap
gap_is : (covered : ℤ → ℤ → Bool) (So : ℤ → ℤ → Type 0) (ss : List Span) → ((i j : ℤ) → IsTest (covered i j) (So i j))
    → (i j : ℤ) → IsTest (is_gap_at covered ss i j) (IsGap ss So i j)
gap_is covered So ss is i j =
    like (λ h. record { here = h.0.0; next = h.0.1; met = h.1 }) (λ g. ((g.here, g.next), g.met))
    (both (both (none (is i j)) (none (is (i +ℤ pos 1) j)))
    (any_of (is_met (centre i j) (centre (i +ℤ pos 1) j)) (IsMet (centre i j) (centre (i +ℤ pos 1) j))
    (met_is (centre i j) (centre (i +ℤ pos 1) j)) ss))

-- a segment whose bit tells of the gap costs what the gap costs
segment_is : (up : Bool) (f : Frame) (ss : List Span) (bits : List ℕ) (m : ℕ) (covered : ℤ → ℤ → Bool) (So : ℤ → ℤ → Type 0)
    (i j : ℤ) → ((i j : ℤ) → IsTest (covered i j) (So i j)) → (word_bit bits m ≡ 1) ↔ IsGap (seen_spans up ss) So i j
    → segment_start up f m ≡ Some (centre i j) → segment_price up f ss bits m ≡ gap_work covered (seen_spans up ss) i j
unfolding segment_price gap_work
segment_is up f ss bits m covered So i j is gap start =
    let same = same_from_decides (word_bit bits m == 1) (is_gap_at covered (seen_spans up ss) i j)
    (Decides-like _ gap.0 gap.1 (Decides-eqb (word_bit bits m) 1)) (gap_is covered So (seen_spans up ss) is i j).told in
    λ t. if same t then start_price (seen_spans up ss) (start t) else 0

-- where no piece passes there is no gap
no_gap : (covered : ℤ → ℤ → Bool) (ss : List Span) (i j : ℤ) → ¬ (Any (IsMet (centre i j) (centre (i +ℤ pos 1) j)) ss)
    → gap_work covered ss i j ≡ 0
unfolding gap_work
no_gap covered ss i j n =
    let So : ℤ → ℤ → Type 0 = λ i j. covered i j ≡ true in
    let is : (i j : ℤ) → IsTest (covered i j) (So i j) = λ i j. record { told = (λ h. h, λ h. h) } in
    let off = not_true (is_gap_at covered ss i j) (λ t. n ((gap_is covered So ss is i j).told.0 t).met) in
    λ t. if off t then gap_price ss (centre i j) else 0
  where
    not_true : (b : Bool) → ¬ (b ≡ true) → b ≡ false
    not_true true h = absurd (h refl)
    not_true false h = refl

-- ---- a frame
-- words of pixels and notes of a scan
pub record IsScanned (f : Frame) (ss : List Span) (words across up : List ℕ) : Type 0 where
  pub wide : 0 < f.width
  pub high : 0 < f.height
  pub margin : HasMargin f
  pub room : AreWords f.height f.width words
  pub scanned : IsScanOf f ss (record { frame = f; rows = rows_of f.height f.width words })
  pub noted : AreExact f across up ss
  pub around : HoldsGaps f ss

module _ (f : Frame) (ss : List Span) (words across up : List ℕ) (given : IsScanned f ss words across up) where
  abbrev So : ℤ → ℤ → Type 0
  So i j = IsCovered (centre i j) ss

  set : (r k : ℕ) → r < f.height → k < f.width
      → (word_bit words (pixel_number f r k) ≡ 1) ↔ So (f.left +ℤ pos k) (f.bottom +ℤ pos r)
  set r k h l =
      let bit = pixel_bit f words r k h l in
      let is = given.scanned.bits (f.left +ℤ pos k) (f.bottom +ℤ pos r) (in_frame f k r l h) in
      (λ e. is.0 (bit.1 e), λ c. bit.0 (is.1 c))

  row_open : (r k : ℕ) → r < f.height → k ≤ f.width
      → IsOpenIn 1 across words (pixel_number f r k) ↔ IsGap ss So ((f.left -ℤ pos 1) +ℤ pos k) (f.bottom +ℤ pos r)
  row_open r k h l =
      is_gap ss (IsInFrame f) (λ i j. ⊥) So f.left (f.bottom +ℤ pos r) f.width 1 words across (λ m. m ≡ pixel_number f r 0)
      (λ n. pixel_number f r n) (record {
        step = λ n. omega arith;
        set = λ n l. set r n h l;
        start = row_start f words given.room r h;
        end = unused_bit f words r f.width given.room h (omega arith) (omega arith);
        none = λ i. given.around.outside i (f.bottom +ℤ pos r);
        tells = λ k l off off'. given.noted.across r k h l (record {
          off_from = λ a. off (on_covers _ ss a);
          off_to = λ a. off' (on_covers _ ss a);
        });
        inside = λ n l. in_frame f n r l h;
        before = λ i. not_before f.left f.width i.column;
        after = λ i. not_after f.left f.width i.column;
        first_is = refl;
        next_is = λ n l. (λ e. absurd (omega (arith, e)), λ h. absurd h.0);
      }) k _ l refl

  column_open : (r k : ℕ) → r ≤ f.height → k < f.width → IsOpenIn (stride f) up words (pixel_number f r k)
      ↔ IsGap (map turned_span ss) (λ j i. So i j) ((f.bottom -ℤ pos 1) +ℤ pos r) (f.left +ℤ pos k)
  column_open r k h l =
      is_gap (map turned_span ss) (λ j i. IsInFrame f i j) (λ i j. ⊥) (λ j i. So i j) f.bottom (f.left +ℤ pos k) f.height
      (stride f) words up (λ m. m ≡ pixel_number f 0 k) (λ q. pixel_number f q k) (record {
        step = λ n. omega arith;
        set = λ r h. set r k h l;
        start = before_first (stride f) words (pixel_number f 0 k) (omega (arith, l));
        end = past (omega (arith, l));
        none = λ j. given.around.outside (f.left +ℤ pos k) j;
        tells = λ q m off off'. given.noted.up q k given.high m l (record {
          off_from = λ a. off (on_covers _ ss a);
          off_to = λ a. off' (on_covers _ ss a);
        });
        inside = λ r h. in_frame f k r l h;
        before = λ i. not_before f.bottom f.height i.row;
        after = λ i. not_after f.bottom f.height i.row;
        first_is = refl;
        next_is = λ n l. (λ e. absurd (omega (arith, e)), λ h. absurd h.0);
      }) r _ h refl
    where
      past : k < stride f → word_bit words (pixel_number f f.height k) ≡ 0
      past m =
          let long = given.room.long in
          let e : f.height * (32 * words_for f.width) ≡ 32 * (f.height * words_for f.width) = omega arith in
          past_word words (pixel_number f f.height k) (omega (arith, long, e))

  -- where a segment comes from
  row_from : (r k : ℕ) → r < f.height → k ≤ f.width
      → segment_start false f (pixel_number f r k) ≡ Some (centre ((f.left -ℤ pos 1) +ℤ pos k) (f.bottom +ℤ pos r))
  row_from r k h l =
      let column = mod-mul-add r (stride f) k (omega (arith, l)) in
      let row = div-mul-add r (stride f) k (omega (arith, l)) in
      (λ t. start_across f.left f.width f.bottom f.height (column t) (row t))
      ∙ start_is f.left f.width f.bottom f.height k r l h

  column_from : (r k : ℕ) → r ≤ f.height → k < f.width
      → segment_start true f (pixel_number f r k) ≡ Some (centre ((f.bottom -ℤ pos 1) +ℤ pos r) (f.left +ℤ pos k))
  column_from r k h l =
      let column = mod-mul-add r (stride f) k (omega (arith, l)) in
      let row = div-mul-add r (stride f) k (omega (arith, l)) in
      (λ t. start_across f.bottom f.height f.left f.width (row t) (column t))
      ∙ start_is f.bottom f.height f.left f.width r k h l

  -- a segment that is not noted costs nothing
  unnoted : (is_up : Bool) (far : ℕ) (noted left : List ℕ) (m : ℕ) → AreOpen far noted words left → word_bit noted m ≡ 0
      → segment_price is_up f ss left m ≡ 0
  unnoted is_up far noted left m opens z = unset_price is_up f ss left m (λ e.
      let o = ((opens.bits m).0 e).noted_is in omega (arith, o, z))

  covers : (i j : ℤ) → IsTest (is_covered (centre i j) ss) (So i j)
  covers i j = covered_is (centre i j) ss

  -- the rows
  pub rows_priced : (left : List ℕ) → length across ≡ f.height * words_for f.width → AreOpen 1 across words left
      → sum_below (32 * length left) (segment_price false f ss left) ≡ gaps_work false ss
  unfolding rows_work
  rows_priced left long opens =
      let P : ℕ → ℕ = segment_price false f ss left in
      let g : ℤ → ℤ → ℕ = gap_work (λ i j. is_covered (centre i j) ss) ss in
      let same = opens.long in
      let e : 32 * length left ≡ f.height * stride f = omega (arith, long, same) in
      let m = given.margin in
      let a = m.left in
      let b = m.right in
      let c = f.rows.from in
      let d = f.rows.to in
      let row : (r : ℕ) → r < f.height → sum_below (stride f) (λ k. P (r * stride f + k))
      ≡ sum_below (f.width + 1) (λ k. g ((f.left -ℤ pos 1) +ℤ pos k) (f.bottom +ℤ pos r)) = λ r h.
      sum_cut (f.width + 1) (stride f) (λ k. P (r * stride f + k)) (omega arith)
      (λ k w l. unnoted false 1 across left (pixel_number f r k) opens (given.noted.rest_across r k h (omega (arith, w)) l))
      ∙ sum_same (f.width + 1) _ _ (λ k l.
      let o = opens.bits (pixel_number f r k) in
      let is = row_open r k h (omega (arith, l)) in
      segment_is false f ss left (pixel_number f r k) (λ i j. is_covered (centre i j) ss) So _ _ covers
      (λ t. is.0 (o.0 t), λ t. o.1 (is.1 t)) (row_from r k h (omega (arith, l)))) in
      (λ t. sum_below (e t) P) ∙ sum_blocks f.height (stride f) P ∙ sum_same f.height _ _ row
      ∙ sym (sum_box g (f.left -ℤ pos 1) f.bottom (f.width + 1) f.height a.0 (omega (arith, signed_linear, b)) c d
      (λ i j out. no_gap (λ i j. is_covered (centre i j) ss) ss i j (λ q. beside i j out (given.around.rows i j q)))
      (λ i j out. no_gap (λ i j. is_covered (centre i j) ss) ss i j (λ q. above i j out (given.around.rows i j q))))
    where
      beside : (i j : ℤ) → (i <ℤ (f.left -ℤ pos 1)) ⊎ (((f.left -ℤ pos 1) +ℤ pos (f.width + 1)) ≤ℤ i)
          → IsInFrame f i j ⊎ IsInFrame f (i +ℤ pos 1) j → ⊥
      beside i j out (inl h) = let q = h.column in omega (arith, signed_linear, out, q)
      beside i j out (inr h) = let q = h.column in omega (arith, signed_linear, out, q)

      above : (i j : ℤ) → (j <ℤ f.bottom) ⊎ ((f.bottom +ℤ pos f.height) ≤ℤ j)
          → IsInFrame f i j ⊎ IsInFrame f (i +ℤ pos 1) j → ⊥
      above i j out (inl h) = let q = h.row in omega (arith, signed_linear, out, q)
      above i j out (inr h) = let q = h.row in omega (arith, signed_linear, out, q)

  -- the columns
  pub columns_priced : (left : List ℕ) → length up ≡ (f.height + 1) * words_for f.width → AreOpen (stride f) up words left
      → sum_below (32 * length left) (segment_price true f ss left) ≡ gaps_work true ss
  unfolding rows_work
  columns_priced left long opens =
      let P : ℕ → ℕ = segment_price true f ss left in
      let g : ℤ → ℤ → ℕ = gap_work (λ j i. is_covered (centre i j) ss) (map turned_span ss) in
      let same = opens.long in
      let e : 32 * length left ≡ (f.height + 1) * stride f = omega (arith, long, same) in
      let m = given.margin in
      let a = m.bottom in
      let b = m.top in
      let c = f.columns.from in
      let d = f.columns.to in
      let G : ℕ → ℕ → ℕ = λ r k. g ((f.bottom -ℤ pos 1) +ℤ pos r) (f.left +ℤ pos k) in
      let row : (r : ℕ) → r < f.height + 1 → sum_below (stride f) (λ k. P (r * stride f + k))
      ≡ sum_below f.width (λ k. G r k) = λ r h.
      sum_cut f.width (stride f) (λ k. P (r * stride f + k)) (omega arith)
      (λ k w l. unnoted true (stride f) up left (pixel_number f r k) opens (given.noted.rest_up r k (omega (arith, h)) w l))
      ∙ sum_same f.width _ _ (λ k l.
      let o = opens.bits (pixel_number f r k) in
      let is = column_open r k (omega (arith, h)) l in
      segment_is true f ss left (pixel_number f r k) (λ j i. is_covered (centre i j) ss) (λ j i. So i j) _ _ (λ j i. covers i j)
      (λ t. is.0 (o.0 t), λ t. o.1 (is.1 t)) (column_from r k (omega (arith, h)) l)) in
      (λ t. sum_below (e t) P) ∙ sum_blocks (f.height + 1) (stride f) P ∙ sum_same (f.height + 1) _ _ row
      ∙ sum_swap (f.height + 1) f.width G
      ∙ sym (sum_box g (f.bottom -ℤ pos 1) f.left (f.height + 1) f.width a.0 (omega (arith, signed_linear, b)) c d
      (λ i j out. no_gap (λ j i. is_covered (centre i j) ss) (map turned_span ss) i j
      (λ q. above i j out (given.around.columns j i q)))
      (λ i j out. no_gap (λ j i. is_covered (centre i j) ss) (map turned_span ss) i j
      (λ q. beside i j out (given.around.columns j i q))))
    where
      above : (i j : ℤ) → (i <ℤ (f.bottom -ℤ pos 1)) ⊎ (((f.bottom -ℤ pos 1) +ℤ pos (f.height + 1)) ≤ℤ i)
          → IsInFrame f j i ⊎ IsInFrame f j (i +ℤ pos 1) → ⊥
      above i j out (inl h) = let q = h.row in omega (arith, signed_linear, out, q)
      above i j out (inr h) = let q = h.row in omega (arith, signed_linear, out, q)

      beside : (i j : ℤ) → (j <ℤ f.left) ⊎ ((f.left +ℤ pos f.width) ≤ℤ j)
          → IsInFrame f j i ⊎ IsInFrame f j (i +ℤ pos 1) → ⊥
      beside i j out (inl h) = let q = h.column in omega (arith, signed_linear, out, q)
      beside i j out (inr h) = let q = h.column in omega (arith, signed_linear, out, q)

-- where no piece passes between two neighbours there is no gap
pub nothing_met : (up : Bool) (ss : List Span)
    → ((i j : ℤ) → ¬ (Any (IsMet (centre i j) (centre (i +ℤ pos 1) j)) (seen_spans up ss))) → gaps_work up ss ≡ 0
unfolding rows_work
nothing_met false ss none = sum_nothing _ (λ i j. no_gap (λ i j. is_covered (centre i j) ss) ss i j (none i j))
nothing_met true ss none =
    sum_nothing _ (λ i j. no_gap (λ j i. is_covered (centre i j) ss) (map turned_span ss) i j (none i j))

-- so a frame without a pixel holds none
pub nothing_priced : (up : Bool) (f : Frame) (ss : List Span) → HoldsGaps f ss → ((i j : ℤ) → ¬ (IsInFrame f i j))
    → gaps_work up ss ≡ 0
nothing_priced false f ss around none = nothing_met false ss (λ i j q. elim (around.rows i j q) [
  | inl h ↦ none _ _ h
  | inr h ↦ none _ _ h
])
nothing_priced true f ss around none = nothing_met true ss (λ i j q. elim (around.columns j i q) [
  | inl h ↦ none _ _ h
  | inr h ↦ none _ _ h
])

pub no_pixel : (f : Frame) → (f.width ≡ 0) ⊎ (f.height ≡ 0) → (i j : ℤ) → ¬ (IsInFrame f i j)
no_pixel f (inl e) i j h = let q = h.column in omega (arith, signed_linear, e, q)
no_pixel f (inr e) i j h = let q = h.row in omega (arith, signed_linear, e, q)

-- ---- for `closing_work`
pub scanned_by : (f : Frame) (ss : List Span) (b : Bits) (words across up : List ℕ) → f ≡ b.frame
    → b ≡ record { frame = b.frame; rows = rows_of b.frame.height b.frame.width words }
    → AreWords b.frame.height b.frame.width words → IsScanOf b.frame ss b → AreExact b.frame across up ss → HasMargin b.frame
    → HoldsGaps b.frame ss → f.width ≢ 0 → f.height ≢ 0 → IsScanned f ss words across up
scanned_by f ss b words across up is value room scanned noted margin around wide high = record {
  wide = omega (arith, wide);
  high = omega (arith, high);
  margin = subst HasMargin (sym is) margin;
  room = subst (λ (g : Frame). AreWords g.height g.width words) (sym is) room;
  scanned = subst (λ (g : Frame). IsScanOf g ss (record { frame = g; rows = rows_of g.height g.width words })) (sym is)
      (subst (IsScanOf b.frame ss) value scanned);
  noted = subst (λ (g : Frame). AreExact g across up ss) (sym is) noted;
  around = subst (λ (g : Frame). HoldsGaps g ss) (sym is) around;
}

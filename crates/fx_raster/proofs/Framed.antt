-- A frame of spans has as many columns and rows as the least and the greatest of their coordinates say: `framed_work`.
-- Serves `frame_work`.
use Rattle.std.proofs.Common.{◌≡◌, ◌⊎◌, ◌↔◌, inl, inr, refl, sym, ap, ◌∙◌, ℕ, zero, suc, ◌<◌, ℤ, pos, ◌+ℤ◌, ◌-ℤ◌, ◌*ℤ◌, ◌≤ℤ◌}
use Rattle.std.proofs.Common.{◌<ℤ◌, List, [], ◌∷◌, Some, None, arith}
use Rattle.std.specs.Prelude.{max, unsigned_abs}
use Rattle.std.proofs.lemmas.Int.{ints}
use Rattle.fx_fixed.proofs.Linear.{signed, signed_linear}
use Rattle.fx_fixed.proofs.Order.{below_or_not_ℤ}
use Rattle.fx_winding.specs.Area.{Place}
use Rattle.fx_winding.specs.Winding.{Span, centre}
use Rattle.fx_winding.specs.declared.frame.Frame.{Frame}
use Rattle.fx_winding.specs.Frames.{IsFrom, IsInFrame}
use Rattle.fx_contour.specs.DropoutFrames.{x_of, y_of, least, greatest, IsKeptIn, IsMiddleOf}
use Rattle.fx_contour.specs.Frames.{IsCentreIn, IsInBoundingBox, first_from}
use Rattle.fx_contour.proofs.Decided.{first_reaches, first_least}
use Rattle.fx_contour.proofs.Extents.{least_reaches, greatest_reaches}
use Rattle.fx_contour.proofs.Framed.{first_in}
use Rattle.fx_contour.proofs.Kept.{some_pixel_is_kept}
use Rattle.fx_raster.specs.declared.rule.Rule.{Rule}
use Rattle.fx_raster.specs.declared.rule.Rule.TheVariants.{Centres, Bridged}
use Rattle.fx_raster.specs.Frames.{IsFramedBy}
use Rattle.fx_raster.specs.Work.{centres_in, side_of, rows_work, frame_work}

-- ---- a side

-- as many as from the first one to the last
steps_between : (e f : ℤ) (first : ℤ) (count : ℕ) → f ≡ first → e ≡ first +ℤ pos count → count ≡ unsigned_abs (e -ℤ f)
steps_between e f first count h k = omega (arith, ints, h, k)

-- the last of some
last_in : (first : ℤ) (count : ℕ) → 0 < count → IsFrom first count ((first +ℤ pos count) -ℤ pos 1)
last_in first count h = (omega (arith, signed_linear, h), omega (arith, signed_linear))

-- the pixels whose centres lie from low to high, if there is one
count_is : (first : ℤ) (count : ℕ) (low high : ℤ) → 0 < count → ((n : ℤ) → IsFrom first count n ↔ IsCentreIn low high n)
    → count ≡ centres_in low high
count_is first count low high some all =
    let begins = (all first).0 (first_in first count some) in
    let ends = (all ((first +ℤ pos count) -ℤ pos 1)).0 (last_in first count some) in
    let f = first_from low in
    let e = first_from (high +ℤ pos 1) in
    let fr = first_reaches low in
    let fl = first_least low first begins.0 in
    let er = first_reaches (high +ℤ pos 1) in
    let at_first = (all f).1 (fr, omega (arith, signed, fl, begins)) in
    let past : e ≤ℤ (first +ℤ pos count) = elim (below_or_not_ℤ high (pos 128 *ℤ (first +ℤ pos count) +ℤ pos 64)) [
      | inl h ↦ first_least (high +ℤ pos 1) (first +ℤ pos count) (omega (arith, signed_linear, h))
      | inr h ↦ let k = (all (first +ℤ pos count)).1 (omega (arith, signed, begins), h) in absurd (omega (arith, signed_linear, k))
    ] in
    steps_between e f first count (omega (arith, signed_linear, fl, at_first)) (omega (arith, signed, past, er, ends))

-- from the first one at low or beyond to the first one past high
in_order : (low high : ℤ) → low ≤ℤ high → first_from low ≤ℤ first_from (high +ℤ pos 1)
in_order low high h =
    let e = first_reaches (high +ℤ pos 1) in first_least low (first_from (high +ℤ pos 1)) (omega (arith, signed_linear, h, e))

no_steps : (e f : ℤ) → e ≤ℤ f → f ≤ℤ e → unsigned_abs (e -ℤ f) ≡ 0
no_steps e f h k = omega (arith, ints, h, k)

none_between : (low high : ℤ) → low ≤ℤ high → high <ℤ (pos 128 *ℤ first_from low +ℤ pos 64) → centres_in low high ≡ 0
none_between low high h k = no_steps (first_from (high +ℤ pos 1)) (first_from low)
    (first_least (high +ℤ pos 1) (first_from low) (omega (arith, signed_linear, k))) (in_order low high h)

-- where there are some, the first one is one
first_is : (low high : ℤ) → low ≤ℤ high → 0 < centres_in low high → IsCentreIn low high (first_from low)
first_is low high h some = elim (below_or_not_ℤ high (pos 128 *ℤ first_from low +ℤ pos 64)) [
  | inl k ↦ let e = none_between low high h k in absurd (omega (arith, some, e))
  | inr k ↦ (first_reaches low, k)
]

at_least_one : (n : ℕ) → 0 < n → n ≡ max 1 n
at_least_one n h = omega (arith, h)

one_alone : (n : ℕ) → n ≡ 0 → 1 ≡ max 1 n
one_alone n e = rw e refl

-- the pixels that a rule keeps from low to high
abbrev IsOneOf : Rule → ℤ → ℤ → ℤ → Type 0
IsOneOf Centres low high n = IsCentreIn low high n
IsOneOf (Bridged closing) low high n = IsKeptIn low high n

middle_alone : (first : ℤ) (count : ℕ) (low high : ℤ) → 0 < count → IsMiddleOf low high first
    → IsMiddleOf low high ((first +ℤ pos count) -ℤ pos 1) → count ≡ 1
middle_alone first count low high some a b = omega (arith, signed, some, a, b)

side_is : (rule : Rule) (first : ℤ) (count : ℕ) (low high : ℤ) → low ≤ℤ high → 0 < count
    → ((n : ℤ) → IsFrom first count n ↔ IsOneOf rule low high n) → count ≡ side_of rule low high
side_is Centres first count low high h some all = count_is first count low high some all
side_is (Bridged closing) first count low high h some all =
    by (below_or_not_ℤ high (pos 128 *ℤ first_from low +ℤ pos 64))
  where
    last : ℤ
    last = (first +ℤ pos count) -ℤ pos 1

    centred : (pos 128 *ℤ first_from low +ℤ pos 64) ≤ℤ high → (n : ℤ) → IsKeptIn low high n → IsCentreIn low high n
    centred k n (inl a) = a
    centred k n (inr a) = absurd (a.0 (first_from low) (first_reaches low, k))

    middle : high <ℤ (pos 128 *ℤ first_from low +ℤ pos 64) → (n : ℤ) → IsKeptIn low high n → IsMiddleOf low high n
    middle k n (inl a) = let f = first_least low n a.0 in absurd (omega (arith, signed, k, f, a))
    middle k n (inr a) = a.1

    by : (high <ℤ (pos 128 *ℤ first_from low +ℤ pos 64)) ⊎ ((pos 128 *ℤ first_from low +ℤ pos 64) ≤ℤ high)
        → count ≡ max 1 (centres_in low high)
    by (inl k) =
        middle_alone first count low high some (middle k first ((all first).0 (first_in first count some)))
        (middle k last ((all last).0 (last_in first count some))) ∙ one_alone (centres_in low high) (none_between low high h k)
    by (inr k) =
        let c = count_is first count low high some (λ n. (λ a. centred k n ((all n).0 a), λ a. (all n).1 (inl a))) in
        at_least_one count some ∙ ap (max 1) c

-- ---- a frame

some_in : (first : ℤ) (count : ℕ) (n : ℤ) → IsFrom first count n → 0 < count
some_in first count n h = omega (arith, signed_linear, h)

-- no work where there is no pixel
no_rows : (rows columns : ℕ) → (0 < rows → 0 < columns → ⊥) → rows_work rows columns ≡ 0
no_rows zero columns h = omega arith
no_rows (suc rows) zero h = omega arith
no_rows (suc rows) (suc columns) h = absurd (h (omega arith) (omega arith))

ordered : (coord : Place → ℤ) (s : Span) (ss : List Span) → least coord s ss ≤ℤ greatest coord s ss
ordered coord s ss =
    let a = (least_reaches coord s ss (coord s.a)).0 (inl (inl (omega (arith, ints)))) in
    let b = (greatest_reaches coord s ss (coord s.a)).0 (inl (inl (omega (arith, ints)))) in
    omega (arith, signed_linear, a, b)

-- a pixel with a centre in the box of the points
in_box : (s : Span) (ss : List Span) (i j : ℤ) → IsInBoundingBox (centre i j) (s ∷ ss)
    ↔ (IsCentreIn (least x_of s ss) (greatest x_of s ss) i × IsCentreIn (least y_of s ss) (greatest y_of s ss) j)
in_box s ss i j = (
  λ h. (
    ((least_reaches x_of s ss _).0 h.left, (greatest_reaches x_of s ss _).0 h.right),
    ((least_reaches y_of s ss _).0 h.bottom, (greatest_reaches y_of s ss _).0 h.top),
  ),
  λ h. record {
    left = (least_reaches x_of s ss _).1 h.0.0;
    right = (greatest_reaches x_of s ss _).1 h.0.1;
    bottom = (least_reaches y_of s ss _).1 h.1.0;
    top = (greatest_reaches y_of s ss _).1 h.1.1;
  },
)

-- the sides of a frame that holds a pixel exactly if its column and its row are kept
sides_are : (rule : Rule) (f : Frame) (s : Span) (ss : List Span) (i j : ℤ) → IsInFrame f i j
    → ((i j : ℤ) → IsInFrame f i j ↔ (IsOneOf rule (least x_of s ss) (greatest x_of s ss) i
    × IsOneOf rule (least y_of s ss) (greatest y_of s ss) j))
    → rows_work f.height f.width ≡ frame_work rule (s ∷ ss)
sides_are rule f s ss i j m all =
    let columns = side_is rule f.left f.width _ _ (ordered x_of s ss) (some_in f.left f.width i m.column) (λ n. (
      λ h. ((all n j).0 (record { column = h; row = m.row })).0,
      λ h. ((all n j).1 (h, ((all i j).0 m).1)).column,
    )) in
    let rows = side_is rule f.bottom f.height _ _ (ordered y_of s ss) (some_in f.bottom f.height j m.row) (λ n. (
      λ h. ((all i n).0 (record { column = m.column; row = h })).1,
      λ h. ((all i n).1 (((all i j).0 m).0, h)).row,
    )) in
    rw (columns, rows) refl

corner_in : (f : Frame) → 0 < f.height → 0 < f.width → IsInFrame f f.left f.bottom
corner_in f h k = record { column = first_in f.left f.width k; row = first_in f.bottom f.height h }

pub framed_work : (rule : Rule) (f : Frame) (ss : List Span) → IsFramedBy rule (Some f) ss
    → rows_work f.height f.width ≡ frame_work rule ss
framed_work Centres f [] h =
    no_rows f.height f.width (λ r c. ((h.pixels f.left f.bottom).0 (corner_in f r c)).left)
framed_work (Bridged closing) f [] h =
    no_rows f.height f.width (λ r c. ((h.0 f.left f.bottom).0 (corner_in f r c)).0)
framed_work Centres f (s ∷ ss) h =
    sides_are Centres f s ss f.left f.bottom (corner_in f h.rows h.columns) (λ i j.
    let p = h.pixels i j in let b = in_box s ss i j in (λ a. b.0 (p.0 a), λ a. p.1 (b.1 a)))
framed_work (Bridged closing) f (s ∷ ss) h =
    let some = some_pixel_is_kept (s ∷ ss) (omega arith) in
    sides_are (Bridged closing) f s ss some.0 some.1 ((h.0 some.0 some.1).1 some.2) h.0

pub no_frame_work : (rule : Rule) (ss : List Span) → IsFramedBy rule None ss → 0 ≡ frame_work rule ss
no_frame_work rule [] h = refl
no_frame_work Centres (s ∷ ss) h = sym (no_rows _ _ (λ r c.
    let i = first_from (least x_of s ss) in
    let j = first_from (least y_of s ss) in
    h i j ((in_box s ss i j).1 (first_is _ _ (ordered x_of s ss) c, first_is _ _ (ordered y_of s ss) r))))
no_frame_work (Bridged closing) (s ∷ ss) h =
    let some = some_pixel_is_kept (s ∷ ss) (omega arith) in absurd ((h.0 some.0 some.1).1 some.2)

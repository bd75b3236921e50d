-- The pixels that the bounding box keeps make the frame with drop-out control: `dropout_frame_is`.
-- For `dropout_frame_around`.
use Rattle.std.proofs.Common.{◌≡◌, ◌⊎◌, ◌↔◌, inl, inr, refl, subst, IsTrue, ◌<◌, ◌≤◌, ℤ, pos, ◌+ℤ◌, ◌-ℤ◌, ◌≤ℤ◌, Bool, true}
use Rattle.std.proofs.Common.{false, ◌||◌, not, List, [], ◌∷◌, Option, Some, None, Ok, Err, arith}
use Rattle.std.proofs.lemmas.Int.{ints}
use Rattle.std.proofs.lemmas.Bool.{false_from_ne_true, true_from_ne_false}
use Rattle.std.proofs.lemmas.Bool.Decides.{not_from_Decides}
use Rattle.fx_fixed.specs.Ranges.{IsWithin}
use Rattle.fx_fixed.proofs.Linear.{signed_linear}
use Rattle.fx_winding.specs.Area.{Place}
use Rattle.fx_winding.specs.Frames.{HasMargin}
use Rattle.fx_winding.specs.Limits.{greatest_side, IsPixelNumber}
use Rattle.fx_winding.specs.Winding.{Span}
use Rattle.fx_winding.specs.declared.frame.Frame.{Frame}
use Rattle.fx_contour.specs.declared.bounds.PieceBounds.{PieceBounds}
use Rattle.fx_contour.specs.declared.fault.ContourFault.TheVariants.{TooFar, TooLarge}
use Rattle.fx_contour.specs.declared.pixels.Pixels.{Pixels}
use Rattle.fx_contour.specs.Bounds.{left_side, AreBounds, AreBoundsOf, AreKept, BoundsLeaveMargin, IsBoxOf}
use Rattle.fx_contour.specs.DropoutFrames.{x_of, y_of, IsKept, IsDropoutFrameFor, LeavesMargin, farthest_with_margin}
use Rattle.fx_contour.specs.DropoutFrames.{leaves_margin, KeepsTooMany, keeps_too_many, dropout_framed_of}
use Rattle.fx_contour.specs.Frames.{HaveAny, have_any}
use Rattle.fx_contour.proofs.Decided.{some_one}
use Rattle.fx_contour.proofs.Extents.{IsExtent, box_extents, in_extent, low_is, high_is}
use Rattle.fx_contour.proofs.Framed.{first_in, far_in, apart}
use Rattle.fx_contour.proofs.Kept.{kept_in, kept_neighbours, many_decides, margin_decides, margin_is_tested}

pub same_kept : (s : Pixels) (l h l' h' : ℤ) → l ≡ l' → h ≡ h' → AreKept s l h → AreKept s l' h'
same_kept s l h l' h' e f k = subst (λ y. AreKept s l' y) f (subst (λ x. AreKept s x h) e k)

-- ---- no span

pub no_span : (o : Option PieceBounds) (ss : List Span) → o ≡ None → AreBoundsOf o ss → ss ≡ []
no_span o [] e a = refl
no_span o (s ∷ ss) e a =
    let P : Option PieceBounds → Type 0 = λ x. AreBoundsOf x (s ∷ ss) in
    absurd (((subst P e a).sides left_side s.a.x).0 (inl (inl (omega (arith, ints)))))

pub none_framed : (ss : List Span) → ss ≡ [] → Ok tt ≡ dropout_framed_of ss
unfolding dropout_framed_of keeps_too_many
none_framed ss e = rw e refl

pub none_frame : (ss : List Span) → ss ≡ [] → IsDropoutFrameFor None ss
none_frame ss e i j = (λ n. absurd n, λ k. subst (λ (xs : List Span). IsKept x_of xs i) e k.0)

-- ---- too far

-- a coordinate of a point of spans of which none lies too far out
pub near : (coord : Place → ℤ) → ((q : Place) → LeavesMargin q → IsWithin farthest_with_margin (coord q)) → (ss : List Span)
    → ¬ (HaveAny (λ r. ¬ (LeavesMargin r)) ss) → (z : ℤ) → HaveAny (λ q. coord q ≡ z) ss → IsWithin farthest_with_margin z
near coord within ss n z h = some_one (λ q. coord q ≡ z) (IsWithin farthest_with_margin z) ss h
    (λ q k m. subst (IsWithin farthest_with_margin) k (within q (leaves q m (leaves_margin q) refl)))
  where
    leaves : (q : Place) → ((R : Place → Type 0) → R q → HaveAny R ss) → (t : Bool) → leaves_margin q ≡ t → LeavesMargin q
    leaves q m true e = (margin_decides q).0 e
    leaves q m false e = absurd (n (m (λ r. ¬ (LeavesMargin r)) (not_from_Decides (leaves_margin q) (margin_decides q) e)))

bounds_leave : (b : PieceBounds) (ss : List Span) → AreBounds b ss → ¬ (HaveAny (λ r. ¬ (LeavesMargin r)) ss) → BoundsLeaveMargin b
bounds_leave b ss a n =
    let e = box_extents b.left b.right b.bottom b.top ss a.sides in
    let x = near x_of (λ q h. h.0) ss n in
    let y = near y_of (λ q h. h.1) ss n in (
      (x b.left (low_is x_of ss _ _ e.0), x b.right (high_is x_of ss _ _ e.0)),
      (y b.bottom (low_is y_of ss _ _ e.1), y b.top (high_is y_of ss _ _ e.1)),
    )

within_between : (low high z : ℤ) → IsWithin farthest_with_margin low → IsWithin farthest_with_margin high
    → (low ≤ℤ z) × (z ≤ℤ high) → IsWithin farthest_with_margin z
within_between low high z a b h = grind (arith, signed_linear, a, b, h)

none_far : (b : PieceBounds) (ss : List Span) → AreBounds b ss → BoundsLeaveMargin b → ¬ (HaveAny (λ r. ¬ (LeavesMargin r)) ss)
none_far b ss a l h =
    let e = box_extents b.left b.right b.bottom b.top ss a.sides in
    some_one (λ r. ¬ (LeavesMargin r)) ⊥ ss h (λ q n m. n (
      within_between b.left b.right q.x l.0.0 l.0.1 (in_extent x_of ss b.left b.right e.0 q m),
      within_between b.bottom b.top q.y l.1.0 l.1.1 (in_extent y_of ss b.bottom b.top e.1 q m),
    ))

pub far_framed : (b : PieceBounds) (ss : List Span) (r : Bool) → AreBounds b ss → (IsTrue r ↔ BoundsLeaveMargin b) → r ≡ false
    → Err TooFar ≡ dropout_framed_of ss
unfolding dropout_framed_of
far_framed b ss r a d f = grind (arith, a, d, f, true_from_ne_false, bounds_leave, not_from_Decides, margin_is_tested)

not_far : (b : PieceBounds) (ss : List Span) → AreBounds b ss → BoundsLeaveMargin b
    → have_any (λ q. not (leaves_margin q)) ss ≡ false
not_far b ss a l =
    false_from_ne_true (have_any (λ q. not (leaves_margin q)) ss) (λ e. none_far b ss a l ((margin_is_tested ss).0 e))

-- ---- too large

-- two that lie as far apart as the greatest side are kept
many_kept : (coord : Place → ℤ) (ss : List Span) (s : Pixels) (low high : ℤ) → IsExtent coord ss low high → AreKept s low high
    → greatest_side < s.count → KeepsTooMany coord ss
many_kept coord ss s low high e k c = grind (arith, signed_linear, e, k, c, kept_in, first_in, far_in)

few_kept : (coord : Place → ℤ) (ss : List Span) (s : Pixels) (low high : ℤ) → IsExtent coord ss low high → AreKept s low high
    → s.count ≤ greatest_side → ¬ (KeepsTooMany coord ss)
few_kept coord ss s low high e k c (n, h, l) = apart s.first s.count n c ((k n).1 ((kept_in coord ss low high n e).0 h))
    ((k (n +ℤ pos greatest_side)).1 ((kept_in coord ss low high (n +ℤ pos greatest_side) e).0 l))

either_true : (x y : Bool) → (x ≡ true) ⊎ (y ≡ true) → (x || y) ≡ true
either_true x y h = grind (arith, signed_linear, h)

pub large_framed : (b : PieceBounds) (ss : List Span) (s r : Pixels) → AreBounds b ss → BoundsLeaveMargin b
    → AreKept s b.left b.right
    → AreKept r b.bottom b.top → greatest_side < s.count ⊎ greatest_side < r.count → Err TooLarge ≡ dropout_framed_of ss
unfolding dropout_framed_of
large_framed b ss s r a l k m c =
    let e = box_extents b.left b.right b.bottom b.top ss a.sides in
    let t : (keeps_too_many x_of ss || keeps_too_many y_of ss) ≡ true =
    either_true (keeps_too_many x_of ss) (keeps_too_many y_of ss) (elim c [
      | inl n ↦ inl ((many_decides x_of ss).1 (many_kept x_of ss s b.left b.right e.0 k n))
      | inr n ↦ inr ((many_decides y_of ss).1 (many_kept y_of ss r b.bottom b.top e.1 m n))
    ]) in
    rw (not_far b ss a l, t) refl

pub near_framed : (b : PieceBounds) (ss : List Span) (s r : Pixels) (f : Frame) → AreBounds b ss → BoundsLeaveMargin b
    → AreKept s b.left b.right → AreKept r b.bottom b.top → IsBoxOf f s r → Ok tt ≡ dropout_framed_of ss
unfolding dropout_framed_of
near_framed b ss s r f a l k m o =
    let e = box_extents b.left b.right b.bottom b.top ss a.sides in
    let x : keeps_too_many x_of ss ≡ false =
    false_from_ne_true (keeps_too_many x_of ss) (λ t. few_kept x_of ss s b.left b.right e.0 k (rw (← o.width) f.columns.few)
    ((many_decides x_of ss).0 t)) in
    let y : keeps_too_many y_of ss ≡ false =
    false_from_ne_true (keeps_too_many y_of ss) (λ t. few_kept y_of ss r b.bottom b.top e.1 m (rw (← o.height) f.rows.few)
    ((many_decides y_of ss).0 t)) in
    rw (not_far b ss a l, x, y) refl

-- ---- the frame

pub dropout_frame_is : (b : PieceBounds) (ss : List Span) (s r : Pixels) (f : Frame) → AreBounds b ss → AreKept s b.left b.right
    → AreKept r b.bottom b.top → IsBoxOf f s r → IsDropoutFrameFor (Some f) ss
dropout_frame_is b ss s r f a k m o i j =
    let e = box_extents b.left b.right b.bottom b.top ss a.sides in
    let x = kept_in x_of ss b.left b.right i e.0 in
    let y = kept_in y_of ss b.bottom b.top j e.1 in (
      λ p. (
        x.1 ((k i).0 (rw (← o.left, ← o.width) p.column)),
        y.1 ((m j).0 (rw (← o.bottom, ← o.height) p.row)),
      ),
      λ h. record {
        column = rw (o.left, o.width) ((k i).1 (x.0 h.0));
        row = rw (o.bottom, o.height) ((m j).1 (y.0 h.1));
      },
    )

-- the last pixel
last_in : (s : Pixels) → (s.first ≤ℤ ((s.first +ℤ pos s.count) -ℤ pos 1))
last_in s = let n = s.some in omega (arith, signed_linear, n)

before_end : (end : ℤ) → IsPixelNumber ((end -ℤ pos 1) +ℤ pos 1) → IsPixelNumber end
before_end end h = let a = h.0 in let b = h.1 in (omega (arith, signed_linear, a), omega (arith, signed_linear, b))

-- the pixels on both sides of kept ones have numbers
sides_kept : (s : Pixels) (low high : ℤ) → IsWithin farthest_with_margin low → IsWithin farthest_with_margin high
    → AreKept s low high → IsPixelNumber (s.first -ℤ pos 1) × IsPixelNumber (s.first +ℤ pos s.count)
sides_kept s low high p q k =
    let last = (s.first +ℤ pos s.count) -ℤ pos 1 in
    let a = kept_neighbours low high s.first p q ((k s.first).0 (first_in s.first s.count s.some)) in
    let z = kept_neighbours low high last p q ((k last).0 (last_in s, omega (arith, signed_linear))) in
    (a.0, before_end (s.first +ℤ pos s.count) z.1)

pub frame_margin : (b : PieceBounds) (s r : Pixels) (f : Frame) → BoundsLeaveMargin b → AreKept s b.left b.right
    → AreKept r b.bottom b.top → IsBoxOf f s r → HasMargin f
frame_margin b s r f l k m o =
    let x = sides_kept s b.left b.right l.0.0 l.0.1 k in
    let y = sides_kept r b.bottom b.top l.1.0 l.1.1 m in record {
      left = rw o.left x.0;
      right = rw (o.left, o.width) x.1;
      bottom = rw o.bottom y.0;
      top = rw (o.bottom, o.height) y.1;
    }

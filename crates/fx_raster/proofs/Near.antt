-- The spans that are drawn lie near, in closed contours (`are_drawn`), and are not too large (`not_large`).
-- Serves `bitmap`, `lies_in` and, with Existing, the law that a picture exists.
use Rattle.std.proofs.Common.{◌≡◌, refl, subst, ℕ, ℤ, pos, negsuc, Bool, true, false, not, List, map, All, Ok, arith}
use Rattle.std.specs.List.{list_all}
use Rattle.fx_fixed.specs.Chain.{refuse}
use Rattle.fx_fixed.proofs.Chain.{refuse_ok}
use Rattle.fx_winding.specs.Winding.{Span}
use Rattle.fx_winding.specs.Outside.{AreOfOutline}
use Rattle.fx_outline.specs.declared.points.OutlinePoint.{OutlinePoint}
use Rattle.fx_contour.specs.declared.fault.ContourFault.TheVariants.{TooFar, TooLarge}
use Rattle.fx_contour.specs.Bounds.{Side, IsOut, ReachOf}
use Rattle.fx_contour.specs.Curve.{doubled_of, curve_of}
use Rattle.fx_contour.specs.Contours.{IsInReach, is_in_reach, contours_from, spans_of, drawn_of}
use Rattle.fx_contour.specs.Frames.{HaveAny, AreTooLarge, is_too_large, framed_of}
use Rattle.fx_contour.proofs.Closed.{all_closed}
use Rattle.fx_contour.proofs.Decided.{reach_is_tested, large_is_tested}
use Rattle.fx_contour.proofs.Drawing.{of_curves, point_with}

-- ---- near

-- a place 2^22 from the axis to each side, in 1/128 pixel, is as far out as a point of spans can be
abbrev pub IsNear : Side → ℤ → Type 0
IsNear = ReachOf (negsuc 4194303) (pos 4194304) (negsuc 4194303) (pos 4194304)

abbrev pub AreNear : List Span → Type 0
AreNear ss = (side : Side) (t : ℤ) → HaveAny (IsOut side t) ss → IsNear side t

point_near : (side : Side) (t : ℤ) (p : OutlinePoint) → IsInReach p → IsOut side t (doubled_of p) → IsNear side t
point_near side t p h i = grind (arith, h, i)

near_spans : (ends : List ℕ) (points : List OutlinePoint) → All IsInReach points → AreNear (spans_of ends points)
near_spans ends points n side t h =
    point_with (IsOut side t) (IsNear side t) points n (point_near side t) (of_curves side t 0 ends points h)

-- ---- what is drawn

pub record AreDrawn (ss : List Span) : Type 0 where
  pub near : AreNear ss
  pub closed : AreOfOutline ss

not_false : (b : Bool) → not b ≡ false → b ≡ true
not_false true h = refl
not_false false h = absurd (cc)

pub are_drawn : (ends : List ℕ) (points : List OutlinePoint) (ss : List Span) → drawn_of ends points ≡ Ok ss → AreDrawn ss
unfolding drawn_of
are_drawn ends points ss h =
    let p = refuse_ok (not (list_all is_in_reach points)) TooFar (λ _. Ok (spans_of ends points)) ss h in
    let near = (reach_is_tested points).0 (not_false (list_all is_in_reach points) p.0) in
    let same : spans_of ends points ≡ ss = cc (p.1) in
    subst AreDrawn same (record {
      near = near_spans ends points near;
      closed = (map curve_of (contours_from 0 ends points), all_closed (contours_from 0 ends points), refl);
    })

pub not_large : (ss : List Span) → framed_of ss ≡ Ok tt → AreTooLarge ss → ⊥
unfolding framed_of
not_large ss h large = refused (is_too_large ss) h ((large_is_tested ss).1 large)
  where
    refused : (b : Bool) → refuse b TooLarge ≡ Ok tt → b ≡ true → ⊥
    refused true h e = absurd (cc)
    refused false h e = absurd (cc)

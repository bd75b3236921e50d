-- The frame that was found is the outline's (`frame_found`); what refused it refuses the shape (`frame_refused`).
-- Serves `frame_of` and `lies_in`.
use Rattle.std.proofs.Common.{◌≡◌, refl, sym, ap, ℕ, All, List, map, Option, Result, Ok, Err}
use Rattle.std.specs.Prelude.{IfOk, IfErr}
use Rattle.fx_fixed.specs.Chain.{◌>>=◌, map_ok}
use Rattle.fx_fixed.proofs.Chain.{bind_ok}
use Rattle.fx_winding.specs.Outside.{AreOfOutline}
use Rattle.fx_winding.specs.declared.frame.Frame.{Frame}
use Rattle.fx_outline.specs.declared.points.OutlinePoint.{OutlinePoint}
use Rattle.fx_contour.specs.declared.fault.ContourFault.{ContourFault}
use Rattle.fx_contour.specs.Curve.{curve_of}
use Rattle.fx_contour.specs.Contours.{IsInReach, contours_from, drawn_of, spans_of}
use Rattle.fx_contour.specs.Frames.{NothingOutsideFrame}
use Rattle.fx_contour.proofs.Closed.{all_closed}
use Rattle.fx_contour.proofs.DrawnSpans.{drawn_spans}
use Rattle.fx_raster.specs.declared.rule.Rule.{Rule}
use Rattle.fx_raster.specs.Rules.{framed_by, shape_of}
use Rattle.fx_raster.specs.Frames.{HasFrame, IsFramedBy}
use Rattle.fx_raster.specs.inner.Framing.{outline_framed_by}

-- all checks passed: the shape is there
shape_due : (rule : Rule) (ends : List ℕ) (points : List OutlinePoint) → Ok tt ≡ outline_framed_by rule ends points
    → Ok (record { rule = rule; spans = spans_of ends points }) ≡ shape_of rule ends points
unfolding shape_of
shape_due rule ends points h =
    let a = bind_ok (drawn_of ends points) (framed_by rule) tt (sym h) in
    rw (a.1, a.2, (drawn_spans ends points a.0 a.1).1) refl

-- what two checks refuse, a chain that goes on after them refuses
refused : {A B C E : Type 0} (a : Result A E) (f : A → Result B E) (g : A → B → Result C E) (e : E)
    → Err e ≡ (a >>= f) → Err e ≡ (a >>= λ x. f x >>= g x)
refused (Ok x) f g e h = rw (sym h) refl
refused (Err d) f g e h = let same : e ≡ d = cc in ap Err same

-- a check refused the outline
shape_refused : (rule : Rule) (ends : List ℕ) (points : List OutlinePoint) (e : ContourFault)
    → Err e ≡ outline_framed_by rule ends points → Err e ≡ shape_of rule ends points
unfolding shape_of
shape_refused rule ends points e h = refused (drawn_of ends points) (framed_by rule) _ e h

-- the frame that was found is the outline's
pub frame_found : (rule : Rule) (ends : List ℕ) (points : List OutlinePoint) (r : Result (Option Frame) ContourFault)
    → map_ok (λ _. tt) r ≡ outline_framed_by rule ends points → IfOk r (λ f. IsFramedBy rule f (spans_of ends points))
    → IfOk r (λ f. NothingOutsideFrame f (spans_of ends points)) → IfOk r (λ _. All IsInReach points)
    → IfOk r (HasFrame rule ends points)
frame_found rule ends points (Ok f) exact framed outside reach = record {
  shape = sym (shape_due rule ends points exact);
  reach = reach;
  framed = framed;
  outside = outside;
}
frame_found rule ends points (Err e) exact framed outside reach = tt

-- what refused the frame refuses the shape
pub frame_refused : (rule : Rule) (ends : List ℕ) (points : List OutlinePoint) (r : Result (Option Frame) ContourFault)
    → map_ok (λ _. tt) r ≡ outline_framed_by rule ends points → IfErr r (λ e. shape_of rule ends points ≡ Err e)
frame_refused rule ends points (Ok f) exact = tt
frame_refused rule ends points (Err e) exact = sym (shape_refused rule ends points e exact)

-- the contours of an outline are closed
pub are_of_outline : (ends : List ℕ) (points : List OutlinePoint) → AreOfOutline (spans_of ends points)
are_of_outline ends points = (map curve_of (contours_from 0 ends points), all_closed (contours_from 0 ends points), refl)

-- A moved outline has its picture moved (`shift_moves_picture`), a reversed one the same: `reversal_keeps_picture`.
-- Serves the law `moves`.
use Rattle.std.proofs.Common.{◌≡◌, ap, ◌∙◌, subst, ◌↔◌, ℕ, List, Ok}
use Rattle.fx_fixed.specs.Chain.{◌>>=◌}
use Rattle.fx_fixed.proofs.Chain.{bind_ok, same_Ok}
use Rattle.fx_winding.specs.Winding.{Span, IsCovered, centre}
use Rattle.fx_outline.specs.declared.points.OutlinePoint.{OutlinePoint}
use Rattle.fx_contour.specs.Contours.{drawn_of}
use Rattle.fx_contour.specs.Moves.{ShiftMovesBits, ReversalKeepsBits, reversed_points, shifted_points}
use Rattle.fx_raster.specs.declared.rule.Rule.{Rule}
use Rattle.fx_raster.specs.Rules.{ShapeView, framed_by, shape_of}
use Rattle.fx_raster.specs.Laws.{ShiftMovesPicture, ReversalKeepsPicture}

-- a shape has the spans that its outline draws
pub drawn_by : (rule : Rule) (ends : List ℕ) (points : List OutlinePoint) (shape : ShapeView) → shape_of rule ends points ≡ Ok shape
    → drawn_of ends points ≡ Ok shape.spans
unfolding shape_of
drawn_by rule ends points shape h =
    let a = bind_ok (drawn_of ends points) (λ ss. framed_by rule ss >>= λ _. Ok (record { rule = rule; spans = ss })) shape h in
    let b = bind_ok (framed_by rule a.0) (λ _. Ok (record { rule = rule; spans = a.0 })) shape a.2 in
    let same : ◌≡◌ {A = ShapeView} (record { rule = rule; spans = a.0 }) shape = cc (b.2) in
    a.1 ∙ ap (λ (s : ShapeView). Ok s.spans) same

pub shift_moves_picture : ShiftMovesBits → ShiftMovesPicture
shift_moves_picture law k l i j ends points shape moved h g =
    law k l i j ends points shape.spans moved.spans (drawn_by _ ends points shape h)
    (drawn_by _ ends (shifted_points k l points) moved g)

pub reversal_keeps_picture : ReversalKeepsBits → ReversalKeepsPicture
reversal_keeps_picture law i j ends points shape other are h g =
    let r = law ends points shape.spans are (drawn_by _ ends points shape h) in
    let same : r.0 ≡ other.spans =
    same_Ok r.0 other.spans r.1 (drawn_by _ ends (reversed_points ends points) other g) in
    subst (λ (ts : List Span). IsCovered (centre i j) ts ↔ IsCovered (centre i j) shape.spans) same (r.2 i j)

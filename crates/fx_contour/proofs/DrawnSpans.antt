-- An outline within the limits draws the spans of its contours: `drawn_spans`.
-- For the laws of moved and reversed outlines.
use Rattle.std.proofs.Common.{◌≡◌, refl, true, List, Ok, ℕ, arith}
use Rattle.std.specs.List.{list_all}
use Rattle.fx_winding.specs.Winding.{Span}
use Rattle.fx_outline.specs.declared.points.OutlinePoint.{OutlinePoint}
use Rattle.fx_contour.specs.Contours.{is_in_reach, spans_of, drawn_of}

-- it draws the spans of its contours
pub drawn_spans : (ends : List ℕ) (points : List OutlinePoint) (ss : List Span) → drawn_of ends points ≡ Ok ss
    → (list_all is_in_reach points ≡ true) × (spans_of ends points ≡ ss)
unfolding drawn_of
drawn_spans ends points ss h = grind (arith, h)

pub drawn_from : (ends : List ℕ) (points : List OutlinePoint) → list_all is_in_reach points ≡ true
    → drawn_of ends points ≡ Ok (spans_of ends points)
unfolding drawn_of
drawn_from ends points e = rw e refl

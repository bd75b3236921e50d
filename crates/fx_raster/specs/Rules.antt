-- Which pixels an outline sets, by a rule.
use Rattle.std.specs.Prelude.{ℕ, ℤ, List, Result, Ok}
use Rattle.fx_fixed.specs.Chain.{◌>>=◌}
use Rattle.fx_winding.specs.Winding.{Span, IsCovered, centre}
use Rattle.fx_winding.specs.Frames.{IsFrom}
use Rattle.fx_dropout.specs.Dropout.{IsSetIn}
use Rattle.fx_outline.specs.declared.points.OutlinePoint.{OutlinePoint}
use Rattle.fx_contour.specs.declared.fault.ContourFault.{ContourFault}
use Rattle.fx_contour.specs.Contours.{drawn_of}
use Rattle.fx_contour.specs.Frames.{framed_of}
use Rattle.fx_contour.specs.DropoutFrames.{IsInDropoutFrame, dropout_framed_of}
use Rattle.fx_raster.specs.declared.region.Region.{Region}
pub use Rattle.fx_dropout.specs.declared.chooser.Closing.{Closing}
pub use Rattle.fx_dropout.specs.declared.chooser.Closing.TheVariants.{Lower, Nearer}
use Rattle.fx_raster.specs.declared.rule.Rule.{Rule}
use Rattle.fx_raster.specs.declared.rule.Rule.TheVariants.{Centres, Bridged}

-- the pixel in a column and a row is set: its centre is covered; or, with drop-out control, it closes a gap in the frame
abbrev pub IsPixelSet : Rule → List Span → ℤ → ℤ → Type 0
IsPixelSet Centres ss col row = IsCovered (centre col row) ss
IsPixelSet (Bridged closing) ss col row = IsSetIn closing ss (IsInDropoutFrame ss) col row

-- whether the frame of spans keeps its limit, with drop-out control or without
abbrev pub framed_by : Rule → List Span → Result (Unit {0}) ContourFault
framed_by Centres = framed_of
framed_by (Bridged closing) = dropout_framed_of

-- an outline as a rule sees it: the rule, and the outline's spans in 1/128 pixel
pub record ShapeView : Type 0 where
  pub rule : Rule
  pub spans : List Span

-- the shape of an outline with these contour ends and points, or the first fault: a point is too far out, or the frame is too large
unfoldable pub shape_of : Rule → List ℕ → List OutlinePoint → Result ShapeView ContourFault
shape_of rule ends points = do
  spans ← drawn_of ends points
  _ ← framed_by rule spans
  Ok (record { rule = rule; spans = spans })

-- the pixel in a column and a row lies in the region
abbrev pub IsInRegion : Region → ℤ → ℤ → Type 0
IsInRegion region col row = IsFrom region.left region.width col × IsFrom region.bottom region.height row

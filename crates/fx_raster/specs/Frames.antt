-- The frame of an outline: a box of pixels that holds each pixel that can be set.
use Rattle.std.specs.Prelude.{◌≡◌, ℕ, All, List, Option, Ok}
use Rattle.fx_winding.specs.Winding.{Span}
pub use Rattle.fx_winding.specs.declared.frame.Frame.{Frame}
use Rattle.fx_outline.specs.declared.points.OutlinePoint.{OutlinePoint}
use Rattle.fx_contour.specs.Contours.{IsInReach, spans_of}
use Rattle.fx_contour.specs.Frames.{IsFrameFor, NothingOutsideFrame}
use Rattle.fx_contour.specs.DropoutFrames.{HaveMargin, IsDropoutFrameFor}
use Rattle.fx_raster.specs.declared.rule.Rule.{Rule}
use Rattle.fx_raster.specs.declared.rule.Rule.TheVariants.{Centres, Bridged}
use Rattle.fx_raster.specs.Rules.{shape_of}

-- the frame is that of the spans; with drop-out control it is another, and the columns and rows beside it have numbers
abbrev pub IsFramedBy : Rule → Option Frame → List Span → Type 0
IsFramedBy Centres f ss = IsFrameFor f ss
IsFramedBy (Bridged closing) f ss = IsDropoutFrameFor f ss × HaveMargin f

-- an outline with these contour ends and points has a shape by the rule, and this is its frame
pub record HasFrame (rule : Rule) (ends : List ℕ) (points : List OutlinePoint) (frame : Option Frame) : Type 0 where
  pub shape : shape_of rule ends points ≡ Ok (record { rule = rule; spans = spans_of ends points })
  pub reach : All IsInReach points
  pub framed : IsFramedBy rule frame (spans_of ends points)
  pub outside : NothingOutsideFrame frame (spans_of ends points)

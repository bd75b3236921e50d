-- The frame of a shape, and what a scan of it gives.
use Rattle.std.specs.Prelude.{◌≡◌, ◌↔◌, IsTrue, ℕ, ℤ, pos, ◌+ℤ◌, int_le, Bool, true, ◌&&◌, List, Option, Some, None, Result}
use Rattle.fx_fixed.specs.Chain.{◌>>=◌}
use Rattle.fx_winding.specs.Winding.{Span}
use Rattle.fx_winding.specs.Bitmaps.{Bits, bit_of}
use Rattle.fx_dropout.specs.Dropout.{IsSet}
use Rattle.fx_winding.specs.Frames.{IsInFrame}
use Rattle.fx_winding.specs.declared.frame.Frame.{Frame}
use Rattle.fx_outline.specs.declared.points.OutlinePoint.{OutlinePoint}
use Rattle.fx_contour.specs.declared.fault.ContourFault.{ContourFault}
use Rattle.fx_contour.specs.Contours.{drawn_of}
use Rattle.fx_raster.specs.declared.region.Region.{Region}
use Rattle.fx_dropout.specs.declared.chooser.Closing.{Closing}
use Rattle.fx_raster.specs.declared.rule.Rule.{Rule}
use Rattle.fx_raster.specs.Rules.{IsPixelSet, framed_by}

-- whether no point of an outline lies too far out and its frame keeps its limit; the first fault
abbrev pub outline_framed_by : Rule → List ℕ → List OutlinePoint → Result (Unit {0}) ContourFault
outline_framed_by rule ends points = drawn_of ends points >>= framed_by rule

-- the bits are those of the frame, and each is set exactly when drop-out control sets the pixel
pub record IsBridgedScanOf (closing : Closing) (f : Frame) (spans : List Span) (b : Bits) : Type 0 where
  pub same : b.frame ≡ f
  pub bits : (col row : ℤ) → IsInFrame f col row → IsTrue (bit_of b col row) ↔ IsSet closing spans f col row

-- of all pixels of the plane exactly those have a set bit that are set
pub record HasBitsOf (rule : Rule) (spans : List Span) (bits : Bits) : Type 0 where
  pub each : (col row : ℤ) → IsTrue (bit_of bits col row) ↔ IsPixelSet rule spans col row

-- count numbers from first on are all among more numbers from other on
abbrev pub are_among : ℤ → ℕ → ℤ → ℕ → Bool
are_among first count other more = int_le other first && int_le (first +ℤ pos count) (other +ℤ pos more)

-- the columns and rows of the frame are all among those of the region
abbrev pub sides_lie_in : Frame → Region → Bool
sides_lie_in f region = are_among f.left f.width region.left region.width && are_among f.bottom f.height region.bottom region.height

-- no frame lies in every region
abbrev pub lies_in : Option Frame → Region → Bool
lies_in None region = true
lies_in (Some f) region = sides_lie_in f region

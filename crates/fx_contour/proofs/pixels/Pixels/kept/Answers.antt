use Rattle.std.proofs.Common.{◌≡◌, ◌↔◌, subst, sym, ℤ, arith}
use Rattle.fx_fixed.proofs.Linear.{signed_linear}
use Rattle.fx_winding.specs.Frames.{IsFrom}
use Rattle.fx_contour.specs.DropoutFrames.{IsMiddleOf, IsKeptIn}
use Rattle.fx_contour.specs.Frames.{AreNoPixels}
use Rattle.fx_contour.proofs.Framed.{same_pixels}
use Rattle.fx_contour.proofs.Kept.{kept_alone, kept_pixels}
use Rattle.fx_contour.proofs.pixels.Pixels.kept.Goals as goal

-- what is said of copies of the numbers is said of them
alone_at : (low high l h r t : ℤ) → l ≡ low → h ≡ high → t ≡ r → AreNoPixels l h → IsMiddleOf l h r → (n : ℤ)
    → IsFrom t 1 n ↔ IsKeptIn low high n
alone_at low high l h r t e f g none k n =
    subst (λ (z : ℤ × ℤ × ℤ). IsFrom z.2 1 n ↔ IsKeptIn z.0 z.1 n) (λ i. (e i, f i, sym g i)) (kept_alone l h r none k n)

pub returns-in-Some : goal.returns-in-Some
returns-in-Some c = kept_pixels c.in-Some.pixels c.args.low c.args.high
    (same_pixels c.in-Some.pixels _ _ c.args.low c.args.high (omega (arith, signed_linear)) (omega (arith, signed_linear))
    c.in-Some.ensures)

pub returns : goal.returns
returns c = λ n.
    alone_at c.args.low c.args.high _ _ c.middle_pixel.result _ (omega (arith, signed_linear)) (omega (arith, signed_linear))
    (omega (arith, signed_linear)) c.in_default.ensures c.middle_pixel.ensures.middle n

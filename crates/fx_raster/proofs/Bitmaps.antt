-- The bits of a frame are those of all pixels of the plane: `scanned_bits`, with drop-out control `bridged_bits`.
-- Serves `bitmap_of`.
use Rattle.std.proofs.Common.{◌≡◌, refl, sym, ◌∙◌, subst, arith, ℤ, Bool, true, false, true≢false, List, Some, None}
use Rattle.std.proofs.Common.{Result, Ok, Err}
use Rattle.std.specs.Prelude.{◌↔◌, ◌&&◌, IsTrue, IfOk}
use Rattle.std.proofs.lemmas.Bool.{and_parts}
use Rattle.std.proofs.lemmas.Int.{ints}
use Rattle.fx_fixed.proofs.Linear.{signed_linear}
use Rattle.fx_winding.specs.Winding.{Span, IsCovered, centre}
use Rattle.fx_winding.specs.Frames.{IsInFrame, HasMargin, is_from}
use Rattle.fx_winding.specs.declared.frame.Frame.{Frame}
use Rattle.fx_winding.specs.Bitmaps.{Bits, IsScanOf, bit_of}
use Rattle.fx_winding.specs.Outside.{AreOfOutline}
use Rattle.fx_winding.proofs.Grid.{from_true}
use Rattle.fx_contour.specs.Frames.{NothingOutsideFrame}
use Rattle.fx_contour.specs.DropoutFrames.{IsInDropoutFrame}
use Rattle.fx_dropout.specs.declared.chooser.Closing.{Closing}
use Rattle.fx_raster.specs.declared.rule.Rule.{Rule}
use Rattle.fx_raster.specs.declared.rule.Rule.TheVariants.{Centres, Bridged}
use Rattle.fx_dropout.specs.Dropout.{IsSet}
use Rattle.fx_raster.specs.Rules.{IsPixelSet}
use Rattle.fx_raster.specs.Frames.{IsFramedBy}
use Rattle.fx_raster.specs.inner.Framing.{HasBitsOf, IsBridgedScanOf}
use Rattle.fx_raster.proofs.Bridged.{set_along, nothing_set}

-- ---- one pixel

-- two that are both impossible
neither : {A B : Type 0} → (A → ⊥) → (B → ⊥) → A ↔ B
neither f g = (λ a. absurd (f a), λ b. absurd (g b))

unset : (b : Bool) → b ≡ false → IsTrue b → ⊥
unset b h t = true≢false (sym t ∙ h)

-- whether a pixel lies in a frame
abbrev is_in_frame : Frame → ℤ → ℤ → Bool
is_in_frame f col row = is_from f.left f.width col && is_from f.bottom f.height row

in_frame : (f : Frame) (col row : ℤ) → IsInFrame f col row → is_in_frame f col row ≡ true
in_frame f col row i = let c = i.column in let r = i.row in grind (arith, ints)

by_pixel : (S : ℤ → ℤ → Type 0) (b : Bits) (f : Frame) → b.frame ≡ f → (col row : ℤ) (t : Bool)
    → (IsInFrame f col row → IsTrue (bit_of b col row) ↔ S col row) → (¬ (IsInFrame f col row) → ¬ (S col row))
    → is_in_frame f col row ≡ t → IsTrue (bit_of b col row) ↔ S col row
by_pixel S b f h col row t i j k = grind (arith, signed_linear, h, i, j, k, and_parts, from_true, neither, unset, in_frame)

-- ---- all pixels

in_its_frame : (rule : Rule) (f : Frame) (ss : List Span) (b : Bits) → b.frame ≡ f
    → ((col row : ℤ) → IsInFrame f col row → IsTrue (bit_of b col row) ↔ IsPixelSet rule ss col row)
    → IsFramedBy rule (Some f) ss → NothingOutsideFrame (Some f) ss → AreOfOutline ss → HasBitsOf rule ss b
in_its_frame rule f ss b same inside framed outside closed = record {
  each = λ col row. by_pixel (IsPixelSet rule ss) b f same col row _ (inside col row)
      (nothing_set rule (Some f) ss framed outside closed col row) refl;
}

scan_has_bits : (f : Frame) (ss : List Span) (b : Bits) → IsScanOf f ss b → IsFramedBy Centres (Some f) ss
    → NothingOutsideFrame (Some f) ss → AreOfOutline ss → HasBitsOf Centres ss b
scan_has_bits f ss b scan framed outside closed = in_its_frame Centres f ss b scan.same scan.bits framed outside closed

-- the pixels of the frame are those of the frame with drop-out control
bridged_has_bits : (closing : Closing) (f : Frame) (ss : List Span) (b : Bits) → IsBridgedScanOf closing f ss b
    → IsFramedBy (Bridged closing) (Some f) ss → NothingOutsideFrame (Some f) ss → AreOfOutline ss
    → HasBitsOf (Bridged closing) ss b
bridged_has_bits closing f ss b scan framed outside closed =
    in_its_frame (Bridged closing) f ss b scan.same each framed outside closed
  where
    set : (col row : ℤ) → IsSet closing ss f col row ↔ IsPixelSet (Bridged closing) ss col row
    set = set_along closing ss (IsInFrame f) (IsInDropoutFrame ss) framed.0

    each : (col row : ℤ) → IsInFrame f col row → IsTrue (bit_of b col row) ↔ IsPixelSet (Bridged closing) ss col row
    each col row i = (
      λ t. (set col row).0 ((scan.bits col row i).0 t),
      λ s. (scan.bits col row i).1 ((set col row).1 s),
    )

empty_has_bits : (rule : Rule) (ss : List Span) (b : Bits) → b.frame.width ≡ 0 → IsFramedBy rule None ss
    → NothingOutsideFrame None ss → AreOfOutline ss → HasBitsOf rule ss b
empty_has_bits rule ss b narrow framed outside closed =
    grind (arith, signed_linear, narrow, framed, outside, closed, by_pixel, nothing_set)

-- ---- for answers

pub scanned_bits : {E : Type 0} (f : Frame) (ss : List Span) (r : Result Bits E) (rule : Rule) → rule ≡ Centres
    → IfOk r (IsScanOf f ss) → IsFramedBy rule (Some f) ss → NothingOutsideFrame (Some f) ss → AreOfOutline ss
    → IfOk r (HasBitsOf rule ss)
scanned_bits f ss r rule h i j k l = grind (arith, signed_linear, h, i, j, k, l, scan_has_bits)

pub bridged_bits : {E : Type 0} (closing : Closing) (f : Frame) (ss : List Span) (r : Result Bits E) (rule : Rule)
    → rule ≡ Bridged closing → IfOk r (IsBridgedScanOf closing f ss) → IsFramedBy rule (Some f) ss
    → NothingOutsideFrame (Some f) ss → AreOfOutline ss
    → IfOk r (HasBitsOf rule ss)
bridged_bits closing f ss r rule h i j k l = grind (arith, signed_linear, h, i, j, k, l, bridged_has_bits)

-- a scan of the frame whose gaps are closed
pub closed_scan : (closing : Closing) (f : Frame) (ss : List Span) (old new : Bits) → IsScanOf f ss old → new.frame ≡ old.frame
    → (((i j : ℤ) → ¬ (IsInFrame old.frame i j) → ¬ (IsCovered (centre i j) ss)) → (col row : ℤ) → IsInFrame old.frame col row
    → IsTrue (bit_of new col row) ↔ IsSet closing ss old.frame col row)
    → ((i j : ℤ) → ¬ (IsInFrame f i j) → ¬ (IsCovered (centre i j) ss)) → IsBridgedScanOf closing f ss new
closed_scan closing f ss old new scan same bits outside =
    let B : Frame → Type 0 = λ g. ((i j : ℤ) → ¬ (IsInFrame g i j) → ¬ (IsCovered (centre i j) ss)) → (col row : ℤ)
    → IsInFrame g col row → IsTrue (bit_of new col row) ↔ IsSet closing ss g col row in
    record { same = same ∙ scan.same; bits = subst B scan.same bits outside }

-- the frame of drop-out control has a margin
pub framed_margin : (closing : Closing) (f : Frame) (ss : List Span) (rule : Rule) → rule ≡ Bridged closing
    → IsFramedBy rule (Some f) ss → HasMargin f
framed_margin closing f ss rule e framed = let F : Rule → Type 0 = λ r. IsFramedBy r (Some f) ss in (subst F e framed).1

pub empty_bits : {E : Type 0} (ss : List Span) (r : Result Bits E) (rule : Rule) → IfOk r (λ b. b.frame.width ≡ 0)
    → IsFramedBy rule None ss → NothingOutsideFrame None ss → AreOfOutline ss → IfOk r (HasBitsOf rule ss)
empty_bits ss (Ok b) rule narrow framed outside closed = empty_has_bits rule ss b narrow framed outside closed
empty_bits ss (Err e) rule narrow framed outside closed = tt

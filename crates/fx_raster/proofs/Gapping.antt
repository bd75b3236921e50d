-- The frame with drop-out control holds the gaps (`frame_holds`); where there is no frame there is no gap (`unframed_work`).
-- Serves `work`.
use Rattle.std.proofs.Common.{◌≡◌, inl, inr, refl, sym, subst, pos, ◌+ℤ◌, false, true, List, Some, None, arith}
use Rattle.fx_winding.specs.Outside.{AreOfOutline}
use Rattle.fx_winding.specs.Winding.{Span}
use Rattle.fx_winding.specs.declared.frame.Frame.{Frame}
use Rattle.fx_contour.specs.Frames.{NothingOutsideFrame}
use Rattle.fx_contour.proofs.Bridged.{met_rows_are_kept, met_columns_are_kept}
use Rattle.fx_dropout.specs.declared.chooser.Closing.{Closing}
use Rattle.fx_dropout.specs.declared.chooser.Closing.TheVariants.{Lower, Nearer}
use Rattle.fx_dropout.specs.Work.{HoldsGaps}
use Rattle.fx_dropout.proofs.Walked.{nothing_met}
use Rattle.fx_raster.specs.declared.rule.Rule.{Rule}
use Rattle.fx_raster.specs.declared.rule.Rule.TheVariants.{Centres, Bridged}
use Rattle.fx_raster.specs.Frames.{IsFramedBy}
use Rattle.fx_raster.specs.Work.{bridging_work}

pub frame_holds : (closing : Closing) (f : Frame) (ss : List Span) (rule : Rule) → Bridged closing ≡ rule
    → IsFramedBy rule (Some f) ss → NothingOutsideFrame (Some f) ss → AreOfOutline ss → HoldsGaps f ss
frame_holds closing f ss rule e is outside closed =
    let R : Rule → Type 0 = λ r. IsFramedBy r (Some f) ss in
    let framed = (subst R (λ t. sym e t) is).0 in
    record {
      rows = λ i j a. elim (met_rows_are_kept ss i j a) [
        | inl k ↦ inl ((framed i j).1 k)
        | inr k ↦ inr ((framed (i +ℤ pos 1) j).1 k)
      ];
      columns = λ i j a. elim (met_columns_are_kept ss i j a) [
        | inl k ↦ inl ((framed i j).1 k)
        | inr k ↦ inr ((framed i (j +ℤ pos 1)).1 k)
      ];
      outside = outside closed;
    }

pub unframed_work : (rule : Rule) (ss : List Span) → IsFramedBy rule None ss → bridging_work rule ss ≡ 0
unframed_work Centres ss framed = refl
unframed_work (Bridged Lower) ss framed = refl
unframed_work (Bridged Nearer) ss framed =
    let a = nothing_met false ss (λ i j q. elim (met_rows_are_kept ss i j q) [
      | inl k ↦ (framed.0 i j).1 k
      | inr k ↦ (framed.0 (i +ℤ pos 1) j).1 k
    ]) in
    let b = nothing_met true ss (λ i j q. elim (met_columns_are_kept ss j i q) [
      | inl k ↦ (framed.0 j i).1 k
      | inr k ↦ (framed.0 j (i +ℤ pos 1)).1 k
    ]) in
    omega (arith, a, b)

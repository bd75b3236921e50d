use Rattle.std.proofs.Common.{◌∙◌, sym, subst, map}
use Rattle.fx_winding.specs.Bitmaps.{IsScanOf}
use Rattle.fx_winding.specs.Frames.{HasMargin}
use Rattle.fx_winding.specs.Notes.{AreExact}
use Rattle.fx_winding.specs.Winding.{span_of}
use Rattle.fx_winding.specs.declared.frame.Frame.{Frame}
use Rattle.fx_dropout.specs.Work.{HoldsGaps}
use Rattle.fx_raster.proofs.work.gaps_within.Goals as goal

pub closing_work-work-requires-clause-scanned : goal.closing_work-work-requires-clause-scanned
closing_work-work-requires-clause-scanned g c =
    subst (λ (f : Frame). IsScanOf f (map span_of c.args.pieces.now) c.in-Ok.noted.bitmap) (sym c.in-Ok.ensures.bits.same)
    c.in-Ok.ensures.bits

pub closing_work-work-requires-clause-frame : goal.closing_work-work-requires-clause-frame
closing_work-work-requires-clause-frame g c = c.in-Ok.ensures.frame ∙ sym c.in-Ok.ensures.bits.same

pub closing_work-work-requires-clause-noted : goal.closing_work-work-requires-clause-noted
closing_work-work-requires-clause-noted g c =
    let notes = c.in-Ok.noted.notes in
    subst (λ (f : Frame). AreExact f notes.across.items notes.up.items (map span_of c.args.pieces.now))
    (sym c.in-Ok.ensures.bits.same) c.in-Ok.ensures.noted

pub closing_work-work-requires-clause-margin : goal.closing_work-work-requires-clause-margin
closing_work-work-requires-clause-margin g c = subst HasMargin (sym c.in-Ok.ensures.bits.same) c.requires.margin

pub closing_work-work-requires-clause-around : goal.closing_work-work-requires-clause-around
closing_work-work-requires-clause-around g c =
    subst (λ (f : Frame). HoldsGaps f (map span_of c.args.pieces.now)) (sym c.in-Ok.ensures.bits.same) c.requires.around

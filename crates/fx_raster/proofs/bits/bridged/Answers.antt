use Rattle.std.proofs.Common.{◌∙◌, sym, subst, map}
use Rattle.fx_winding.specs.Bitmaps.{IsScanOf}
use Rattle.fx_winding.specs.Notes.{AreExact}
use Rattle.fx_winding.specs.Winding.{span_of}
use Rattle.fx_winding.specs.declared.frame.Frame.{Frame}
use Rattle.fx_raster.proofs.Bitmaps.{closed_scan}
use Rattle.fx_raster.proofs.bits.bridged.Goals as goal

pub close_gaps-bits-requires-clause-scanned : goal.close_gaps-bits-requires-clause-scanned
close_gaps-bits-requires-clause-scanned g c =
    subst (λ (f : Frame). IsScanOf f (map span_of c.args.pieces.now) c.in-Ok.noted.bitmap) (sym c.in-Ok.ensures.bits.same)
    c.in-Ok.ensures.bits

pub close_gaps-bits-requires-clause-frame : goal.close_gaps-bits-requires-clause-frame
close_gaps-bits-requires-clause-frame g c = c.in-Ok.ensures.frame ∙ sym c.in-Ok.ensures.bits.same

pub close_gaps-bits-requires-clause-noted : goal.close_gaps-bits-requires-clause-noted
close_gaps-bits-requires-clause-noted g c =
    let notes = c.in-Ok.noted.notes in
    subst (λ (f : Frame). AreExact f notes.across.items notes.up.items (map span_of c.args.pieces.now))
    (sym c.in-Ok.ensures.bits.same) c.in-Ok.ensures.noted

pub returns-in-Ok : goal.returns-in-Ok
returns-in-Ok g c =
    closed_scan c.args.closing c.args.frame (map span_of c.args.pieces.now) c.in-Ok.noted.bitmap c.close_gaps-bits.result
    c.in-Ok.ensures.bits c.close_gaps-bits.ensures.frame c.close_gaps-bits.ensures.bits c.requires.outside

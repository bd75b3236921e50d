use Rattle.std.proofs.Common.{◌∙◌, refl, sym, subst}
use Rattle.fx_winding.specs.declared.frame.Frame.{Frame}
use Rattle.fx_winding.specs.Frames.{IsInFrame}
use Rattle.raster_tests.proofs.agreement.closes_the_same.Goals as goal

pub close_gaps-closed-requires-clause-scanned : goal.close_gaps-closed-requires-clause-scanned
close_gaps-closed-requires-clause-scanned c =
    let scan = c.in_ok-bitmap.ensures.bits in
    record {
      same = refl;
      bits = λ col row i. scan.bits col row (subst (λ (f : Frame). IsInFrame f col row) scan.same i);
    }

pub close_gaps-closed-requires-clause-frame : goal.close_gaps-closed-requires-clause-frame
close_gaps-closed-requires-clause-frame c = c.in_ok-bitmap.ensures.frame ∙ sym c.in_ok-bitmap.ensures.bits.same

pub close_gaps-closed-requires-clause-noted : goal.close_gaps-closed-requires-clause-noted
close_gaps-closed-requires-clause-noted c = rw c.in_ok-bitmap.ensures.bits.same c.in_ok-bitmap.ensures.noted

use Rattle.std.proofs.Common.{◌∙◌, refl, sym, subst, arith}
use Rattle.fx_fixed.proofs.Linear.{signed_linear}
use Rattle.fx_winding.specs.declared.frame.Frame.{Frame}
use Rattle.fx_winding.specs.Frames.{IsInFrame}
use Rattle.raster_tests.proofs.dropout.closed.Goals as goal

pub scan_noted-requires : goal.scan_noted-requires
scan_noted-requires c = record {
  margin = record {
    left = (omega (arith, signed_linear), omega (arith, signed_linear));
    right = (omega (arith, signed_linear), omega (arith, signed_linear));
    bottom = (omega (arith, signed_linear), omega (arith, signed_linear));
    top = (omega (arith, signed_linear), omega (arith, signed_linear));
  };
}

pub close_gaps-requires-clause-scanned : goal.close_gaps-requires-clause-scanned
close_gaps-requires-clause-scanned c =
    let scan = c.in_ok-bitmap.ensures.bits in
    record {
      same = refl;
      bits = λ col row i. scan.bits col row (subst (λ (f : Frame). IsInFrame f col row) scan.same i);
    }

pub close_gaps-requires-clause-frame : goal.close_gaps-requires-clause-frame
close_gaps-requires-clause-frame c = c.in_ok-bitmap.ensures.frame ∙ sym c.in_ok-bitmap.ensures.bits.same

pub close_gaps-requires-clause-noted : goal.close_gaps-requires-clause-noted
close_gaps-requires-clause-noted c = rw c.in_ok-bitmap.ensures.bits.same c.in_ok-bitmap.ensures.noted

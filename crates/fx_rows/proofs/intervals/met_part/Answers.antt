use Rattle.std.proofs.Common.{◌≡◌, ◌∙◌, subst, ℤ, pos, ◌+ℤ◌, arith, w32, to_z, of_z}
use Rattle.fx_fixed.proofs.Linear.{signed_linear}
use Rattle.fx_winding.specs.Winding.{span_of, region, crossing, centre}
use Rattle.fx_rows.specs.inner.Runs.{AreCells}
use Rattle.fx_rows.proofs.Parts.{on_frame, formed_frame}
use Rattle.fx_rows.proofs.Stepping.{whole}
use Rattle.fx_rows.proofs.intervals.met_part.Goals as goal

pub returns-clause-part : goal.returns-clause-part
returns-clause-part c =
    let s = span_of c.args.bounded.now.piece in
    let t = c.strip_of-strip.result in
    let whole = whole c.args.frame t c.strip_of-strip.ensures.base c.strip_of-strip.ensures.stop in
    let copy : to_z w32 (of_z w32 c.args.row) ≡ c.args.row = omega (arith, signed_linear) in
    let row : t.row ≡ c.args.row = c.strip_of-strip.ensures.row ∙ copy in
    let crosses : ℤ → ℤ → ℤ = λ r col. crossing (centre col r) s in
    let regions : ℤ → ℤ → ℤ = λ r col. region (centre col r) s in
    record {
      crosses = c.run_of.ensures (crosses c.args.row)
          (subst (λ r. AreCells (λ k. crosses r (t.base +ℤ pos k)) t.stop c.part_of-part.result.crossing) row
          c.part_of-part.ensures.share.crosses);
      regions = c.run_of-2.ensures (regions c.args.row)
          (subst (λ r. AreCells (λ k. regions r (t.base +ℤ pos k)) t.stop c.part_of-part.result.region) row
          c.part_of-part.ensures.share.regions);
      on = on_frame s t c.args.frame c.args.row c.part_of-part.result.on row
          whole c.part_of-part.ensures.share.on;
      formed = formed_frame s t c.args.frame c.part_of-part.result.on whole
          c.part_of-part.ensures.share.on;
    }

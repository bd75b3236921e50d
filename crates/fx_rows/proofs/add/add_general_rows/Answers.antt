use Rattle.std.proofs.Common.{◌≡◌, ◌∙◌, sym, ap, ◌+◌, ◌-◌, ◌*◌, ◌≤◌, pos, ◌+ℤ◌, ℕ, subst, arith}
use Rattle.fx_winding.specs.Winding.{span_of}
use Rattle.fx_winding.specs.declared.frame.Frame.{Frame}
use Rattle.fx_rows.specs.Parts.{IsRowPart}
use Rattle.fx_rows.specs.inner.Bands.{bounded_span}
use Rattle.fx_rows.specs.inner.Heights.{height_of}
use Rattle.fx_rows.specs.inner.Points.{IsInner}
use Rattle.fx_rows.specs.inner.Telling.{AreMetAdded}
use Rattle.fx_rows.proofs.Counted.{count_more}
use Rattle.fx_rows.proofs.Stepping.{row_in, band_small}
use Rattle.fx_rows.proofs.Telling.{met_next, band_kept}
use Rattle.fx_rows.proofs.add.add_general_rows.Goals as goal

pub add_met-part-requires-clause-up : goal.add_met-part-requires-clause-up
add_met-part-requires-clause-up g c = row_in c.args.band.now.frame c.rows.band.frame c.rows.up c.args.rows.end
    c.rows.invariant.met.frame c.requires.next.within (omega arith)

pub add_met-part-requires-clause-small : goal.add_met-part-requires-clause-small
add_met-part-requires-clause-small g c =
    let few = c.args.band.now.few in
    let r = c.requires.next.within in
    band_small (bounded_span c.bounds_of-bounded.result) c.args.band.now.frame c.args.rows.first c.rows.up c.args.band.now
    c.rows.band c.rows.invariant.met.added c.requires.next.small (omega (arith, few, r))

pub note_row-requires : goal.note_row-requires
note_row-requires g c =
    let frame = c.add_met-part.ensures.frame in
    record {
      of = band_kept _ _ (bounded_span c.bounds_of-bounded.result) c.args.band.now.frame c.add_met-part.new.band.frame
          (frame ∙ c.rows.invariant.met.frame) c.rows.invariant.met.kept c.requires.next.of;
      up = row_in c.args.band.now.frame c.add_met-part.new.band.frame c.rows.up c.args.rows.end
          (frame ∙ c.rows.invariant.met.frame) c.requires.next.within (omega arith);
      part = subst (λ (f : Frame). IsRowPart (bounded_span c.bounds_of-bounded.result) (f.bottom +ℤ pos c.rows.up) f
          c.add_met-part.result) (sym frame) c.add_met-part.ensures.part;
      outside = subst (λ z. z) (λ i. ¬ (IsInner (sym c.bounds_of-bounded.ensures.piece i).a.y
          (sym c.bounds_of-bounded.ensures.piece i).c.y (height_of (sym (frame ∙ c.rows.invariant.met.frame) i) c.rows.up)))
          (c.requires.outside c.rows.up (omega arith) (omega arith));
    }

pub rows-preserved : goal.rows-preserved
rows-preserved g c =
    let inv = c.rows.invariant in
    let n = c.add_met-part.ensures.count in
    let m = c.note_row.ensures.count in
    let next : c.rows.up + 1 - c.args.rows.first ≡ (c.rows.up - c.args.rows.first) + 1 = omega arith in
    record {
      met = met_next _ _ _ _ _ _ (bounded_span c.bounds_of-bounded.result) c.args.rows.first c.rows.up c.args.band.now c.rows.band
          c.add_met-part.new.band (omega arith) inv.met c.add_met-part.ensures.frame c.add_met-part.ensures.added
          c.note_row.ensures.told c.note_row.ensures.kept c.note_row.ensures.noted;
      count = omega (
        arith,
        count_more c.args.tally.now.count c.rows.tally.count c.note_row.new.tally.count (c.rows.up - c.args.rows.first)
            (10 + g.N.Noting.general) inv.count (omega (arith, n, m)),
        ap (λ (k : ℕ). k * (10 + g.N.Noting.general)) next,
      );
    }

pub returns-clause-met : goal.returns-clause-met
returns-clause-met g c =
    let e : c.rows.up ≡ c.args.rows.end = omega (arith, c.args.rows.order) in
    subst (λ z. z) (λ i. AreMetAdded (g.N.Noting.IsTold c.args.noter.now) (g.N.Noting.IsTold c.rows.noter)
    (g.N.Noting.Says c.args.noter.now) (g.N.Noting.Says c.rows.noter) (span_of (c.bounds_of-bounded.ensures.piece i))
    c.args.rows.first (e i) c.args.band.now c.rows.band) c.rows.invariant.met

pub returns-clause-count : goal.returns-clause-count
returns-clause-count g c =
    let e : c.rows.up ≡ c.args.rows.end = omega (arith, c.args.rows.order) in
    subst (λ (n : ℕ). c.rows.tally.count ≤ c.args.tally.now.count + (n - c.args.rows.first) * (10 + g.N.Noting.general)) e
    c.rows.invariant.count

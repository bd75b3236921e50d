use Rattle.std.proofs.Common.{inl, inr, refl}
use Rattle.fx_rows.specs.inner.Bands.{bounded_span}
use Rattle.fx_rows.specs.inner.Told.{AreKept}
use Rattle.fx_rows.proofs.Bulges.{row_set, set_kept}
use Rattle.fx_rows.proofs.Kept.{gain_both}
use Rattle.fx_rows.proofs.Counted.{part_regions}
use Rattle.fx_rows.proofs.bulge.note_part.Goals as goal

pub note_run-requires-clause-inside : goal.note_run-requires-clause-inside
note_run-requires-clause-inside c = part_regions _ _ _ _ c.requires.part

pub returns-clause-notes : goal.returns-clause-notes
returns-clause-notes c =
    let line = c.args.line.now in
    let f = line.frame in
    let s = bounded_span c.args.bounded.now in
    let run = c.note_run.ensures s c.requires.part c.requires.outside in
    let a = c.note_end.ensures s (inl refl) in
    let z = c.note_end-2.ensures s (inr refl) in
    let tip = c.note_tip.ensures.notes in
    let first = c.note_edge.ensures.notes in
    let end = c.note_edge-2.ensures.notes in
    let last = c.note_edge-2.new.bits in
    let k5 : AreKept c.note_edge.new.bits last = end.gained.kept in
    let k4 : AreKept c.note_tip.new.bits last = λ n h. k5 n (first.gained.kept n h) in
    let k3 : AreKept c.note_end-2.new.bits last = λ n h. k4 n (tip.gained.kept n h) in
    let k2 : AreKept c.note_end.new.bits last = λ n h. k3 n (z.gained.kept n h) in
    let k1 : AreKept c.note_run.new.bits last = λ n h. k2 n (a.gained.kept n h) in
    record {
      noted = λ k l at. row_set s f line.row c.args.part.now line.first line.step last c.requires.part c.requires.outside
          (λ j m o w h. set_kept s f line.row line.first line.step j _ last k1 (run.noted j m (o, w, h)))
          (λ j m h. set_kept s f line.row line.first line.step j _ last k2 (a.noted j m h))
          (λ j m h. set_kept s f line.row line.first line.step j _ last k3 (z.noted j m h))
          (λ j m o w h. set_kept s f line.row line.first line.step j _ last k4 (tip.noted j m (o, w, h)))
          (λ j m e. set_kept s f line.row line.first line.step j _ last k5 (first.noted j m e))
          (λ j m e. end.noted j m e) k l;
      gained = gain_both _ _ _ _ run.gained (gain_both _ _ _ _ a.gained (gain_both _ _ _ _ z.gained (gain_both _ _ _ _ tip.gained
          (gain_both _ _ _ _ first.gained end.gained))));
    }

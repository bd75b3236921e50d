use Rattle.std.proofs.Common.{arith}
use Rattle.fx_winding.specs.Winding.{span_of}
use Rattle.fx_rows.specs.inner.Bulging.{IsPlain}
use Rattle.fx_rows.specs.inner.Lines.{IsUpBit}
use Rattle.fx_rows.specs.inner.Upward.{height_below, IsLevel}
use Rattle.fx_rows.proofs.Kept.{gain_none, gain_both}
use Rattle.fx_rows.proofs.NotedSegments.{up_kept}
use Rattle.fx_rows.proofs.Upward.{on_line_unmet, set_over, set_under, at_least_more, over_lowest, all_levels}
use Rattle.fx_rows.proofs.note_up.note_up.Goals as goal

pub returns-then-is_on_line-clause-notes : goal.returns-then-is_on_line-clause-notes
returns-then-is_on_line-clause-notes c = record {
  noted = λ r h l k w m. absurd (on_line_unmet (span_of c.args.piece.now) c.args.placed.frame r k c.requires.plain
      (c.is_on_line.ensures.on c.if-is_on_line.true) w m);
  gained = gain_none _ _;
}

pub returns-then-lies_under-clause-notes : goal.returns-then-lies_under-clause-notes
returns-then-lies_under-clause-notes c =
    let s = span_of c.args.piece.now in
    let p = c.args.placed in
    let plain : IsPlain s = record { flat = c.requires.plain; off = c.is_on_line.ensures.off c.if-is_on_line.false } in
    record {
      noted = λ r h l. set_over s p.frame r c.args.up.now plain
          (at_least_more s (height_below p.frame p.rows.first) (height_below p.frame r) (over_lowest p.frame p.rows.first r h)
          (c.lies_under.ensures.under c.if-lies_under.true));
      gained = gain_none _ _;
    }

pub columns_below-low-requires-clause-over : goal.columns_below-low-requires-clause-over
columns_below-low-requires-clause-over c = c.lies_under.ensures.above c.if-lies_under.false

pub returns-then-lies_over-clause-notes : goal.returns-then-lies_over-clause-notes
returns-then-lies_over-clause-notes c =
    let s = span_of c.args.piece.now in
    let p = c.args.placed in
    let up = c.note_passage-low.new.up in
    let plain : IsPlain s = record { flat = c.requires.plain; off = c.is_on_line.ensures.off c.if-is_on_line.false } in
    record {
      noted = λ r h l. all_levels s p.frame p.rows.first p.rows.end p.inner up plain c.requires.placed.between
          c.note_passage-low.ensures.notes.noted
          (set_under s p.frame p.inner.end up plain (c.lies_over.ensures.over c.if-lies_over.true)) r h (omega (arith, l));
      gained = c.note_passage-low.ensures.notes.gained;
    }

pub columns_above-high-requires-clause-under : goal.columns_above-high-requires-clause-under
columns_above-high-requires-clause-under c = c.lies_over.ensures.below c.if-lies_over.false

pub returns-clause-notes : goal.returns-clause-notes
returns-clause-notes c =
    let s = span_of c.args.piece.now in
    let p = c.args.placed in
    let plain : IsPlain s = record { flat = c.requires.plain; off = c.is_on_line.ensures.off c.if-is_on_line.false } in
    let passage = c.note_passage-low.ensures in
    let columns = c.note_columns.ensures in
    let level : IsLevel s p.frame p.inner.end c.joined.result.first c.joined.result.end =
    rw (c.joined.ensures.first, c.joined.ensures.end)
    (c.columns_above-high.ensures.to.level c.note_passage-low.result passage.from) in
    record {
      noted = λ r h l. all_levels s p.frame p.rows.first p.rows.end p.inner c.note_columns.new.up plain c.requires.placed.between
          (λ q m o. up_kept s p.frame q c.note_passage-low.new.up c.note_columns.new.up columns.kept (passage.notes.noted q m o))
          (columns.noted s level.within) r h (omega (arith, l));
      gained = gain_both (IsUpBit s p.frame) _ _ _ passage.notes.gained
          (record { kept = columns.kept; only = columns.only s level.all });
    }

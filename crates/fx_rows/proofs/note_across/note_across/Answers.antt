use Rattle.std.proofs.Common.{◌≡◌, ◌+◌, ◌-◌, ℕ, sym, subst, get_or, arith}
use Rattle.fx_winding.specs.Bitmaps.{word_bit}
use Rattle.fx_winding.specs.Notes.{pixel_number, IsNotedAcross}
use Rattle.fx_winding.specs.Winding.{span_of}
use Rattle.fx_rows.specs.inner.Lines.{IsAcrossBit}
use Rattle.fx_rows.proofs.Bulges.{others_across}
use Rattle.fx_rows.proofs.Kept.{rows_more, only_one, kept_one, gain_both}
use Rattle.fx_rows.proofs.RowMeets.{end_told, met_end, end_met_too}
use Rattle.fx_rows.proofs.NotedSegments.{across_kept, row_room}
use Rattle.fx_rows.proofs.note_across.note_across.Goals as goal

pub bounds-ends-at : goal.bounds-ends-at
bounds-ends-at c = (end_told c.args.ends.now (span_of c.args.piece.now) c.args.placed c.requires.placed c.requires.told c.rows.row
    (omega arith) (omega arith)).0

pub set_bit-requires : goal.set_bit-requires
set_bit-requires c =
    grind (arith, c.requires.placed, c.requires.told, c.requires.room, c.first_of.ensures.value, end_told, row_room)

pub rows-preserved : goal.rows-preserved
rows-preserved c =
    let s = span_of c.args.piece.now in
    let p = c.args.placed in
    let f = p.frame in
    let row = c.rows.row in
    let old = c.rows.across in
    let now = c.set_bit.new.words in
    let of = c.requires.placed.columns in
    let inner = c.requires.placed.between.inner row (omega arith) (omega arith) in
    let end = get_or c.args.ends.now (row - p.rows.first) 0 in
    let told = (end_told c.args.ends.now s p c.requires.placed c.requires.told row (omega arith) (omega arith)).1 in
    let at : c.first_of.result + end ≡ pixel_number f row end = omega (arith, c.first_of.ensures.value) in
    let kept = kept_one old now _ c.set_bit.ensures.here c.set_bit.ensures.others in
    let here : IsNotedAcross s f now row = λ k w m.
    let e = met_end s f p.across.first p.across.end row end k of.across of.low of.high inner told w m in
    subst (λ (j : ℕ). word_bit now (pixel_number f row j) ≡ 1) (sym e)
    (subst (λ (n : ℕ). word_bit now n ≡ 1) at c.set_bit.ensures.here) in
    let new : IsAcrossBit s f (c.first_of.result + end) = record {
      r = row;
      row = omega (arith, p.end, p.within);
      line = record {
        k = end;
        within = told.within;
        at = omega (arith, c.first_of.ensures.value);
        met = λ off off'. (end_met_too s f p.across.first p.across.end row end of.across of.low of.high inner told off off').met;
      };
    } in
    record {
      notes = record {
        noted = rows_more (IsNotedAcross s f now) p.inner.first row
            (λ r l m. across_kept s f r old now kept (c.rows.invariant.notes.noted r l m)) here;
        gained = gain_both (IsAcrossBit s f) _ _ _ c.rows.invariant.notes.gained
            (record { kept = kept; only = only_one (IsAcrossBit s f) old now _ new c.set_bit.ensures.others });
      };
    }

pub returns : goal.returns
returns c =
    let s = span_of c.args.piece.now in
    let p = c.args.placed in
    let notes = c.rows.invariant.notes in
    record {
      noted = others_across s p.frame p.rows.first p.rows.end p.inner c.rows.across c.requires.placed.between
          (λ r l m n o. across_kept s p.frame r _ c.rows.across notes.gained.kept (c.requires.others r l m n o))
          (λ r l m. notes.noted r l (omega (arith, m)));
      gained = notes.gained;
    }

use Rattle.std.proofs.Common.{◌≡◌, ℕ, ℤ, inl, refl, subst, get_or, ◌+◌, ◌-◌, pos, ◌+ℤ◌, arith}
use Rattle.fx_winding.specs.Notes.{IsNotedUp}
use Rattle.fx_winding.specs.Winding.{span_of}
use Rattle.fx_rows.specs.declared.reach.Reach.{Reach}
use Rattle.fx_rows.specs.inner.Lines.{IsUpBit}
use Rattle.fx_rows.specs.inner.Upward.{ComesFrom, IsPassing, IsLevel}
use Rattle.fx_rows.proofs.Kept.{rows_more, gain_both}
use Rattle.fx_rows.proofs.RowMeets.{end_told}
use Rattle.fx_rows.proofs.NotedSegments.{up_kept}
use Rattle.fx_rows.proofs.Upward.{comes_from, row_next}
use Rattle.fx_rows.proofs.note_up.note_passage.Goals as goal

pub rows-init : goal.rows-init
rows-init c = grind (arith, c.requires.from)

pub bounds-ends-at : goal.bounds-ends-at
bounds-ends-at c = (end_told c.args.ends.now (span_of c.args.piece.now) c.args.placed c.requires.placed c.requires.told c.rows.row
    (omega arith) (omega arith)).0

pub note_columns-requires-clause-columns : goal.note_columns-requires-clause-columns
note_columns-requires-clause-columns c =
    grind (arith, c.requires.placed, c.requires.told, c.rows.invariant.from.within, c.joined.ensures.end, end_told)

pub rows-preserved : goal.rows-preserved
rows-preserved c =
    let s = span_of c.args.piece.now in
    let p = c.args.placed in
    let f = p.frame in
    let row = c.rows.row in
    let inner = c.requires.placed.between.inner row (omega arith) (omega arith) in
    let end = get_or c.args.ends.now (row - p.rows.first) 0 in
    let is = (end_told c.args.ends.now s p c.requires.placed c.requires.told row (omega arith) (omega arith)).1 in
    let high : Reach = record { first = end; end = end } in
    let passing : IsPassing s f (f.bottom +ℤ pos row) high = record { inner = inner; same = refl; is = is } in
    let level : IsLevel s f row c.joined.result.first c.joined.result.end =
    rw (c.joined.ensures.first, c.joined.ensures.end) (c.rows.invariant.from.level high (inl passing)) in
    let now = c.note_columns.new.up in
    record {
      from = comes_from s f (row + 1) high c.requires.plain
          (inl (subst (λ (y : ℤ). IsPassing s f y high) (row_next f row) passing));
      notes = record {
        noted = rows_more (IsNotedUp s f now) p.inner.first row
            (λ r l m. up_kept s f r c.rows.up now c.note_columns.ensures.kept (c.rows.invariant.notes.noted r l m))
            (c.note_columns.ensures.noted s level.within);
        gained = gain_both (IsUpBit s f) _ _ _ c.rows.invariant.notes.gained
            (record { kept = c.note_columns.ensures.kept; only = c.note_columns.ensures.only s level.all });
      };
    }

pub returns-clause-from : goal.returns-clause-from
returns-clause-from c =
    let done : c.rows.row ≡ c.args.placed.inner.end = omega (arith, c.args.placed.inner.order) in
    subst (λ (r : ℕ). ComesFrom (span_of c.args.piece.now) c.args.placed.frame r c.rows.low) done c.rows.invariant.from

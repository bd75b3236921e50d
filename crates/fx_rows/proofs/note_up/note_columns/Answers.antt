use Rattle.std.proofs.Common.{◌≡◌, ◌⊎◌, inl, inr, sym, ◌∙◌, ◌+◌, ◌-◌, ◌<◌, ◌≤◌, ℕ, arith}
use Rattle.fx_fixed.proofs.Order.{below_or_not}
use Rattle.fx_winding.specs.Bitmaps.{word_bit}
use Rattle.fx_winding.specs.Winding.{Span}
use Rattle.fx_rows.specs.inner.Lines.{IsUpBit}
use Rattle.fx_rows.specs.inner.Upward.{AreAllMet}
use Rattle.fx_rows.proofs.NotedSegments.{row_room}
use Rattle.fx_rows.proofs.note_up.note_columns.Goals as goal

pub set_bits-requires-clause-last : goal.set_bits-requires-clause-last
set_bits-requires-clause-last c =
    grind (arith, c.requires.row, c.requires.room, c.first_of-first.ensures.value, c.requires.columns, row_room)

pub returns-clause-noted : goal.returns-clause-noted
returns-clause-noted c = grind (arith, c.first_of-first.ensures.value, c.set_bits.ensures.inside)

pub returns-clause-only : goal.returns-clause-only
returns-clause-only c = λ s all n set.
    by s all n set (below_or_not n (c.first_of-first.result + c.args.columns.first))
    (below_or_not (c.first_of-first.result + c.args.columns.end - 1) n)
  where
    by : (s : Span)
        → AreAllMet s c.args.frame c.args.row c.args.columns.first c.args.columns.end
        → (n : ℕ) → word_bit c.set_bits.new.line n ≡ 1
        → (n < c.first_of-first.result + c.args.columns.first) ⊎ (c.first_of-first.result + c.args.columns.first ≤ n)
        → (c.first_of-first.result + c.args.columns.end - 1 < n) ⊎ (n ≤ c.first_of-first.result + c.args.columns.end - 1)
        → (word_bit c.args.up.now n ≡ 1) ⊎ IsUpBit s c.args.frame n
    by s all n set (inl l) h = inl (sym (c.set_bits.ensures.outside n (inl (omega (arith, l)))) ∙ set)
    by s all n set (inr l) (inl h) = inl (sym (c.set_bits.ensures.outside n (inr (omega (arith, h)))) ∙ set)
    by s all n set (inr l) (inr h) =
        let first = c.first_of-first.ensures.value in
        let wide = c.requires.columns in
        inr (record {
          r = c.args.row;
          k = n - c.first_of-first.result;
          column = omega (arith, l, h, wide);
          at = omega (arith, first, l);
          met = all (n - c.first_of-first.result) (omega (arith, l)) (omega (arith, l, h)) (omega (arith, l, h, wide));
        })

use Rattle.std.proofs.Common.{◌≡◌, ◌∙◌, ap, sym, subst, ℕ, ◌+◌, ◌-◌, ◌*◌, ◌^◌, ◌<◌, ◌≤◌, pos, ◌+ℤ◌, arith}
use Rattle.fx_winding.specs.Winding.{span_of}
use Rattle.fx_winding.specs.declared.point.Piece.{Piece}
use Rattle.fx_winding.specs.declared.frame.Frame.{Frame}
use Rattle.fx_rows.specs.inner.Points.{IsInner}
use Rattle.fx_rows.specs.inner.Heights.{height_of, AreOutside}
use Rattle.fx_rows.specs.inner.Telling.{AreRowsAdded, met_in}
use Rattle.fx_rows.proofs.Telling.{added_beside, added_outside, band_kept, between_of, others_beside, outside_above, outside_all, outside_below}
use Rattle.fx_rows.proofs.add.add_met_piece.Goals as goal

-- the tests of a rows, of b between the ends, and of c
rows_count : (n g a b c t u v w : ℕ) → a + b + c ≡ n → u ≤ t + a * (10 + g) → v ≤ u + 12 * b → w ≤ v + c * (10 + g)
    → w ≤ t + n * (12 + g)
rows_count n g a b c t u v w e h k l =
    let all : (a + b + c) * (12 + g) ≡ n * (12 + g) = ap (λ (m : ℕ). m * (12 + g)) e in omega (arith, all, h, k, l)

-- no row is between the ends
pub add_met_rows-requires-clause-outside : goal.add_met_rows-requires-clause-outside
add_met_rows-requires-clause-outside g c =
    outside_all (span_of c.args.piece.now) _ _ _ c.rows_between-inner.result (omega arith)
    (between_of (span_of c.args.piece.now) _ _ _ _ c.args.rows c.rows_between-inner.result c.rise_of-rise.ensures
    c.rows_between-inner.ensures)

-- some are
pub add_met_rows-requires-2-clause-next : goal.add_met_rows-requires-2-clause-next
add_met_rows-requires-2-clause-next g c =
    grind (arith, c.requires.rows, c.rows_between-inner.ensures)

pub add_met_rows-requires-2-clause-outside : goal.add_met_rows-requires-2-clause-outside
add_met_rows-requires-2-clause-outside g c =
    outside_below (span_of c.args.piece.now) _ _ _ c.rows_between-inner.result
    (between_of (span_of c.args.piece.now) _ _ _ _ c.args.rows c.rows_between-inner.result c.rise_of-rise.ensures
    c.rows_between-inner.ensures)

pub add_inner_rows-requires-clause-inner : goal.add_inner_rows-requires-clause-inner
add_inner_rows-requires-clause-inner g c =
    let s = span_of c.args.piece.now in
    let below = c.add_met_rows-2.ensures.met in
    let is = between_of s _ _ _ _ c.args.rows c.rows_between-inner.result c.rise_of-rise.ensures c.rows_between-inner.ensures in
    record {
      inner = record {
        within = subst (λ (x : Frame). c.rows_between-inner.result.end ≤ x.height) (sym below.frame)
            (omega (arith, is.high, c.requires.rows.within));
        inner = λ r h l. subst (λ (p : Piece). IsInner p.a.y p.c.y (height_of c.add_met_rows-2.new.band.frame r))
            (sym c.bounds_of.ensures.piece) (subst (λ (x : Frame). IsInner s.a.y s.c.y (height_of x r)) (sym below.frame)
            (is.inner r h l));
      };
      small = below.added.grown (2 ^ 25) c.requires.rows.small;
    }

pub add_met_rows-requires-3-clause-outside : goal.add_met_rows-requires-3-clause-outside
add_met_rows-requires-3-clause-outside g c =
    let s = span_of c.args.piece.now in
    let r = c.rows_between-inner.result in
    subst (λ (x : Frame). AreOutside s x r.end c.args.rows.end)
    (sym (c.add_inner_rows.ensures.added.frame ∙ c.add_met_rows-2.ensures.met.frame))
    (outside_above s _ _ _ r (between_of s _ _ _ _ c.args.rows r c.rise_of-rise.ensures c.rows_between-inner.ensures))

pub add_met_rows-requires-3-clause-next : goal.add_met_rows-requires-3-clause-next
add_met_rows-requires-3-clause-next g c =
    let rows = c.requires.rows in
    let below = c.add_met_rows-2.ensures.met in
    let inner = c.add_inner_rows.ensures in
    let frame = inner.added.frame ∙ below.frame in
    record {
      within = subst (λ (x : Frame). c.args.rows.end ≤ x.height) (sym frame) rows.within;
      small = inner.added.added.grown (2 ^ 25) (below.added.grown (2 ^ 25) rows.small);
      of = band_kept _ _ (span_of c.args.piece.now) c.args.band.now.frame _ frame (λ x l h. inner.kept x (below.kept x l h))
          rows.of;
    }

pub returns-clause-added : goal.returns-clause-added
returns-clause-added g c =
    let s = span_of c.args.piece.now in
    let e = c.rise_of-rise.result in
    let r = c.rows_between-inner.result in
    let is = between_of s e.foot e.head e.value _ c.args.rows c.rows_between-inner.result c.rise_of-rise.ensures
    c.rows_between-inner.ensures in
    let T = g.N.Noting.IsTold c.add_inner_rows.new.noter in
    let below = c.add_met_rows-2.ensures.met in
    let inner = c.add_inner_rows.ensures in
    let above = c.add_met_rows-3.ensures.met in
    record {
      rows = added_beside T _ s c.args.rows.first r.first r.end c.args.rows.end c.args.band.now c.add_met_rows-2.new.band
          c.add_inner_rows.new.band c.add_met_rows-3.new.band is.low r.order is.high below.frame above.frame below.added
          (subst (λ (p : Piece). AreRowsAdded T (span_of p) r.first r.end c.add_met_rows-2.new.band c.add_inner_rows.new.band)
          c.bounds_of.ensures.piece inner.added) above.added above.told is.under is.over;
      kept = λ x l h. above.kept x l (inner.kept x (below.kept x l h));
      between = is;
      others = others_beside (g.N.Noting.Says c.add_met_rows-3.new.noter) s c.args.band.now.frame c.args.rows.first
          c.args.rows.end r is
          (λ q l m. above.kept (met_in s _) tt (inner.kept _ (below.met q l m)))
          (subst (λ (f : Frame). (q : ℕ) → r.end ≤ q → q < c.args.rows.end
          → g.N.Noting.Says c.add_met_rows-3.new.noter (met_in s (f.bottom +ℤ pos q)))
          (inner.added.frame ∙ below.frame) above.met);
    }

pub returns-clause-count : goal.returns-clause-count
returns-clause-count g c =
    let r = c.rows_between-inner.result in
    let is = c.rows_between-inner.ensures in
    rows_count (c.args.rows.end - c.args.rows.first) g.N.Noting.general (r.first - c.args.rows.first) (r.end - r.first)
    (c.args.rows.end - r.end) c.args.tally.now.count c.add_met_rows-2.new.tally.count c.add_inner_rows.new.tally.count
    c.add_met_rows-3.new.tally.count (omega (arith, is, r.order)) c.add_met_rows-2.ensures.count c.add_inner_rows.ensures.count
    c.add_met_rows-3.ensures.count

pub returns-then-inner-clause-added : goal.returns-then-inner-clause-added
returns-then-inner-clause-added g c =
    let s = span_of c.args.piece.now in
    let e = c.rise_of-rise.result in
    let all = c.add_met_rows.ensures.met in
    let is = between_of s e.foot e.head e.value _ c.args.rows c.rows_between-inner.result c.rise_of-rise.ensures
    c.rows_between-inner.ensures in
    record {
      rows = added_outside (g.N.Noting.IsTold c.add_met_rows.new.noter) s c.args.rows.first _ _ c.args.rows.end c.args.band.now
          c.add_met_rows.new.band (omega arith) all.frame all.added is.under is.over;
      kept = all.kept;
      between = is;
      others = λ r l m n o. all.met r l m;
    }

use Rattle.std.proofs.Common.{◌≡◌, subst, ℕ, pos, ◌+ℤ◌, arith}
use Rattle.fx_rows.specs.inner.Bands.{bounded_span}
use Rattle.fx_rows.specs.inner.Telling.{AreRowsAdded}
use Rattle.fx_rows.proofs.Stepping.{strip_row, row_in, inner_row, band_small, at_base, at_base_above, whole}
use Rattle.fx_rows.proofs.Telling.{cut_end, added_start, added_next}
use Rattle.fx_rows.proofs.add.add_cuts.Goals as goal

pub rows-init : goal.rows-init
rows-init g c = grind (arith, c.requires.at, added_start)

pub row_of-requires : goal.row_of-requires
row_of-requires g c = grind (arith, c.rows.invariant.added.frame, c.requires.inner.inner.within, row_in)

pub cut-cut-requires-clause-inner : goal.cut-cut-requires-clause-inner
cut-cut-requires-clause-inner g c =
    grind (arith, c.row_of.ensures, c.strip_of-strip.ensures, c.rows.invariant, c.requires.inner.inner, strip_row, inner_row)

pub cut-cut-requires-clause-at : goal.cut-cut-requires-clause-at
cut-cut-requires-clause-at g c =
    grind (arith, c.row_of.ensures, c.strip_of-strip.ensures, c.rows.invariant, strip_row, at_base)

pub add_cut-requires-clause-up : goal.add_cut-requires-clause-up
add_cut-requires-clause-up g c = grind (arith, c.rows.invariant.added.frame, c.requires.inner.inner.within, row_in)

pub add_cut-requires-clause-small : goal.add_cut-requires-clause-small
add_cut-requires-clause-small g c =
    let few = c.args.band.now.few in
    let r = c.requires.inner.inner.within in
    band_small (bounded_span c.args.bounded.now) c.args.band.now.frame c.args.rows.first c.rows.up c.args.band.now c.rows.band
    c.rows.invariant.added.added c.requires.inner.small (omega (arith, few, r))

pub rows-preserved : goal.rows-preserved
rows-preserved g c =
    let s = bounded_span c.args.bounded.now in
    let now = c.rows.band.frame in
    let inv = c.rows.invariant in
    let strip = c.strip_of-strip.result in
    let row = now.bottom +ℤ pos c.rows.up in
    let at = strip_row strip c.row_of.result row c.row_of.ensures.near c.strip_of-strip.ensures.row c.row_of.ensures.value in
    let is_whole = whole now strip c.strip_of-strip.ensures.base c.strip_of-strip.ensures.stop in
    let is = cut_end s now strip c.cut-cut.result.end row at is_whole c.cut-cut.ensures.cut.end in
    let n = c.cut-cut.ensures.count in
    let m = inv.count in
    record {
      added = added_next (g.N.Noting.IsTold c.rows.noter) (g.N.Noting.IsTold c.tell.new.self) s strip.row c.args.rows.first
          c.rows.up c.cut-cut.result.end c.args.band.now c.rows.band c.add_cut.new.band (omega arith) at inv.added
          c.add_cut.ensures.frame c.add_cut.ensures.added c.tell.ensures.others c.tell.ensures.told is;
      kept = λ x h. c.tell.ensures.kept x (inv.kept x h);
      at = λ h.
          at_base_above (g.C.Cuts.AreAt c.move_up.new.self c.args.bounded.now) c.args.band.now.frame now strip c.rows.up
          inv.added.frame at is_whole c.move_up.ensures;
      count = omega (arith, n, m);
    }

pub returns-clause-added : goal.returns-clause-added
returns-clause-added g c =
    let e : c.rows.up ≡ c.args.rows.end = omega (arith, c.args.rows.order) in
    subst (λ (n : ℕ). AreRowsAdded (g.N.Noting.IsTold c.rows.noter) (bounded_span c.args.bounded.now) c.args.rows.first n
    c.args.band.now c.rows.band) e c.rows.invariant.added

pub returns-clause-count : goal.returns-clause-count
returns-clause-count g c =
    let e : c.rows.up ≡ c.args.rows.end = omega (arith, c.args.rows.order) in let m = c.rows.invariant.count in omega (arith, e, m)

use Rattle.std.proofs.Common.{◌<◌, length, arith, pos}
use Rattle.std.proofs.lemmas.List.{get_or_default}
use Rattle.fx_trace.specs.Changes.{cell_change}
use Rattle.fx_trace.proofs.Pairs.{pairs_none, pairs_more, pairs_all}
use Rattle.fx_trace.proofs.changes.add_cells.Goals as goal

pub cells-init : goal.cells-init
cells-init g c = pairs_none (cell_change c.args.name.now) c.args.was.now c.args.now.now

pub cells-preserved : goal.cells-preserved
cells-preserved g c =
    let below : c.cells.i < length c.args.was.now = omega (arith, c.cells-test.true, c.min-i-end.ensures) in
    let within : c.cells.i < length c.args.now.now = omega (arith, c.cells-test.true, c.min-i-end.ensures) in
    pairs_more (cell_change c.args.name.now) _ _ c.cells.invariant
    (get_or_default c.args.was.now c.cells.i (pos 0) _ below) (get_or_default c.args.now.now c.cells.i (pos 0) _ within)
    below within c.add_cell.ensures

pub returns : goal.returns
returns g c =
    pairs_all (cell_change c.args.name.now) c.cells.invariant
    (omega (arith, c.cells-test.false, c.cells.auto.i-end, c.min-i-end.ensures))

use Rattle.std.proofs.Common.{arith}
use Rattle.std.proofs.lemmas.Int.{to_z-of_z}
use Rattle.fx_winding.specs.Winding.{span_of}
use Rattle.fx_rows.proofs.Cutting.{slanted}
use Rattle.fx_rows.proofs.Straight.{straight_met}
use Rattle.fx_rows.proofs.Counting.{line_end}
use Rattle.fx_rows.proofs.cut.line_cut.Goals as goal

pub edge_from-edge-requires-clause-slanted : goal.edge_from-edge-requires-clause-slanted
edge_from-edge-requires-clause-slanted c = slanted _ _ _ c.requires.inner

pub edge_from-edge-requires-clause-start : goal.edge_from-edge-requires-clause-start
edge_from-edge-requires-clause-start c = grind (arith, to_z-of_z, c.requires.start)

pub returns : goal.returns
returns c =
    let s = span_of c.args.bounded.now.piece in
    let edge = c.edge_from-edge.ensures in
    record {
      end = line_end s c.args.strip _ c.requires.straight c.requires.inner edge.edge;
      on = c.met_column.ensures s (straight_met s c.args.strip c.edge_from-edge.result.at c.edge_from-edge.result.met
          c.requires.straight c.requires.inner edge.edge edge.met);
    }

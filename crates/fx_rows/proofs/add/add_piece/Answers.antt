use Rattle.std.proofs.Common.{arith}
use Rattle.fx_rows.proofs.Telling.{piece_all, piece_none}
use Rattle.fx_rows.proofs.add.add_piece.Goals as goal

pub returns-clause-added : goal.returns-clause-added
returns-clause-added g c =
    let m = c.rows_met-touched.ensures in
    piece_all _ _ _ _ c.rows_met-touched.result _ c.args.band.now _ m.within m.below m.above c.add_met_piece.ensures.added

pub returns-then-touched-clause-added : goal.returns-then-touched-clause-added
returns-then-touched-clause-added g c =
    let m = c.rows_met-touched.ensures in
    piece_all _ _ _ _ c.rows_met-touched.result _ c.args.band.now _ m.within m.below m.above
    (piece_none (g.N.Noting.IsTold c.args.noter.now) (g.N.Noting.Says c.args.noter.now) _ _ c.args.band.now (omega arith))

use Rattle.std.proofs.Common.{◌≡◌, ◌∙◌, ap, ◌+◌, map, arith}
use Rattle.std.specs.List.{sum_by}
use Rattle.fx_winding.specs.Winding.{span_of}
use Rattle.fx_dropout.proofs.Priced.{some_within}
use Rattle.fx_raster.specs.Work.{frame_work, piece_work, within}
use Rattle.fx_raster.proofs.work.shape_within.Goals as goal

pub returns : goal.returns
returns c =
    let ss = map span_of c.args.pieces.now in
    let counted = (some_within c.args.most _ c.in_ok-work.work c.in_ok-work.ensures).0 in
    let framed = c.frame_work.ensures c.args.rule ss c.requires.framed in
    let e : c.in_ok-work.work ≡ frame_work c.args.rule ss = omega (arith, counted, framed) in
    c.pieces_within.ensures ∙ ap (λ n. within c.args.most (n + sum_by (piece_work c.args.rule) ss)) e

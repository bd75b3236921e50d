use Rattle.std.proofs.Common.{◌≡◌, sym, ℕ, ◌+◌, map, arith}
use Rattle.fx_winding.specs.Winding.{span_of}
use Rattle.fx_dropout.proofs.Priced.{all_within}
use Rattle.fx_raster.proofs.Gapping.{frame_holds, unframed_work}
use Rattle.fx_raster.proofs.work.bridging_within.Goals as goal

same_work : (work more : ℕ) → more ≡ 0 → work ≡ work + more
same_work work more e = omega (arith, e)

pub returns-in_default : goal.returns-in_default
returns-in_default g c =
    all_within c.args.most c.args.work _ (same_work c.args.work _
    (unframed_work c.args.rule (map span_of c.args.pieces.now) (rw c.in_default.is at c.requires.framed))) c.requires.few

pub closing_within-requires-clause-around : goal.closing_within-requires-clause-around
closing_within-requires-clause-around g c =
    frame_holds c.in-Bridged.closing c.in-Some.frame (map span_of c.args.pieces.now) c.args.rule (sym c.in-Bridged.is)
    (rw c.in-Some.is at c.requires.framed) (rw c.in-Some.is at c.requires.outside) c.requires.closed

use Rattle.std.proofs.Common.{◌≡◌, subst, ℕ, ◌+◌, map, arith}
use Rattle.std.specs.Prelude.{IfOk}
use Rattle.fx_winding.specs.Winding.{span_of}
use Rattle.fx_dropout.proofs.Priced.{past_within, some_within}
use Rattle.fx_raster.specs.Work.{bridging_work, drawing_work, within}
use Rattle.fx_raster.proofs.work.work_within.Goals as goal

pub returns-in-Some : goal.returns-in-Some
unfolding drawing_work
returns-in-Some g c =
    subst (λ (n : ℕ). IfOk c.bridging_within.result
    (λ w. w ≡ within c.args.most (n + bridging_work c.args.rule (map span_of c.args.pieces.now))))
    (some_within c.args.most _ c.in-Some.work c.in-Some.ensures).0 c.bridging_within.ensures

pub returns-in-None : goal.returns-in-None
unfolding drawing_work
returns-in-None g c = past_within c.args.most _ _ c.in-None.ensures (omega arith)

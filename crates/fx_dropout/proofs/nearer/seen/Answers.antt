use Rattle.std.proofs.Common.{sym, subst}
use Rattle.fx_winding.specs.Near.{IsNearPlace}
use Rattle.fx_winding.specs.Outside.{HasAll}
use Rattle.fx_winding.specs.Turned.{turned_place, turned_span}
use Rattle.fx_winding.specs.Winding.{Span, span_of}
use Rattle.fx_winding.proofs.Beside.{HasAll-weaker}
use Rattle.fx_winding.proofs.Turning.{all_turned}
use Rattle.fx_dropout.proofs.nearer.seen.Goals as goal

near_turned : (s : Span) → HasAll IsNearPlace s → HasAll IsNearPlace (turned_span s)
near_turned s h = all_turned IsNearPlace s (HasAll-weaker IsNearPlace (λ e. IsNearPlace (turned_place e))
    (λ e n. record { across = n.up; up = n.across }) s h)

pub returns-then-is_turned-clause-near : goal.returns-then-is_turned-clause-near
returns-then-is_turned-clause-near c =
    subst (HasAll IsNearPlace) (sym c.turned.ensures) (near_turned (span_of c.args.piece.now) c.requires)

use Rattle.std.proofs.Common.{refl, None, []}
use Rattle.std.proofs.lemmas.Result.{err_from_is_err_and}
use Rattle.fx_hint.proofs.Steps.{begins, not_begun}
use Rattle.fx_hint.proofs.RunLaws.{begun_is, first_of_root, opened, stops_on, none_then}
use Rattle.fx_hint.proofs.walk.Walk.assembled.Goals as goal

pub returns-in_err-begun-clause-walks : goal.returns-in_err-begun-clause-walks
returns-in_err-begun-clause-walks g c =
    let p = err_from_is_err_and c.from_residual.result c.from_residual.ensures.1 in
    let f = first_of_root _ _ _ _ _ _ _ _ _ (begun_is _ _ _ _ None _ _ [] _ refl) in
    rw (p.1, p.2) (stops_on g.H.Hinter.Leads g.met.H.Hinter.leads_then _ _ _ _ c.in_err-begun.field-0.0 _ [] _ _ _
    (g.met.H.Hinter.leads_same _) c.in_err-begun.ensures.leads f c.in_err-begun.ensures.value
    (λ e b. not_begun _ _ _ _ _ _ _ _ (begun_is _ _ _ _ None _ _ [] _ b)))

pub returns-in-None-clause-walks : goal.returns-in-None-clause-walks
returns-in-None-clause-walks g c =
    let v = rw c.in-None.is at c.in_ok-begun.ensures.value in
    record { by = (_, c.in_ok-begun.ensures.leads, begins _ _ _ _ _ _ _ _ _ (begun_is _ _ _ _ None _ _ [] _ v)) }

pub returns-in-Some-clause-walks : goal.returns-in-Some-clause-walks
returns-in-Some-clause-walks g c =
    let v = rw c.in-Some.is at c.in_ok-begun.ensures.value in
    let o = opened _ _ _ _ _ _ _ _ _ v in
    let n = rw o.0 at c.in_ok-begun.ensures.leads in
    rw o.1 (none_then g.H.Hinter.Leads g.met.H.Hinter.leads_then _ _ _ _ _ _ _ n
    (rw c.in_ok-begun.ensures.kept at c.closed.ensures.walks))

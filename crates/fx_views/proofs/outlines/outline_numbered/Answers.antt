use Rattle.fx_views.specs.Outlines.{outline_numbered_of}
use Rattle.fx_strike.proofs.Exits.{came}
use Rattle.fx_strike.proofs.Prepared.{opened_set}
use Rattle.fx_strike.proofs.Sketching.{fails_on}
use Rattle.fx_views.proofs.outlines.outline_numbered.Goals as goal

pub returns-in_err-striker-clause-outline : goal.returns-in_err-striker-clause-outline
unfolding outline_numbered_of
returns-in_err-striker-clause-outline c =
    rw (came c.from_residual.result c.from_residual.ensures.1) (fails_on _ _ _ (λ e k. rw k) (c.in_err-striker.ensures).cause)

pub returns-clause-outline : goal.returns-clause-outline
unfolding outline_numbered_of
returns-clause-outline c = rw (c.in_ok-striker.ensures).setting c.outline.ensures.outline

pub returns-clause-late : goal.returns-clause-late
returns-clause-late c memory = opened_set _ _ _ _ (c.in_ok-striker.ensures).setting

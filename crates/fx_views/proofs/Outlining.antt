-- A call that was refused before it wrote an outline leaves what the definition says of its refusal: `not_outlined`.
-- Serves `run_task` of `fx_cli`.
use Rattle.std.proofs.Common.{◌≡◌, ℕ, Option, Result, Err}
use Rattle.std.specs.Prelude.{IsErrOf}
use Rattle.fx_hint.specs.Outlines.{GlyphOutlineView}
use Rattle.fx_request.specs.declared.refusal.Refusal.TheVariants.{OutOfMemory, WriteFailed}
use Rattle.fx_strike.specs.Headline.{Late, Change}
use Rattle.fx_views.specs.Listings.{IsNoFault}
use Rattle.fx_views.specs.Outlines.{IsNotOutlined, IsOutlinedTo, Outlines}
use Rattle.fx_strike.specs.Strike.{Opening, Refusal}

pub not_outlined : (opening : Opening) (due : Result (Option GlyphOutlineView) Refusal) (sink : Change)
    (r : Result (Unit {0}) Refusal) (d : Refusal) → r ≡ Err d → (IsNoFault d → IsNotOutlined due sink d)
    → (IsErrOf r OutOfMemory → Late opening)
    → ((n : ℕ) → IsErrOf r (WriteFailed n) → IsOutlinedTo due sink n) → Outlines opening due sink (Err d)
not_outlined opening due sink r OutOfMemory e c l w = (l e, c tt)
not_outlined opening due sink r (WriteFailed n) e c l w = w n e
not_outlined opening due sink r d e c l w = c tt

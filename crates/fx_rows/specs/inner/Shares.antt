-- What a piece adds to the columns of a strip.
use Rattle.fx_winding.specs.Winding.{Span, region, crossing}
use Rattle.fx_rows.specs.declared.arc.Rest.{Rest}
use Rattle.fx_rows.specs.declared.intervals.Share.{Share}
use Rattle.fx_rows.specs.declared.strip.Strip.{Strip}
use Rattle.fx_rows.specs.inner.Candidates.{IsOnStrip}
use Rattle.fx_rows.specs.inner.Runs.{AreCells}
use Rattle.fx_rows.specs.inner.Sides.{place_at}

-- what a piece adds besides its chord's crossing: its region, and the columns that are on it
pub record IsRest (s : Span) (strip : Strip) (rest : Rest) : Type 0 where
  pub region : AreCells (λ k. region (place_at strip k) s) strip.stop rest.region
  pub on : IsOnStrip s strip rest.on

-- all that it adds
pub record IsShare (s : Span) (strip : Strip) (share : Share) : Type 0 where
  pub crosses : AreCells (λ k. crossing (place_at strip k) s) strip.stop share.crossing
  pub regions : AreCells (λ k. region (place_at strip k) s) strip.stop share.region
  pub on : IsOnStrip s strip share.on

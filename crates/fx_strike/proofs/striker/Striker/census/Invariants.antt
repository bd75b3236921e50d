use Rattle.std.proofs.Common.{◌≡◌, ◌≤◌, ◌<◌, ℕ, length}
use Rattle.std.specs.Prelude.{All}
use Rattle.fx_strike.specs.Careful.{first_budget}
use Rattle.fx_strike.specs.Strike.{drawing_in, programs_in}
use Rattle.fx_strike.specs.inner.Mapping.{mapped_in}
use Rattle.fx_strike.proofs.Weighing.{AreOver}
use Rattle.fx_strike.proofs.striker.Striker.census.Given as goal

-- the setting is as it was; those before this one that are over are found, and lie below all from this one on
abbrev pub invariant-mapped : goal.invariant-mapped
invariant-mapped g l = record {
  kept : l.self ≡ l.fn.self;
  found : AreOver (programs_in l.fn.self) (drawing_in l.fn.self l.refused) l.mapped first_budget
      l.m-index l.over l.budget;
  below : (j : ℕ) → l.m-index ≤ j → j < length l.mapped → All (λ c. c < (mapped_in l.mapped j).code) l.over;
}

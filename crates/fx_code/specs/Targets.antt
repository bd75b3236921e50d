-- What a program remembers of its skips.
use Rattle.std.specs.Prelude.{◌≡◌, ◌≢◌, ℕ, Bool, List, Ok}
use Rattle.fx_code.specs.Past.{past_of}
use Rattle.fx_code.specs.Chain.{stops_at_false, stops_at_else}
use Rattle.fx_code.specs.declared.targets.Target.{Target}
use Rattle.fx_code.specs.declared.targets.Skips.{Skips}

-- if it says anything, the search from there ends there in these bytes
abbrev pub IsTarget : (ℕ → ℕ → Bool) → List ℕ → Target → Type 0
IsTarget stops code target = target.after ≢ 0 → past_of stops code target.from ≡ Ok target.after

-- what is remembered of an `IF` and of an `ELSE`
abbrev pub AreSkips : List ℕ → Skips → Type 0
AreSkips code skips = IsTarget stops_at_false code skips.false_if × IsTarget stops_at_else code skips.executed_else

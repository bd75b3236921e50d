-- What programs use up: the instructions that they executed, and the numbers outside their tables that they named.
use Rattle.std.specs.Prelude.{◌+◌}
use Rattle.fx_fixed.specs.Numbers.{counted}
use Rattle.fx_machine.specs.declared.usage.Usage.{Usage}

-- no program ran
abbrev pub no_usage : Usage
no_usage = record { steps = 0; strays = 0 }

-- two of them together
abbrev pub usage_with : Usage → Usage → Usage
usage_with usage more = record { steps = counted (usage.steps + more.steps); strays = counted (usage.strays + more.strays) }

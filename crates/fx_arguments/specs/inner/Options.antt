-- The options of a command, as the code lists them.
use Rattle.std.specs.Prelude.{codes}
use Rattle.std.specs.Borrow.{Bor}
use Rattle.clap.specs.Walk.{Rule, Text}
use Rattle.clap.specs.Simple.{App, with_rule}
use Rattle.fx_arguments.specs.declared.commands.Takes.{Takes}
use Rattle.fx_arguments.specs.declared.commands.Takes.TheVariants.{Nothing, Value, Values, Choice}
use Rattle.fx_arguments.specs.Arguments.{choice_rule, flag_rule, many_rule, option_rule}

-- an option that takes this
abbrev pub rule_taking : Takes → Text → Rule
rule_taking Nothing id = flag_rule id
rule_taking Value id = option_rule id
rule_taking Values id = many_rule id
rule_taking Choice id = choice_rule id (codes "left")

-- a command with one option more
abbrev pub with_option : App → Bor Text × Takes → App
with_option app option = with_rule app (rule_taking option.1 option.0.now)

use Rattle.std.proofs.Common.{◌≡◌, drop}
use Rattle.std.specs.Prelude.{fold}
use Rattle.clap.specs.Words.{app_of, new_app}
use Rattle.fx_arguments.specs.inner.Options.{with_option}
use Rattle.fx_arguments.proofs.commands.command_with.Given as goal

-- the command has the options so far
abbrev pub invariant-options : goal.invariant-options
invariant-options l = fold with_option (app_of l.command) (drop l.option-index l.options)
    ≡ fold with_option (new_app l.name) l.options

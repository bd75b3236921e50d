use Rattle.std.proofs.Common.{◌≡◌, take, map, string_bytes}
use Rattle.fx_arguments.specs.Arguments.{texts}
use Rattle.fx_cli.proofs.start.texts_of.Given as goal

abbrev pub invariant-arguments : goal.invariant-arguments
invariant-arguments l = texts l.texts.items ≡ map string_bytes (take l.argument-index l.arguments)

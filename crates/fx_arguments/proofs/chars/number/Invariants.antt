use Rattle.std.proofs.Common.{◌≡◌, ◌<◌, ◌^◌, drop}
use Rattle.fx_arguments.specs.Chars.{number_after}
use Rattle.fx_arguments.proofs.chars.number.Given as goal

abbrev pub invariant-digits : goal.invariant-digits
invariant-digits l = record {
  so_far : number_after 0 l.digits ≡ number_after l.number (drop l.digit-index l.digits);
  bound : l.number < 16 ^ l.digit-index;
}

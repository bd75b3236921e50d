use Rattle.std.proofs.Common.{◌≡◌, nat_lt, take}
use Rattle.std.specs.List.{list_any}
use Rattle.fx_request.specs.Limits.{max_code}
use Rattle.fx_strike.proofs.open.is_past.Given as goal

abbrev pub invariant-codes : goal.invariant-codes
invariant-codes l = l.past ≡ list_any (nat_lt max_code) (take l.code-index l.chars)

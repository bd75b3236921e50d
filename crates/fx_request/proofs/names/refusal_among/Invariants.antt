use Rattle.std.proofs.Common.{◌≡◌, drop}
use Rattle.fx_request.specs.Refusals.{refusal_among}
use Rattle.fx_request.proofs.names.refusal_among.Given as goal

-- the first refusal with the number among those that are left is that among all
abbrev pub invariant-refusals : goal.invariant-refusals
invariant-refusals l = refusal_among (drop l.refusal-index l.refusals) l.fn.number ≡ refusal_among l.refusals l.fn.number

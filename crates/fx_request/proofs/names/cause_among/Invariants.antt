use Rattle.std.proofs.Common.{◌≡◌, drop}
use Rattle.fx_request.specs.Refusals.{cause_among}
use Rattle.fx_request.proofs.names.cause_among.Given as goal

-- the first cause with the number among those that are left is that among all
abbrev pub invariant-causes : goal.invariant-causes
invariant-causes l = cause_among (drop l.cause-index l.causes) l.fn.number ≡ cause_among l.causes l.fn.number

use Rattle.std.proofs.Common.{◌≡◌, map}
use Rattle.std.specs.List.{range_with_len}
use Rattle.fx_scale.specs.Controls.{control_value}
use Rattle.fx_scale.proofs.cvt.cvt_of.Given as goal

abbrev pub invariant-entries : goal.invariant-entries
invariant-entries l = l.values.items ≡ map (control_value l.scale l.bytes) (range_with_len 0 l.k)

use Rattle.std.proofs.Common.{◌≡◌, ◌-◌}
use Rattle.fx_axes.specs.Sweeps.{all_from}
use Rattle.fx_axes.specs.Fvar.{axis_count, is_ordered}
use Rattle.fx_axes.proofs.fvar.are_in_order.Given as goal

-- all axes before k are in order
abbrev pub invariant-axes : goal.invariant-axes
invariant-axes l = all_from (is_ordered l.fvar) l.k (axis_count l.fvar - l.k) ≡ all_from (is_ordered l.fvar) 0 (axis_count l.fvar)

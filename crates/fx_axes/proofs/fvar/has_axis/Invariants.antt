use Rattle.std.proofs.Common.{◌≡◌, ◌-◌}
use Rattle.fx_axes.specs.Sweeps.{any_from}
use Rattle.fx_axes.specs.Fvar.{axis_count, has_tag}
use Rattle.fx_axes.proofs.fvar.has_axis.Given as goal

-- no axis before k has the tag
abbrev pub invariant-axes : goal.invariant-axes
invariant-axes l = any_from (has_tag l.fvar l.fn.tag) l.k (axis_count l.fvar - l.k)
    ≡ any_from (has_tag l.fvar l.fn.tag) 0 (axis_count l.fvar)

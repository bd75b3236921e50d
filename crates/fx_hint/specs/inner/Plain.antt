-- Components without a transformation.
use Rattle.std.specs.Prelude.{◌≡◌, ◌^◌, pos}
use Rattle.fx_glyf.specs.declared.component.Component.{Component}

-- a transformation that leaves each place where it is; its numbers are in 2.14
pub record IsPlain (component : Component) : Type 0 where
  pub a_is : component.a ≡ pos (2 ^ 14)
  pub b_is : component.b ≡ pos 0
  pub c_is : component.c ≡ pos 0
  pub d_is : component.d ≡ pos (2 ^ 14)

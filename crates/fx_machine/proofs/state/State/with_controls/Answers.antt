use Rattle.std.proofs.Common.{refl}
use Rattle.fx_machine.proofs.state.State.with_controls.Goals as goal

pub returns : goal.returns
returns c =
    rw (
      c.in_ok-store.ensures,
      c.in_ok-twilight.ensures,
      c.in_ok-definitions.ensures,
      c.new.ensures,
      c.new-2.ensures,
      c.maxp.ensures.value,
    ) refl

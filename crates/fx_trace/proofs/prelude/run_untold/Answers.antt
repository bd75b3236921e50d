use Rattle.std.proofs.Common.{refl}
use Rattle.fx_trace.proofs.PreludeEnds.{machine_given}
use Rattle.fx_trace.proofs.prelude.run_untold.Goals as goal

pub returns : goal.returns
returns c = rw (c.machine_end.ensures, ← c.shared.ensures) (machine_given (λ m. m.known) _ _ (c.new.ensures.value refl))

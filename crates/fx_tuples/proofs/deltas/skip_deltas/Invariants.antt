use Rattle.std.proofs.Common.{◌≡◌, ◌-◌}
use Rattle.std.specs.Prelude.{option_map}
use Rattle.fx_tuples.specs.Deltas.{deltas_from, start, state}
use Rattle.fx_tuples.proofs.deltas.skip_deltas.Given as goal

-- after the deltas that are left comes what comes after all
abbrev pub invariant-deltas : goal.invariant-deltas
invariant-deltas l = option_map (λ r. r.1) (deltas_from (l.count - l.k)
    (state l.cursor.again l.cursor.form l.cursor.delta l.cursor.bytes.now))
    ≡ option_map (λ r. r.1) (deltas_from l.count (start l.bytes))

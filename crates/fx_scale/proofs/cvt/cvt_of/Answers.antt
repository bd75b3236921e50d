use Rattle.std.proofs.Common.{arith}
use Rattle.std.proofs.lemmas.Grind.{common_steps}
use Rattle.std.proofs.lemmas.List.FromFn.{map-range_with_len_more}
use Rattle.fx_scale.specs.Controls.{control_value}
use Rattle.fx_scale.proofs.cvt.cvt_of.Goals as goal

pub entries-preserved : goal.entries-preserved
entries-preserved c =
    let more = map-range_with_len_more (control_value c.args.scale.now c.args.bytes.now) 0 c.entries.k c.entries.k (omega arith) in
    grind (arith, common_steps, more)

use Rattle.std.proofs.Common.{refl}
use Rattle.fx_rows.specs.inner.Bands.{bounded_span}
use Rattle.fx_rows.proofs.Stepping.{strip_row, whole}
use Rattle.fx_rows.proofs.Telling.{cut_end}
use Rattle.fx_rows.proofs.passing.end_in.Goals as goal

pub returns-clause-end : goal.returns-clause-end
returns-clause-end c =
    let s = bounded_span c.args.bounded.now in
    let at = strip_row c.strip_of.result c.args.row c.args.row c.requires.row c.strip_of.ensures.row refl in
    cut_end s c.args.frame c.strip_of.result c.end_on.result c.args.row at
    (whole c.args.frame c.strip_of.result c.strip_of.ensures.base c.strip_of.ensures.stop) c.end_on.ensures.end

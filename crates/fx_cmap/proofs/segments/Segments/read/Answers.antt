use Rattle.std.proofs.Common.{sym, ◌∙◌, arith}
use Rattle.fx_cmap.proofs.Searching.{end_codes_of}
use Rattle.fx_cmap.proofs.segments.Segments.read.Goals as goal

pub invariant_of-result : goal.invariant_of-result
invariant_of-result c =
    let codes = c.of.ensures ∙ c.short-end_codes.ensures in
    (omega arith, end_codes_of c.args.cmap.now c.args.start c.from-seg_count.result ∙ sym codes)

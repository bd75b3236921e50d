use Rattle.std.proofs.Common.{sym, ◌∙◌, arith}
use Rattle.fx_cmap.proofs.Searching.{end_char_codes_of}
use Rattle.fx_cmap.proofs.groups.Groups.read.Goals as goal

pub invariant_of-result : goal.invariant_of-result
invariant_of-result c =
    let codes = c.of.ensures ∙ c.wide-end_char_codes.ensures in
    (omega arith, end_char_codes_of c.args.cmap.now c.args.start c.u32_in-num_groups.result ∙ sym codes)

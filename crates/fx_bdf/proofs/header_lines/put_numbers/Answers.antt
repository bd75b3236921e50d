use Rattle.std.proofs.Common.{refl, rules}
use Rattle.std.specs.Fmt.{decimal}
use Rattle.fx_fixed.proofs.Decimals.{copied_before}
use Rattle.fx_bdf.proofs.Parts.{number_before, numbers_put}
use Rattle.fx_bdf.proofs.header_lines.put_numbers.Goals as goal

pub returns : goal.returns
returns c name =
    numbers_put name c.args.count c.args.header.now c.requires.none
    (copied_before _ (search rules) c.put_signed.ensures.text refl)
    (copied_before _ (search rules) c.put_signed-2.ensures.text refl)
    c.put_unsigned.ensures.text c.put.ensures.text c.put-2.ensures.text
    (number_before decimal _ c.put_unsigned-2.ensures.text c.from.ensures) c.put-3.ensures.text

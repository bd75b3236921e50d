use Rattle.std.proofs.Common.{refl, rules}
use Rattle.std.specs.Fmt.{decimal}
use Rattle.fx_fixed.proofs.Decimals.{copied_before}
use Rattle.fx_bdf.proofs.Parts.{box_put, number_before}
use Rattle.fx_bdf.proofs.bounds.Bounds.put.Goals as goal

pub returns-clause-text : goal.returns-clause-text
returns-clause-text c =
    box_put c.args.self.now _
    (copied_before _ (search rules) c.put_signed.ensures.text refl)
    (copied_before _ (search rules) c.put_signed-2.ensures.text refl)
    (number_before decimal _ c.put_unsigned.ensures.text c.from.ensures)
    (number_before decimal _ c.put_unsigned-2.ensures.text c.from-2.ensures)

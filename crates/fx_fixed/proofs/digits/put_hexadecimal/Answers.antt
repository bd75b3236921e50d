use Rattle.fx_fixed.proofs.Hexadecimals.{hex_all}
use Rattle.fx_fixed.proofs.digits.put_hexadecimal.Goals as goal

pub returns-clause-digits : goal.returns-clause-digits
returns-clause-digits c =
    hex_all c.args.least c.args.number c.put_hex_digits-first.result c.args.end _ _ _ c.put_hex_digits-first.ensures.long
    c.requires.within c.put_hex_digits-first.ensures.within c.put_hex_digits-first.ensures.digits c.put_zeros.ensures.zeros

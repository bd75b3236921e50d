use Rattle.std.proofs.Common.{length, ap, arith, encode_utf8_all}
use Rattle.fx_names.proofs.Units.{chars_none}
use Rattle.fx_names.proofs.utf16.utf8_len.Goals as goal

pub returns : goal.returns
returns c =
    let none = ap encode_utf8_all (chars_none c.chars.rest.now (omega (arith, c.chars-test.false))) in
    omega (arith, c.chars.invariant.counted, ap length none)

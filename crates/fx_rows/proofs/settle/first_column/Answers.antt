use Rattle.std.proofs.Common.{w32}
use Rattle.std.proofs.lemmas.Nat.Bits.{bit_at-trailing_zeros}
use Rattle.fx_rows.proofs.settle.first_column.Goals as goal

pub returns : goal.returns
returns c =
    let t = bit_at-trailing_zeros w32 c.args.word c.requires c.ranges.word.fits in
    record { within = t.0; set = t.1; before = λ i h. t.2 i h }

use Rattle.std.proofs.Common.{◌-◌, w32, arith}
use Rattle.std.proofs.lemmas.Nat.Bits.{bit_at-trailing_zeros}
use Rattle.std.specs.Int.{trailing_zeros}
use Rattle.fx_rows.proofs.Tails.{fewer, first_gone, first_rest}
use Rattle.fx_rows.proofs.settle.without_first.Goals as goal

pub returns : goal.returns
returns c =
    let k = trailing_zeros w32 c.args.word in
    let t = bit_at-trailing_zeros w32 c.args.word c.requires c.ranges.word.fits in
    record {
      before = λ k i first h. first_gone k c.args.word i first.before first.set h;
      rest = λ k i first h. first_rest k c.args.word i first.before first.set h;
      less = fewer c.args.word (c.args.word - 1) k t.1 (first_gone k c.args.word k t.2 t.1 (omega arith));
    }

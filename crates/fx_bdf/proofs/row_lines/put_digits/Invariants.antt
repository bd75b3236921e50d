use Rattle.std.proofs.Common.{◌≡◌, ◌+◌, ◌*◌, ◌++◌, length, min, take}
use Rattle.fx_bdf.specs.inner.Lines.{digits_from}
use Rattle.fx_bdf.proofs.row_lines.put_digits.Given as goal

-- the digits of the words so far were written
abbrev pub invariant-words : goal.invariant-words
invariant-words l = let n = min (8 * l.k) l.digits in record {
  long : length l.bytes ≡ length l.fn.bytes;
  text : take (l.start + n) l.bytes ≡ take l.start l.fn.bytes ++ digits_from l.row 0 n;
}

use Rattle.std.proofs.Common.{◌≡◌, ◌+◌, ◌*◌, ◌≤◌, length}
use Rattle.fx_names.specs.Text.{utf8_of}
use Rattle.fx_names.proofs.utf16.utf8_len.Given as goal

-- `count` is the length of the characters before `rest`
abbrev pub invariant-chars : goal.invariant-chars
invariant-chars l = record {
  counted : l.count + length (utf8_of l.rest) ≡ length (utf8_of l.string);
  small : l.count + 2 * length l.rest ≤ 2 * length l.string;
}

abbrev pub decreases-chars : goal.decreases-chars
decreases-chars l = length l.rest

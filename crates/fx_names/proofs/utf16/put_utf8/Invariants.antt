use Rattle.std.proofs.Common.{◌≡◌, ◌+◌, ◌++◌, length, take, drop}
use Rattle.fx_names.specs.Text.{utf8_of}
use Rattle.fx_names.proofs.utf16.put_utf8.Given as goal

-- the characters before `rest` are at the front of `text`, in `count` bytes
abbrev pub invariant-chars : goal.invariant-chars
invariant-chars l = record {
  front : take l.count l.text ++ utf8_of l.rest ≡ utf8_of l.string;
  rest : drop l.count l.text ≡ drop l.count l.initial.text;
  counted : l.count + length (utf8_of l.rest) ≡ length (utf8_of l.string);
  same : length l.text ≡ length l.initial.text;
}

abbrev pub decreases-chars : goal.decreases-chars
decreases-chars l = length l.rest

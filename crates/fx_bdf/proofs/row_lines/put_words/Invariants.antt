use Rattle.std.proofs.Common.{◌≡◌, ◌+◌, ◌-◌, ◌*◌, ◌≤◌, ◌++◌, length, take}
use Rattle.std.specs.List.{flat_map}
use Rattle.fx_bdf.specs.inner.Lines.{word_text}
use Rattle.fx_bdf.proofs.row_lines.put_words.Given as goal

-- the digits of the words so far were written
abbrev pub invariant-pairs : goal.invariant-pairs
invariant-pairs l = record {
  inside : l.k ≤ length l.words;
  text : take (l.start + 8 * l.k) l.bytes ≡ take l.start l.fn.bytes ++ flat_map word_text (take l.k l.words);
}

abbrev pub decreases-pairs : goal.decreases-pairs
decreases-pairs l = length l.words - l.k

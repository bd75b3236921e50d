use Rattle.std.proofs.Common.{◌≡◌, ◌+◌, ◌-◌, ◌*◌, ◌++◌, ◌≤◌, length, take}
use Rattle.fx_bdf.specs.inner.Lines.{lines_between}
use Rattle.fx_bdf.proofs.row_lines.put_short_lines.Given as goal

abbrev pub invariant-pairs : goal.invariant-pairs
invariant-pairs l = record {
  long : length l.bytes ≡ length l.fn.bytes;
  within : l.end ≤ length l.bytes;
  end : l.end ≡ l.fn.start + (l.i - l.fn.first) * (l.fn.digits + 1);
  order : l.fn.first ≤ l.i;
  next : l.i ≤ l.fn.last;
  text : take l.end l.bytes ≡ take l.fn.start l.fn.bytes ++ lines_between l.rows l.fn.first l.i;
}

abbrev pub decreases-pairs : goal.decreases-pairs
decreases-pairs l = l.fn.last - l.i

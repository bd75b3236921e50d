use Rattle.std.proofs.Common.{◌≡◌, ◌+◌, ◌-◌, ◌*◌, ◌++◌, ◌≤◌, length, take}
use Rattle.fx_bdf.specs.inner.Lines.{lines_between}
use Rattle.fx_bdf.proofs.row_lines.put_lines.Given as goal

abbrev pub invariant-rows : goal.invariant-rows
invariant-rows l = record {
  long : length l.bytes ≡ length l.fn.bytes;
  within : l.end ≤ length l.bytes;
  order : l.fn.first ≤ l.i;
  end : l.end ≡ l.fn.start + (l.i - l.fn.first) * (l.digits + 1);
  text : take l.end l.bytes ≡ take l.fn.start l.fn.bytes ++ lines_between l.rows l.fn.first l.i;
}

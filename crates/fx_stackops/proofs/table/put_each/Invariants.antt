use Rattle.std.proofs.Common.{◌≡◌, length, take}
use Rattle.fx_code.specs.Numbers.{numbers}
use Rattle.fx_stackops.specs.Table.{AreNumbers}
use Rattle.fx_stackops.proofs.table.put_each.Given as goal

-- the first i numbers are written
abbrev pub invariant-numbers : goal.invariant-numbers
invariant-numbers l = record {
  front : take l.i l.cells ≡ take l.i (numbers l.instr.opcode l.instr.pushed.now);
  size : length l.cells ≡ length l.fn.cells;
  fit : AreNumbers l.cells;
}

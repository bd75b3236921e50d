use Rattle.std.proofs.Common.{◌≡◌, ◌==◌, ◌≤◌, ◌-◌, length, take}
use Rattle.std.specs.List.{position_or_len}
use Rattle.std.specs.Io.KnownBytes.{Consumes}
use Rattle.fx_arguments.proofs.input.read_line.Given as goal

abbrev pub invariant-reading : goal.invariant-reading
invariant-reading g l = record {
  took : Consumes (g.R.Source.left l.initial.reader) (g.R.Source.left l.reader) (take l.filled l.buffer);
  no_line : position_or_len (λ b. b == 10) (take l.filled l.buffer) ≡ l.filled;
  within : l.filled ≤ length l.buffer;
  quiet : g.R.Source.fault_count l.reader ≡ g.R.Source.fault_count l.initial.reader;
}

abbrev pub decreases-reading : goal.decreases-reading
decreases-reading g l = length l.buffer - l.filled

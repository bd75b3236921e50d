use Rattle.std.proofs.Common.{◌≡◌, ◌-◌, ◌≤◌, length, take}
use Rattle.std.specs.Io.KnownBytes.{Appends}
use Rattle.fx_fixed.proofs.sink.put_all.Given as goal

abbrev pub invariant-piece : goal.invariant-piece
invariant-piece g l = record {
  within : l.at ≤ length l.piece;
  bytes : Appends (g.W.Sink.held l.fn.out) (g.W.Sink.held l.out) (take l.at l.piece);
  faults : g.W.Sink.fault_count l.out ≡ g.W.Sink.fault_count l.fn.out;
}

abbrev pub decreases-piece : goal.decreases-piece
decreases-piece g l = length l.piece - l.at

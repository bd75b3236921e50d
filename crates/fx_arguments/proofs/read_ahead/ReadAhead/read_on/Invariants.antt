use Rattle.std.proofs.Common.{◌≡◌, ◌+◌, ◌-◌, ◌≤◌, ◌++◌, List, ℕ, take, vec_len}
use Rattle.std.specs.Io.KnownBytes.{Consumes}
use Rattle.fx_arguments.specs.Limits.{max_input}
use Rattle.fx_arguments.proofs.read_ahead.ReadAhead.read_on.Given as goal

abbrev pub invariant-reading : goal.invariant-reading
invariant-reading g l = record {
  more : List ℕ;
  took : Consumes (g.R.Source.left l.initial.reader) (g.R.Source.left l.reader) more;
  items : take l.filled l.text.items ≡ l.self.text ++ more;
  inside : l.filled ≤ vec_len l.text;
  quiet : g.R.Source.fault_count l.reader ≡ g.R.Source.fault_count l.initial.reader;
}

abbrev pub decreases-reading : goal.decreases-reading
decreases-reading g l = max_input + 1 - l.filled

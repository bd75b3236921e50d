use Rattle.std.proofs.Common.{◌≡◌, ◌<◌, ◌≤◌, ◌*◌, ℕ, get_or}
use Rattle.fx_rows.specs.inner.Sums.{AreEmptiedTo}
use Rattle.fx_rows.proofs.Changes.{SettledTo}
use Rattle.fx_rows.proofs.settle.settle.Given as goal

abbrev pub invariant-words : goal.invariant-words
invariant-words l = record {
  settled : SettledTo l.fn.diff l.fn.line l.line l.count l.w;
  emptied : AreEmptiedTo (32 * l.w) l.fn.diff l.diff;
  untouched : (v : ℕ) → v < l.w → get_or l.touched v 0 ≡ 0;
  touched : (v : ℕ) → l.w ≤ v → get_or l.touched v 0 ≡ get_or l.fn.touched v 0;
}

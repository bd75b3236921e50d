use Rattle.std.proofs.Common.{ℕ, ◌+◌, ◌<◌, slice_index, IsTrue}
use Rattle.fx_request.proofs.characters.is_rising.Given as goal

abbrev pub invariant-codes : goal.invariant-codes
invariant-codes l = record {
  rise : IsTrue l.rises → (j : ℕ) → j + 1 < l.k → slice_index l.chars j < slice_index l.chars (j + 1);
}

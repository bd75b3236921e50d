use Rattle.std.proofs.Common.{ℕ, ◌/◌, ◌%◌, map}
use Rattle.fx_winding.specs.Notes.{IsMetOf}
use Rattle.fx_winding.specs.Winding.{span_of}
use Rattle.fx_winding.proofs.Scanned.{RowSet}
use Rattle.fx_winding.proofs.notes.note_columns.Given as goal

abbrev pub invariant-segments : goal.invariant-segments
invariant-segments l = RowSet (λ (n : ℕ). IsMetOf l.frame (map span_of l.pieces) (n % l.size) (n / l.size)) l.bits l.n

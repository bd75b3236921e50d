use Rattle.std.proofs.Common.{ℕ, ◌/◌, ◌%◌, map, arith}
use Rattle.fx_winding.specs.Notes.{IsMetOf}
use Rattle.fx_winding.specs.Winding.{span_of}
use Rattle.fx_winding.proofs.Scanned.{row_set_more}
use Rattle.fx_winding.proofs.notes.note_columns.Goals as goal

pub segments-init : goal.segments-init
segments-init c = record { set = λ n l. absurd (omega arith); clear = λ n l. c.requires.clear n }

pub put_bit-requires-clause-clear : goal.put_bit-requires-clause-clear
put_bit-requires-clause-clear c = c.segments.invariant.clear c.segments.n (omega arith)

pub segments-preserved : goal.segments-preserved
segments-preserved c =
    let ss = map span_of c.args.pieces.now in
    row_set_more (λ (n : ℕ). IsMetOf c.args.frame ss (n % c.args.size) (n / c.args.size)) c.segments.bits
    c.put_bit.new.words c.segments.n c.is_noted-met.result c.segments.invariant c.is_noted-met.ensures c.put_bit.ensures.here
    c.put_bit.ensures.others

pub returns : goal.returns
returns c = λ n l. c.segments.invariant.set n (omega arith)

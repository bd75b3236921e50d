use Rattle.std.proofs.Common.{refl, arith}
use Rattle.fx_rows.proofs.Bulges.{across_set}
use Rattle.fx_rows.proofs.NotedSegments.{row_room}
use Rattle.fx_rows.proofs.bulge.note_all_across.Goals as goal

pub note_lines-requires : goal.note_lines-requires
note_lines-requires c = λ r l.
    let room = row_room r _ c.args.frame.width _ _ l refl c.requires.room in rw c.words_for.ensures (omega (arith, room))

pub returns-clause-noted : goal.returns-clause-noted
returns-clause-noted c = grind (arith, c.words_for.ensures, c.bounds_of.ensures.piece, c.note_lines.ensures.notes, across_set)

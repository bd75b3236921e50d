use Rattle.std.proofs.Common.{arith, length-drop}
use Rattle.fx_fixed.proofs.Texts.{adds_count, adds_piece, adds_quiet}
use Rattle.fx_strike.proofs.Exits.{came}
use Rattle.fx_strike.proofs.Keeping.{within_rest}
use Rattle.fx_strike.proofs.Lines.{added, lines_are_one, parted_at, adds_part, part_begins, stops_part, part_then, unadded}
use Rattle.fx_strike.proofs.striker.Striker.write_all.Goals as goal

pub write_made-requires-clause-mapped : goal.write_made-requires-clause-mapped
write_made-requires-clause-mapped g c =
    rw c.split_at.ensures.back (within_rest c.args.kept.count c.args.mapped.now c.requires.mapped)

pub write_made-requires-clause-room : goal.write_made-requires-clause-room
write_made-requires-clause-room g c =
    let kept = adds_piece c.as_slice.ensures.value c.in_ok-add.ensures in
    record {
      bytes = omega (
        arith,
        adds_count kept,
        c.requires.lines.short,
        c.requires.mapped.few,
        c.split_at.ensures.back_len,
        c.requires.room.bytes,
      );
      faults = omega (arith, adds_quiet kept, c.requires.room.faults);
    }

pub returns-in_err-add-clause-lines : goal.returns-in_err-add-clause-lines
returns-in_err-add-clause-lines g c =
    rw (came c.from_residual.result c.from_residual.ensures.1)
    (part_begins {m = 0} (parted_at c.args.kept.count c.args.mapped.now)
    (stops_part (lines_are_one c.trimmed.ensures _ c.requires.lines.lines)
    (unadded (adds_piece c.as_slice.ensures.value c.in_err-add.ensures)
    (omega (arith, c.requires.lines.short, c.requires.lines.few, c.requires.mapped.few, c.requires.room.bytes)))))

pub returns-clause-lines : goal.returns-clause-lines
returns-clause-lines g c =
    part_then c.write_made.result
    (omega (arith, c.requires.mapped.few, c.requires.lines.few, length-drop c.args.kept.count c.args.mapped.now))
    (parted_at c.args.kept.count c.args.mapped.now)
    (adds_part c.requires.lines.short (lines_are_one c.trimmed.ensures _ c.requires.lines.lines)
    (added (adds_piece c.as_slice.ensures.value c.in_ok-add.ensures)))
    (rw c.split_at.ensures.back at c.write_made.ensures.lines)

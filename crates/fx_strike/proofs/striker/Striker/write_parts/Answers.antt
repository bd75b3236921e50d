use Rattle.std.proofs.Common.{arith}
use Rattle.fx_bdf.specs.Text.{end_text}
use Rattle.fx_fixed.proofs.Texts.{adds_then, adds_stopped, adds_ended, adds_count, adds_quiet}
use Rattle.fx_strike.proofs.Exits.{came}
use Rattle.fx_strike.proofs.Lines.{added, unadded}
use Rattle.fx_strike.proofs.striker.Striker.write_parts.Goals as goal

pub write_all-requires-clause-room : goal.write_all-requires-clause-room
write_all-requires-clause-room g c =
    let header = c.in_ok-write_header.ensures in
    record {
      bytes = omega (arith, adds_count header.text, header.short, c.requires.room.bytes);
      faults = omega (arith, adds_quiet header.text, c.requires.room.faults);
    }

pub returns-in_err-write_header-clause-lines : goal.returns-in_err-write_header-clause-lines
returns-in_err-write_header-clause-lines g c lines h =
    rw (came c.from_residual.result c.from_residual.ensures.1)
    (adds_stopped _ (unadded c.in_err-write_header.ensures.text
    (omega (arith, c.in_err-write_header.ensures.short, c.requires.room.bytes))))

pub returns-in_err-write_all-clause-lines : goal.returns-in_err-write_all-clause-lines
returns-in_err-write_all-clause-lines g c lines h =
    rw (came c.from_residual-in_err-write_all.result c.from_residual-in_err-write_all.ensures.1)
    (adds_then (added c.in_ok-write_header.ensures.text)
    (c.in_err-write_all.ensures.lines.lines lines h end_text (omega arith)))

pub returns-in_err-write_end-clause-lines : goal.returns-in_err-write_end-clause-lines
returns-in_err-write_end-clause-lines g c lines h =
    let header = c.in_ok-write_header.ensures in
    rw (came c.from_residual-in_err-write_end.result c.from_residual-in_err-write_end.ensures.1)
    (adds_then (added header.text) (adds_then (c.in_ok-write_all.ensures.lines.lines lines h)
    (unadded c.in_err-write_end.ensures
    (omega (arith, adds_count header.text, header.short, c.in_ok-write_all.ensures.lines.short, c.requires.room.bytes)))))

pub returns-in_err-end-clause-lines : goal.returns-in_err-end-clause-lines
returns-in_err-end-clause-lines g c lines h =
    let header = c.in_ok-write_header.ensures in
    rw (came c.from_residual-in_err-end.result c.from_residual-in_err-end.ensures.1)
    (adds_ended (adds_then (added header.text) (adds_then (c.in_ok-write_all.ensures.lines.lines lines h)
    (added c.in_ok-write_end.ensures)))
    (unadded c.in_err-end.ensures.adds
    (omega (
      arith,
      adds_count header.text,
      header.short,
      c.in_ok-write_all.ensures.lines.short,
      adds_count c.in_ok-write_end.ensures,
      c.requires.room.bytes,
    ))))

pub returns-clause-lines : goal.returns-clause-lines
returns-clause-lines g c lines h =
    adds_ended (adds_then (added c.in_ok-write_header.ensures.text) (adds_then (c.in_ok-write_all.ensures.lines.lines lines h)
    (added c.in_ok-write_end.ensures))) (added c.in_ok-end.ensures.adds)

use Rattle.std.proofs.Common.{arith}
use Rattle.fx_strike.proofs.Exits.{came}
use Rattle.fx_strike.proofs.Lines.{drawn_lines, added, adds_part, part_memory, stops_part, unadded}
use Rattle.fx_strike.proofs.striker.Striker.write_drawn.Goals as goal

pub returns-in_err-drawn-clause-lines : goal.returns-in_err-drawn-clause-lines
returns-in_err-drawn-clause-lines g c =
    rw (came c.from_residual.result c.from_residual.ensures.1) (part_memory (λ lines a. (c.in_err-drawn.ensures).fault))

pub returns-in_err-write_glyph-clause-lines : goal.returns-in_err-write_glyph-clause-lines
returns-in_err-write_glyph-clause-lines g c =
    let w = c.in_err-write_glyph.ensures in
    rw (came c.from_residual-in_err-write_glyph.result c.from_residual-in_err-write_glyph.ensures.1)
    (stops_part (drawn_lines c.trimmed.ensures c.args.sketch.now (c.in_ok-drawn.ensures).glyph)
    (unadded w.text (omega (arith, w.short, c.requires.room.bytes))))

pub returns-clause-lines : goal.returns-clause-lines
returns-clause-lines g c =
    adds_part c.in_ok-write_glyph.ensures.short
    (drawn_lines c.trimmed.ensures c.args.sketch.now (c.in_ok-drawn.ensures).glyph) (added c.in_ok-write_glyph.ensures.text)

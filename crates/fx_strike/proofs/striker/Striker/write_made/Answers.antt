use Rattle.std.proofs.Common.{refl, ◌∙◌, ◌+◌, ◌*◌, arith, Ok, Err}
use Rattle.fx_bdf.specs.Text.{longest_glyph}
use Rattle.fx_fixed.proofs.Texts.{adds_nothing}
use Rattle.fx_strike.proofs.Exits.{came}
use Rattle.fx_strike.proofs.Lines.{parted_at, parted_next, no_characters, adds_part, part_begins, part_then}
use Rattle.fx_strike.proofs.Seeing.{code_fits}
use Rattle.fx_strike.proofs.striker.Striker.write_made.Goals as goal

pub mapped-init : goal.mapped-init
mapped-init g c = record { kept = refl; lines = adds_part (omega arith) no_characters adds_nothing }

pub write_one-requires-clause-code : goal.write_one-requires-clause-code
write_one-requires-clause-code g c =
    code_fits c.args.mapped.now c.mapped.m-index c.requires.mapped c.mapped-test.true

pub write_one-requires-clause-room : goal.write_one-requires-clause-room
write_one-requires-clause-room g c = record {
  bytes = omega (arith, c.mapped.invariant.lines.short, c.requires.room.bytes, c.mapped-test.true);
  faults = omega (arith, c.mapped.invariant.lines.quiet, c.requires.room.faults);
}

pub returns-in_err-write_one-clause-lines : goal.returns-in_err-write_one-clause-lines
returns-in_err-write_one-clause-lines g c =
    rw (came c.from_residual.result c.from_residual.ensures.1)
    (part_begins (parted_at (c.mapped.m-index + 1) c.args.mapped.now)
    (part_then {most = c.mapped.m-index * longest_glyph + longest_glyph} (Err c.in_err-write_one.field-0.0) (omega arith)
    (parted_next c.mapped.m-index c.args.mapped.now c.mapped-test.true) c.mapped.invariant.lines
    (rw c.mapped.invariant.kept at (c.in_err-write_one.ensures).lines)))

pub mapped-preserved : goal.mapped-preserved
mapped-preserved g c = record {
  kept = (c.in_ok-write_one.ensures).kept ∙ c.mapped.invariant.kept;
  lines = part_then (Ok tt) (omega arith) (parted_next c.mapped.m-index c.args.mapped.now c.mapped-test.true)
      c.mapped.invariant.lines (rw c.mapped.invariant.kept at (c.in_ok-write_one.ensures).lines);
}

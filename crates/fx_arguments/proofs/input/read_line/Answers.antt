use Rattle.std.proofs.Common.{◌∙◌, ◌+◌, ◌-◌, arith, length, sym}
use Rattle.fx_arguments.proofs.Buffers.{filled_more, filled_within, length_take_most}
use borrow.Rule.Slice.PartMut.{put_mid}
use Rattle.fx_arguments.proofs.input.read_line.Goals as goal

pub returns-then-end-filled-clause-read : goal.returns-then-end-filled-clause-read
returns-then-end-filled-clause-read g c =
    filled_more _ _ _ _ _ _ _ c.reading.invariant.within c.in-Some.ensures.count c.reading.invariant.took c.in-Some.ensures.bytes

pub reading-preserved : goal.reading-preserved
reading-preserved g c =
    let buffer = put_mid c.reading.filled (length c.reading.buffer - c.reading.filled) c.reading.buffer c.take.new.buffer in
    let long = length_take_most (c.reading.filled + c.in-Some.n) buffer in
    let within = c.reading.invariant.within in
    let count = c.in-Some.ensures.count in
    record {
      took = filled_more _ _ _ _ _ _ _ within count c.reading.invariant.took c.in-Some.ensures.bytes;
      no_line = sym c.line_len-end.ensures.value
          ∙ omega (arith, c.line_len-end.ensures.bound, c.if-end-filled.false, long);
      within = filled_within _ _ _ _ within count;
      quiet = c.in-Some.ensures.quiet ∙ c.reading.invariant.quiet;
    }

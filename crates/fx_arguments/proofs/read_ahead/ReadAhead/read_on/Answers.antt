use Rattle.std.proofs.Common.{◌≡◌, ◌-◌, ◌++◌, ◌∙◌, arith, length, rules, take}
use Rattle.std.proofs.KnownBytes.{Consumes-trans}
use Rattle.fx_arguments.proofs.Buffers.{text_on}
use Rattle.fx_arguments.proofs.read_ahead.ReadAhead.read_on.Goals as goal

pub reading-preserved : goal.reading-preserved
reading-preserved g c =
    let got = take c.in-Some.n c.take.new.buffer in
    let room = c.in_ok-make_room.ensures.inside in
    let count = c.in-Some.ensures.count in
    let size : c.make_room.new.text.len ≡ length c.make_room.new.text.items = search rules in
    let part : length c.take.new.buffer ≡ c.make_room.new.text.len - c.reading.filled = search rules in
    record {
      more = c.reading.invariant.more ++ got;
      took =
          Consumes-trans (g.R.Source.left c.args.reader.now) (g.R.Source.left c.reading.reader) (g.R.Source.left c.take.new.self)
          c.reading.invariant.more got c.reading.invariant.took c.in-Some.ensures.bytes;
      items =
          text_on c.make_room.new.text.items c.deref_mut.result.now c.take.new.buffer c.args.self.now.text c.reading.invariant.more
          c.make_room.new.text.len c.reading.filled c.in-Some.n c.deref_mut.ensures.value size room part count
          (c.in_ok-make_room.ensures.kept ∙ c.reading.invariant.items);
      inside = omega (arith, part, room, count);
      quiet = c.in-Some.ensures.quiet ∙ c.reading.invariant.quiet;
    }

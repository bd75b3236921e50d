use Rattle.std.proofs.Common.{arith}
use Rattle.fx_fixed.proofs.Texts.{pushed}
use Rattle.fx_fixed.proofs.text.TextWriter.push_first.Goals as goal

pub returns : goal.returns
returns g c =
    pushed c.args.piece.now _ c.self.inside.buffer c.put_over.new.bytes c.self.view_is
    (omega (arith, c.self.invariant, c.self.ranges)) c.requires.count c.put_over.ensures

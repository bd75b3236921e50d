use Rattle.std.proofs.Common.{arith}
use Rattle.fx_machine.proofs.Reading.{bytes_whole}
use Rattle.fx_machine.proofs.state.State.pushb.Goals as goal

pub returns : goal.returns
returns c = bytes_whole c.args.bytes.now c.args.address c.args.opcode _ _ _ _ c.requires.opcode c.requires.first c.requires.last
    (omega arith) (grind arith) c.push_bytes.ensures

use Rattle.std.proofs.lemmas.List.{take_rest}
use Rattle.fx_machine.specs.Blocks.{sizes_in}
use Rattle.fx_machine.proofs.BlockMachines.{parts_are}
use Rattle.fx_machine.proofs.block.parts_of.Goals as goal

pub returns : goal.returns
returns c =
    let front = rw (take_rest c.args.words.now 20) at c.split_at.ensures.front in
    let back = rw (take_rest c.args.words.now 20) at c.split_at.ensures.back in
    parts_are (sizes_in c.args.words.now) c.args.words.now _ _ _ _ _ _ _ _ _ front back c.split_at-2.ensures.front
    c.split_at-2.ensures.back c.split_at-3.ensures.front c.split_at-3.ensures.back c.split_at-4.ensures.front
    c.split_at-4.ensures.back c.split_at-5.ensures.front

use Rattle.fx_machine.proofs.BlockMachines.{twilight_said}
use Rattle.fx_machine.proofs.prepared.Prepared.of_parts.Goals as goal

pub zone_of-requires : goal.zone_of-requires
zone_of-requires c = twilight_said c.args.sizes c.args.words.now c.parts_of-parts.result.twilight.now c.requires.said
    c.parts_of-parts.ensures.twilight_is

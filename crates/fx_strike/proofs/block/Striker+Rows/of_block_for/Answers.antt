use Rattle.fx_strike.proofs.BlockSettings.{for_opened}
use Rattle.fx_strike.proofs.block.Striker+Rows.of_block_for.Goals as goal

pub returns-clause-setting : goal.returns-clause-setting
returns-clause-setting c = λ s e b.
    c.in_ok-striker_in.ensures.setting s
    (for_opened c.args.font.now c.args.ppem c.args.chars.now c.args.mode c.in_ok-opened.opened s c.in_ok-opened.ensures.due e) b

use Rattle.std.proofs.Common.{arith}
use Rattle.std.proofs.Common.{◌≡◌, ap, Some}
use Rattle.fx_strike.proofs.BlockSettings.{setting_parts}
use Rattle.fx_strike.proofs.block.striker_in.Goals as goal

pub returns-in_default-clause-setting : goal.returns-in_default-clause-setting
returns-in_default-clause-setting c = grind (arith, c.in_default.is, c.in_ok-hinter.ensures.taken, setting_parts)

pub returns-clause-setting : goal.returns-clause-setting
returns-clause-setting c = λ s e b.
    let p = setting_parts c.args.opened c.args.mode s e in
    let h : c.in-Some.hinter ≡ s.machine =
    cc (c.in-Some.is, c.in_ok-hinter.ensures.taken s.machine c.args.mode.careful p.machine b) in
    rw (c.with.ensures, c.of-basis.ensures, h) (ap Some p.setting)

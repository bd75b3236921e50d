use Rattle.std.proofs.Common.{sym}
use Rattle.fx_strike.proofs.Mapping.{chars_pass}
use Rattle.fx_strike.proofs.striker.Striker.bound_for.Goals as goal

pub bound_chars-requires : goal.bound_chars-requires
bound_chars-requires g c = chars_pass c.args.chars.now (sym c.requires)

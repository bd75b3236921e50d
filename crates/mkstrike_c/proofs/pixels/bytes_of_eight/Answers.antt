use Rattle.std.proofs.Common.{◌+◌}
use Rattle.mkstrike_c.proofs.Fours.{upper_four, lower_four, each_by_fours}
use Rattle.mkstrike_c.proofs.pixels.bytes_of_eight.Goals as goal

pub returns : goal.returns
returns c =
    λ row k e. each_by_fours row k c.bytes_of_four.result.now c.bytes_of_four-2.result.now
    (c.bytes_of_four.ensures row k (upper_four row k c.args.eight e))
    (c.bytes_of_four-2.ensures row (k + 4) (lower_four row k c.args.eight e))

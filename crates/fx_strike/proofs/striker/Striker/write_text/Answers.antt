use Rattle.std.proofs.Common.{rules}
use Rattle.fx_strike.proofs.Lines.{writes_closed}
use Rattle.fx_strike.proofs.striker.Striker.write_text.Goals as goal

pub returns-clause-lines : goal.returns-clause-lines
returns-clause-lines g c lines h =
    writes_closed c.new-text.ensures (c.write_parts-result.ensures.lines lines h) c.write_parts-result.ensures.ended
    (search rules) (search rules)

use Rattle.std.proofs.Common.{rules}
use Rattle.fx_cli.proofs.Telling.{begun_told, tells_same}
use Rattle.fx_cli.proofs.start.unread.Goals as goal

pub returns-clause-line : goal.returns-clause-line
returns-clause-line g c =
    let same = tells_same c.status-status.ensures.line in
    begun_told c.new-teller.ensures c.unread_outcome.ensures c.status-status.ensures.line (search rules) (search rules)

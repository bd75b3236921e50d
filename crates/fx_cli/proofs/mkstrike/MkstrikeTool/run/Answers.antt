use Rattle.std.proofs.Common.{◌<◌, arith, length, rules}
use Rattle.fx_fixed.specs.Changes.{change_of}
use Rattle.fx_arguments.specs.Arguments.{texts}
use Rattle.fx_cli.specs.Runs.{Ends}
use Rattle.fx_cli.specs.Steps.{Telling}
use Rattle.fx_cli.proofs.FirstLines.{all_ends, many_arguments}
use Rattle.fx_cli.proofs.Made.{told_as}
use Rattle.fx_cli.proofs.Telling.{heard_same, runs_known, tells_same}
use Rattle.fx_cli.proofs.mkstrike.MkstrikeTool.run.Goals as goal
use Rattle.fx_cli.proofs.mkstrike.MkstrikeTool.run.Goals.{then-words-lt2, else-words-lt2}

pub returns-clause-ran : goal.returns-clause-ran
returns-clause-ran g c =
    let words = c.args.parts.now.words.items in
    let told : Telling c.new-teller.result c.if-words-lt2.teller (λ notices. Ends (texts words)
    (change_of g.R.Source.left g.R.Source.fault_count c.args.reader.now c.if-words-lt2.reader)
    (change_of g.O.Sink.held g.O.Sink.fault_count c.args.out.now c.if-words-lt2.out) notices
    (record { font = c.end.result.font; names_all = c.new-watch.result.names_all }) c.if-words-lt2.outcome)
    = elim c.if-words-lt2.branch [
      | then-words-lt2 w ↦ rw (c.end.ensures.font, w.reader-is, w.out-is, w.teller-is, w.outcome-is, w.watch-is)
          (rw (c.as_slice-words.ensures.value, w.read_line_and_do-outcome.ensures.names) at w.read_line_and_do-outcome.ensures.ends)
      | else-words-lt2 w ↦
          let many : 1 < length words = omega (arith, rw c.as_slice-words.ensures.value at w.if-words-lt2.false) in
          rw (c.end.ensures.font, w.reader-is, w.out-is, w.teller-is, w.outcome-is, w.watch-is)
          (told_as (rw (c.as_slice-words.ensures.value, w.none-ahead.ensures, w.read_and_do-outcome.ensures.names)
          at w.read_and_do-outcome.ensures.ends)
          (λ notices ends. all_ends (texts words) _ _ notices _ (many_arguments words many) _ ends))
    ] in
    let one = heard_same told.notices _ _ told.heard in
    let two = tells_same c.status-status.ensures.line in
    runs_known c.if-words-lt2.outcome c.new-teller.ensures (rw c.new-watch.ensures at told) c.status-status.ensures.line
    c.status-status.ensures.status (search rules) (search rules) c.end.ensures.known

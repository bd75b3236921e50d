use Rattle.std.proofs.Common.{ap, Err}
use Rattle.fx_strike.specs.Title.{title_of}
use Rattle.mkstrike_c.proofs.Requested.{opened_if_made}
use Rattle.mkstrike_c.proofs.making.text_in.Goals as goal

pub returns-in-Err-WriteFailed-clause-refused : goal.returns-in-Err-WriteFailed-clause-refused
returns-in-Err-WriteFailed-clause-refused c =
    let w = c.in-Err-WriteFailed.ensures.writer c.in-Err-WriteFailed.field-0-0 (ap Err c.in-Err-WriteFailed.field-0-is) in (
      tt,
      λ m. opened_if_made c.args.font.now c.args.request.now.ppem (title_of c.args.request.now) c.args.request.now.chars.now
          c.args.request.now.mode c.args.request.now.on_refused w.begun.plan w.begun.is,
    )

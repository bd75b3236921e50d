use Rattle.fx_trace.specs.Lines.{begin_text}
use Rattle.fx_trace.proofs.Texts.{says_then}
use Rattle.fx_trace.proofs.line.add_begin.Goals as goal

pub returns : goal.returns
unfolding begin_text
returns g c =
    says_then c.add_program.ensures (says_then c.add.ensures (says_then c.add_purpose.ensures c.add-2.ensures))

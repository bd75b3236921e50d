use Rattle.fx_trace.specs.Lines.{line_text}
use Rattle.fx_trace.proofs.Texts.{says_then}
use Rattle.fx_trace.proofs.line.add_line.Goals as goal

pub returns : goal.returns
unfolding line_text
returns g c =
    let t = rw c.numbers.ensures.value at c.last.ensures in
    says_then c.add_program.ensures (says_then c.add.ensures (says_then c.add_instruction.ensures (says_then c.add-2.ensures
    (says_then (rw t at c.add_numbers.ensures) (says_then c.add_changes.ensures c.add-3.ensures)))))

use Rattle.fx_trace.specs.Lines.{component_text}
use Rattle.fx_trace.proofs.line.add_component.Goals as goal

pub returns : goal.returns
unfolding component_text
returns g c =
    rw (c.text.ensures.value, c.text-2.ensures.value, c.unsigned.ensures, c.unsigned-2.ensures, c.from.ensures, c.from-2.ensures)
    at c.add.ensures

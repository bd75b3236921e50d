use Rattle.fx_trace.specs.Changes.{point_change}
use Rattle.fx_trace.proofs.Texts.{says_then}
use Rattle.fx_trace.proofs.changes.add_point.Goals as goal

pub returns : goal.returns
unfolding point_change
returns g c =
    says_then (rw (c.coordinates_of.ensures, c.coordinates_of-2.ensures) at c.add_change.ensures)
    (says_then (rw (c.coordinates_of-3.ensures, c.coordinates_of-4.ensures) at c.add_change-2.ensures)
    (says_then (rw (c.bit_of.ensures, c.bit_of-2.ensures) at c.add_change-3.ensures)
    (says_then (rw (c.bit_of-3.ensures, c.bit_of-4.ensures) at c.add_change-4.ensures)
    (rw (c.bit_of-5.ensures, c.bit_of-6.ensures) at c.add_change-5.ensures))))

use Rattle.fx_trace.specs.Snapshots.{changes_text}
use Rattle.fx_trace.proofs.Texts.{says_then}
use Rattle.fx_trace.proofs.changes.add_changes.Goals as goal

pub returns : goal.returns
unfolding changes_text
returns g c =
    rw (← c.was.view_is) (says_then (rw (c.deref.ensures.value, c.points.ensures) at c.add_points.ensures)
    (says_then (rw (c.deref-2.ensures.value, c.points-2.ensures) at c.add_points-2.ensures)
    (says_then (rw (c.deref-3.ensures.value, c.numbers.ensures, c.storage.ensures) at c.add_cells.ensures)
    (says_then (rw (c.deref-4.ensures.value, c.numbers-2.ensures, c.controls.ensures) at c.add_cells-2.ensures)
    (rw (c.settings_of.ensures, c.settings_of-2.ensures) at c.add_settings.ensures)))))

use Rattle.std.proofs.Common.{ap, arith, length}
use Rattle.fx_views.specs.Outlines.{advance_line}
use Rattle.fx_strike.proofs.Exits.{came}
use Rattle.fx_views.proofs.OutlineLines.{few_all, few_begin, few_then}
use Rattle.fx_views.proofs.outline_text.add_outline.Goals as goal

pub returns-in_err-add_points-in-Some : goal.returns-in_err-add_points-in-Some
returns-in_err-add_points-in-Some g c =
    rw (came c.from_residual.result c.from_residual.ensures.1, c.in-Some.is)
    (few_begin (advance_line c.in-Some.made.advance)
    (omega (arith, c.in-Some.made.outline.few, ap length c.deref.ensures.value))
    (rw (c.deref.ensures.value, c.deref-in-Some.ensures.value)) c.in_err-add_points-in-Some.ensures)

pub returns-in_ok-add_points-in-Some : goal.returns-in_ok-add_points-in-Some
returns-in_ok-add_points-in-Some g c =
    rw c.in-Some.is
    (few_then c.add_advance.result (omega (arith, c.in-Some.made.outline.few, ap length c.deref.ensures.value))
    (rw (c.deref.ensures.value, c.deref-in-Some.ensures.value)) c.in_ok-add_points-in-Some.ensures
    (few_all c.add_advance.ensures.text c.add_advance.ensures.short))

use Rattle.std.proofs.Common.{◌≡◌, ◌≤◌, take}
use Rattle.fx_views.specs.Outlines.{contour_at}
use Rattle.fx_views.proofs.outline_text.contour_at.Given as goal

-- as many of the ends before this one lie before the point
abbrev pub invariant-ends : goal.invariant-ends
invariant-ends l = record {
  count : l.contour ≡ contour_at (take l.last-index l.ends) l.number;
  few : l.contour ≤ l.last-index;
}

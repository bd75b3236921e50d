use Rattle.std.proofs.Common.{◌≤◌, length, vec_capacity}
use Rattle.fx_contour.proofs.Gather.{PiecesMade}
use Rattle.fx_contour.proofs.curves.pieces_in_reach.Given as goal

abbrev pub invariant-contours : goal.invariant-contours
invariant-contours l = record {
  gathered : PiecesMade l.made.items l.start l.outline.ends.items l.end-index l.outline.points.items;
  room : length l.outline.points.items ≤ vec_capacity l.made;
}

use Rattle.std.proofs.Common.{◌≡◌}
use Rattle.fx_between.specs.Contours.{first_of, contours_filled}
use Rattle.fx_between.proofs.contours.fill_contours.Given as goal

abbrev pub invariant-contours : goal.invariant-contours
invariant-contours g l = record {
  answer : l.points ≡ contours_filled (g.R.Rule.is_named l.rule) (g.R.Rule.between l.rule) l.ends l.end-index l.initial.points;
  begins : l.first ≡ first_of l.ends l.end-index;
}

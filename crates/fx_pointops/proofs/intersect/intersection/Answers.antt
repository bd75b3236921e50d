use Rattle.std.proofs.Common.{rules, arith}
use Rattle.std.proofs.lemmas.Grind.{common_steps}
use Rattle.fx_pointops.specs.Intersect.{intersection_of}
use Rattle.fx_pointops.proofs.intersect.intersection.Goals as goal

pub returns-then-cross-eq0 : goal.returns-then-cross-eq0
unfolding intersection_of
returns-then-cross-eq0 c = search rules

pub returns-else-cross-eq0 : goal.returns-else-cross-eq0
unfolding intersection_of
returns-else-cross-eq0 c = grind (arith, common_steps)

use Rattle.std.proofs.Common.{◌∙◌, sym, arith, rules}
use Rattle.fx_strike.proofs.Weighing.{all_over, below_on, over_more, over_same}
use Rattle.fx_strike.proofs.striker.Striker.census.Goals.{then-branch+in_ok-push, else-branch}
use Rattle.fx_strike.proofs.striker.Striker.census.Goals as goal

pub mapped-preserved : goal.mapped-preserved
mapped-preserved g c =
    elim c.if-branch.branch [
      | then-branch+in_ok-push w ↦ record {
        kept = (c.in_ok-weigh.ensures).kept ∙ c.mapped.invariant.kept;
        found = rw (w.over-is, w.in_ok-push.ensures) (over_more _ _ c.args.mapped.now _ c.mapped.m-index c.mapped.over
            c.mapped.budget c.weigh.new.budget c.mapped-test.true c.mapped.invariant.found
            (rw (c.mapped.invariant.kept, w.if-branch.true) at (c.in_ok-weigh.ensures).weighed));
        below = λ j p l. rw (w.over-is, w.in_ok-push.ensures) (below_on c.mapped.over _ _
            (c.mapped.invariant.below j (omega (arith, p)) l) (c.requires.rise c.mapped.m-index j (omega (arith, p)) l));
      }
      | else-branch w ↦ record {
        kept = (c.in_ok-weigh.ensures).kept ∙ c.mapped.invariant.kept;
        found = rw w.over-is (over_same _ _ c.args.mapped.now _ c.mapped.m-index c.mapped.over
            c.mapped.budget c.weigh.new.budget c.mapped-test.true c.mapped.invariant.found
            (rw (c.mapped.invariant.kept, w.if-branch.false) at (c.in_ok-weigh.ensures).weighed));
        below = λ j p l. rw w.over-is (c.mapped.invariant.below j (omega (arith, p)) l);
      }
    ]

pub returns-clause-over : goal.returns-clause-over
returns-clause-over g c =
    sym (all_over _ _ c.args.mapped.now _ c.mapped.m-index c.mapped.over c.mapped.budget (search rules) c.mapped.invariant.found)

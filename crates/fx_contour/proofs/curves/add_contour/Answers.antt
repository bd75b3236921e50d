use Rattle.std.proofs.Common.{◌∙◌, append-nil, arith}
use Rattle.std.proofs.lemmas.List.{drop_all}
use Rattle.fx_contour.proofs.Walk.{added, walk_init, walk_more, item_near}
use Rattle.fx_contour.proofs.curves.add_contour.Goals as goal

pub points-init : goal.points-init
points-init c = grind (arith, c.requires.near, c.index-points-0.is, c.index-points-points.is, c.joint-from.ensures, walk_init)

pub points-preserved : goal.points-preserved
points-preserved c = record {
  walked = walk_more c.points.made.items c.push_some.new.made.items c.args.made.now.items c.args.points.now c.points.i
      c.points.before.now c.points.here.now c.index-points-i.result c.index-points-0.result _
      c.step_at-step.result.piece (omega arith)
      c.index-points-i.is c.step_at-step.ensures.piece c.push_some.ensures.items
      (item_near c.args.points.now c.points.i c.index-points-i.result _ c.requires.near (omega arith) c.index-points-i.is)
      c.points.invariant.walked;
  room = c.push_some.ensures.room ∙ c.points.invariant.room;
  from = c.step_at-step.ensures.to;
}

pub returns-clause-spans : goal.returns-clause-spans
returns-clause-spans c =
    let last = added c.points.made.items c.push_some-2.new.made.items _ _ c.step_at.ensures.piece c.push_some-2.ensures.items in
    last ∙ (rw (drop_all c.points.i c.args.points.now c.points-test.false, append-nil) at c.points.invariant.walked.spans)

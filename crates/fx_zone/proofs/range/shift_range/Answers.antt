use Rattle.std.proofs.Common.{arith, not, true, false, sym, ap, ◌∙◌}
use Rattle.fx_zone.specs.Figures.{in_range_without}
use Rattle.fx_zone.specs.Points.{shifted}
use Rattle.fx_zone.proofs.Changing.{without_chooses, without_inside, range_begun, range_step, range_skip, range_whole}
use Rattle.fx_zone.proofs.range.shift_range.Goals as goal
use Rattle.fx_zone.proofs.range.shift_range.Goals.{then-not-is_number, else-not-is_number}

pub range-init : goal.range-init
range-init c = range_begun _ _ _ _ _ (without_chooses c.args.range)

pub range-preserved : goal.range-preserved
range-preserved c = elim c.if-not-is_number.branch [
  | then-not-is_number w ↦ w.points-is
      ∙ range_step (in_range_without c.args.range) (shifted c.args.shift)
      c.range.number c.args.points.now c.range.points w.index-points-number.result w.shift.new.self c.range.invariant (omega arith)
      (without_inside c.args.range c.range.number true (omega arith) (omega arith)
      (ap not (sym c.is_number.ensures ∙ w.if-not-is_number.true))) w.index-points-number.is
      (w.shift.ensures ∙ ap (shifted c.args.shift) (sym w.index-points-number.is))
  | else-not-is_number w ↦ w.points-is
      ∙ range_skip (in_range_without c.args.range) (shifted c.args.shift)
      c.range.number c.args.points.now c.range.points c.range.invariant
      (without_inside c.args.range c.range.number false (omega arith) (omega arith)
      (ap not (sym c.is_number.ensures ∙ w.if-not-is_number.false)))
]

pub returns : goal.returns
returns c = range_whole _ _ _ _ _ _ _ c.range.invariant (without_chooses c.args.range) (omega arith)

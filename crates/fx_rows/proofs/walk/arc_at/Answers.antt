use Rattle.std.proofs.Common.{pos, ◌+ℤ◌}
use Rattle.fx_winding.specs.Winding.{span_of}
use Rattle.fx_rows.proofs.Walks.{sided, step_next, step_up, column_place, within_spot}
use Rattle.fx_rows.proofs.walk.arc_at.Goals as goal

pub returns : goal.returns
returns c =
    let s = c.args.piece.now in
    let across = c.across_of.ensures in
    let up = c.up_of.ensures in
    record {
      arc = record {
        bent = c.requires.bent.1;
        turned = c.requires.right;
        next = step_next s c.args.b c.across_of.result c.turned_areas.result c.requires.bent.0 across.u across.v across.w
            c.turned_areas.ensures;
        up = step_up s c.args.b c.up_of.result c.turned_areas-2.result c.requires.bent.0 up.u up.v up.w c.turned_areas-2.ensures;
        misses = c.may_touch.ensures (span_of s) (c.args.strip.base +ℤ pos c.args.k) c.args.strip.row c.requires.areas;
      };
      spot = record {
        slanted = c.requires.slanted;
        areas = sided (span_of s) _ _ c.args.areas c.turned_areas-3.result c.requires.areas c.turned_areas-3.ensures
            (column_place c.args.strip c.args.k);
        within = within_spot c.args.strip c.args.k c.requires.within;
      };
    }

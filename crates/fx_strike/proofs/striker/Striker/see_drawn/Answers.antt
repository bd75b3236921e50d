use Rattle.std.proofs.Common.{sym, ◌∙◌}
use Rattle.fx_strike.proofs.Keeping.{keeps_full}
use Rattle.fx_strike.proofs.Enclosed.{has_added, skipped}
use Rattle.fx_strike.proofs.striker.Striker.see_drawn.Goals as goal

pub returns-then-lies_in-clause-seen : goal.returns-then-lies_in-clause-seen
returns-then-lies_in-clause-seen g c =
    has_added (skipped c.args.sketch.now c.args.seen.now.bounds
    (rw (← c.sketch.view_is) (rw c.region_of.ensures at (c.lies_in.ensures c.if-lies_in.true)))
    c.requires.seen.placed c.requires.drawable) c.add.ensures
    (keeps_full c.args.kept.now (sym c.is_full.ensures ∙ c.if-is_full.true))

pub returns-clause-seen : goal.returns-clause-seen
returns-clause-seen g c =
    let bounds = rw c.bounds.ensures.value at c.joined-joined.ensures.value in
    has_added (_, (c.in_ok-made.ensures).glyph, bounds, c.joined-joined.ensures.placed) c.add-2.ensures c.keep.ensures

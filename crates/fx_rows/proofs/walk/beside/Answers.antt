use Rattle.fx_winding.specs.Winding.{span_of}
use Rattle.fx_rows.specs.inner.Sides.{place_at}
use Rattle.fx_rows.specs.inner.Walks.{right_of}
use Rattle.fx_rows.proofs.Walks.{after_step, small_after, near_column, near_row, within_spot}
use Rattle.fx_rows.proofs.walk.beside.Goals as goal

pub after-requires : goal.after-requires
after-requires c =
    let base = place_at c.args.strip 0 in
    small_after c.args.piece.now (right_of base c.args.spot.k) (right_of base c.args.k) c.args.spot.areas c.args.step
    c.requires.at.areas c.requires.step (near_column c.args.strip c.args.k c.requires.within)
    (near_row c.args.strip)

pub returns-clause-at : goal.returns-clause-at
returns-clause-at c =
    let base = place_at c.args.strip 0 in
    record {
      slanted = c.requires.at.slanted;
      areas = after_step (span_of c.args.piece.now) (right_of base c.args.spot.k) (right_of base c.args.k) c.args.spot.areas
          c.args.step c.after.result c.requires.at.areas c.requires.step c.after.ensures;
      within = within_spot c.args.strip c.args.k c.requires.within;
    }

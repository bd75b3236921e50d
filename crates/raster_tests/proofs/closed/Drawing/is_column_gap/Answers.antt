use Rattle.std.proofs.Common.{◌∙◌, ap, refl, map}
use Rattle.fx_dropout.specs.declared.chooser.Closing.TheVariants.{Lower}
use Rattle.fx_dropout.specs.Dropout.{IsRowSet}
use Rattle.fx_winding.specs.Turned.{turned_place}
use Rattle.fx_winding.specs.Winding.{span_of, centre}
use Rattle.fx_winding.proofs.Places.{no}
use Rattle.raster_tests.proofs.Bridged.{moved, met_at, none}
use Rattle.raster_tests.proofs.closed.Drawing.is_column_gap.Goals as goal

pub returns-then-not-any_meets : goal.returns-then-not-any_meets
returns-then-not-any_meets c =
    let met = met_at c.any_meets.result (c.turned-here.ensures ∙ ap turned_place c.centre.ensures)
    (c.turned.ensures ∙ ap turned_place c.centre-2.ensures
    ∙ (λ t. centre (c.above-next.ensures.row t) (c.above-next.ensures.col t)))
    (ap (map span_of) c.as_slice.ensures.value ∙ c.args.self.now.columns) c.any_meets.ensures in
    no (λ g. none c.any_meets.result c.if-not-any_meets.true met g.met)

pub returns-then-is_row_set : goal.returns-then-is_row_set
returns-then-is_row_set c = no (λ g. g.here (c.is_row_set.ensures.0 c.if-is_row_set.true))

pub returns-then-is_row_set-2 : goal.returns-then-is_row_set-2
returns-then-is_row_set-2 c =
    let next = moved (IsRowSet Lower (map span_of c.args.self.now.pieces.now) c.args.self.now.frame) c.is_row_set-2.result
    c.above-next.ensures.col c.above-next.ensures.row c.is_row_set-2.ensures in
    no (λ g. g.next (next.0 c.if-is_row_set-2.true))

pub returns : goal.returns
returns c =
    let met = met_at c.any_meets.result (c.turned-here.ensures ∙ ap turned_place c.centre.ensures)
    (c.turned.ensures ∙ ap turned_place c.centre-2.ensures
    ∙ (λ t. centre (c.above-next.ensures.row t) (c.above-next.ensures.col t)))
    (ap (map span_of) c.as_slice.ensures.value ∙ c.args.self.now.columns) c.any_meets.ensures in
    let next = moved (IsRowSet Lower (map span_of c.args.self.now.pieces.now) c.args.self.now.frame) c.is_row_set-2.result
    c.above-next.ensures.col c.above-next.ensures.row c.is_row_set-2.ensures in (
      λ t. record {
        here = none c.is_row_set.result c.if-is_row_set.false c.is_row_set.ensures;
        next = none c.is_row_set-2.result c.if-is_row_set-2.false next;
        met = met.0 c.if-not-any_meets.false;
      },
      λ g. refl,
    )

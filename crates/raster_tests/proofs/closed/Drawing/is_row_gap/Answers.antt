use Rattle.std.proofs.Common.{◌∙◌, ap, refl, map}
use Rattle.fx_winding.specs.Winding.{span_of, centre, IsCovered}
use Rattle.fx_winding.proofs.Places.{no}
use Rattle.raster_tests.proofs.Bridged.{moved, met_at, none}
use Rattle.raster_tests.proofs.closed.Drawing.is_row_gap.Goals as goal

pub returns-then-not-any_meets : goal.returns-then-not-any_meets
returns-then-not-any_meets c =
    let met = met_at c.any_meets.result c.centre.ensures
    (c.centre-2.ensures ∙ (λ t. centre (c.right-next.ensures.col t) (c.right-next.ensures.row t)))
    (ap (map span_of) c.as_slice.ensures.value) c.any_meets.ensures in
    no (λ g. none c.any_meets.result c.if-not-any_meets.true met g.met)

pub returns-then-is_covered-2 : goal.returns-then-is_covered-2
returns-then-is_covered-2 c =
    let next = moved (λ i j. IsCovered (centre i j) (map span_of c.args.self.now.pieces.now)) c.is_covered-2.result
    c.right-next.ensures.col c.right-next.ensures.row c.is_covered-2.ensures in
    no (λ g. g.next (next.0 c.if-is_covered-2.true))

pub returns : goal.returns
returns c =
    let ss = map span_of c.args.self.now.pieces.now in
    let met = met_at c.any_meets.result c.centre.ensures
    (c.centre-2.ensures ∙ (λ t. centre (c.right-next.ensures.col t) (c.right-next.ensures.row t)))
    (ap (map span_of) c.as_slice.ensures.value) c.any_meets.ensures in
    let next = moved (λ i j. IsCovered (centre i j) ss) c.is_covered-2.result c.right-next.ensures.col c.right-next.ensures.row
    c.is_covered-2.ensures in (
      λ t. record {
        here = none c.is_covered.result c.if-is_covered.false c.is_covered.ensures;
        next = none c.is_covered-2.result c.if-is_covered-2.false next;
        met = met.0 c.if-not-any_meets.false;
      },
      λ g. refl,
    )

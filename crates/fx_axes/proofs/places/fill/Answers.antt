use Rattle.std.proofs.Common.{◌<◌, ◌≤◌, ℕ, length, set, sym, ap, ◌∙◌, subst, arith}
use Rattle.std.specs.Prelude.{option_map}
use Rattle.std.proofs.lemmas.Result.{err_from_is_err_and}
use Rattle.fx_axes.specs.Fvar.{axis_count}
use Rattle.fx_axes.specs.Places.{coordinate_of}
use Rattle.fx_axes.proofs.Inside.{along, axis_inside}
use Rattle.fx_axes.proofs.Filling.{filled_on, filled_off, filled_end, first_of_maps, maps_of_others, within_on, within_end}
use Rattle.fx_axes.proofs.places.fill.Goals as goal

pub axis_in-axis-requires-clause-inside : goal.axis_in-axis-requires-clause-inside
axis_in-axis-requires-clause-inside c =
    axis_inside c.args.fvar.now c.axes.k c.requires.records (along _ _ _ c.axes-test.true c.axis_count-count.ensures)

pub coordinate_of-requires : goal.coordinate_of-requires
coordinate_of-requires c = record {
  valid = first_of_maps c.axes.k (axis_count c.args.fvar.now) _
      (along _ _ _ c.axes-test.true c.axis_count-count.ensures) c.axes.invariant.valid;
}

pub others-maps-requires : goal.others-maps-requires
others-maps-requires c = record {
  valid = first_of_maps c.axes.k (axis_count c.args.fvar.now) _
      (along _ _ _ c.axes-test.true c.axis_count-count.ensures) c.axes.invariant.valid;
}

pub put-requires : goal.put-requires
put-requires c =
    omega (arith, c.from.ensures, c.axes-test.true, c.axis_count-count.ensures, c.axes.auto.coordinates, c.requires.size)

pub returns-in_err-c-clause-value : goal.returns-in_err-c-clause-value
returns-in_err-c-clause-value c =
    let p = err_from_is_err_and c.from_residual.result c.from_residual.ensures.1 in
    rw (p.1, p.2) (filled_off _ _ _ _ _ _ _ (along _ _ _ c.axes-test.true c.axis_count-count.ensures) c.axes.invariant.same _
    (ap (coordinate_of c.args.values.now (option_map (λ m. m.now) c.axes.maps)) (sym c.axis_in-axis.ensures)
    ∙ sym c.in_err-c.ensures.value))

pub axes-preserved : goal.axes-preserved
axes-preserved c =
    let few = along _ _ _ c.axes-test.true c.axis_count-count.ensures in
    let room : c.axes.k < length c.axes.coordinates = omega (arith, few, c.axes.auto.coordinates, c.requires.size) in
    record {
      same = filled_on _ _ _ _ _ _ _ few c.axes.invariant.same _ _ _
          (ap (coordinate_of c.args.values.now (option_map (λ m. m.now) c.axes.maps)) (sym c.axis_in-axis.ensures)
          ∙ sym c.in_ok-c.ensures.value)
          room (c.put.ensures ∙ ap (λ n. set c.axes.coordinates n c.in_ok-c.c) c.from.ensures) c.others-maps.ensures;
      valid = maps_of_others _ _ _ _ few c.axes.invariant.valid c.others-maps.ensures;
      within = within_on _ _ c.axes.k c.in_ok-c.c room
          (c.put.ensures ∙ ap (λ n. set c.axes.coordinates n c.in_ok-c.c) c.from.ensures)
          c.axes.invariant.within c.in_ok-c.ensures.within;
    }

pub returns-clause-value : goal.returns-clause-value
returns-clause-value c =
    let P : ℕ → Type 0 = λ n. n ≤ c.axes.k in
    let past = subst P c.axis_count-count.ensures c.axes-test.false in
    filled_end _ _ _ _ _ _ _ past (c.axes.auto.coordinates ∙ c.requires.size) c.axes.invariant.same

pub returns-clause-within : goal.returns-clause-within
returns-clause-within c =
    let P : ℕ → Type 0 = λ n. n ≤ c.axes.k in
    let past = subst P c.axis_count-count.ensures c.axes-test.false in
    within_end _ c.axes.k _ past (c.axes.auto.coordinates ∙ c.requires.size) c.axes.invariant.within

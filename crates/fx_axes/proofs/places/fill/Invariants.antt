use Rattle.std.proofs.Common.{◌≡◌, ◌-◌, ◌++◌, take}
use Rattle.std.specs.Prelude.{option_map}
use Rattle.std.specs.List.{All}
use Rattle.fx_fixed.specs.Chain.{map_ok}
use Rattle.fx_axes.specs.Fvar.{axis_count}
use Rattle.fx_axes.specs.Avar.{AreMaps}
use Rattle.fx_axes.specs.Places.{IsNormalized, coordinates_from}
use Rattle.fx_axes.proofs.places.fill.Given as goal

-- the coordinates of the axes before k are there and within -1 and 1, and the maps are those of the others
abbrev pub invariant-axes : goal.invariant-axes
invariant-axes l = record {
  same : map_ok (λ cs. take l.k l.coordinates ++ cs)
      (coordinates_from l.fvar l.values (option_map (λ m. m.now) l.maps) l.k (axis_count l.fvar - l.k))
      ≡ coordinates_from l.fvar l.values (option_map (λ m. m.now) l.initial.maps) 0 (axis_count l.fvar);
  valid : AreMaps (axis_count l.fvar - l.k) (option_map (λ m. m.now) l.maps);
  within : All IsNormalized (take l.k l.coordinates);
}

use Rattle.std.proofs.Common.{sym, ap, ◌∙◌}
use Rattle.fx_axes.proofs.Maps.{maps_on, maps_off, maps_end}
use Rattle.std.proofs.Common.{ℕ, drop}
use Rattle.fx_axes.proofs.avar.are_maps.Goals as goal

pub returns-then-not-is_map : goal.returns-then-not-is_map
returns-then-not-is_map c = maps_off _ _ _ _ c.maps-test.true (sym c.is_map.ensures.value ∙ c.if-not-is_map.true) c.maps.invariant

pub maps-preserved : goal.maps-preserved
maps-preserved c =
    maps_on _ _ _ _ _ c.maps-test.true (sym c.is_map.ensures.value ∙ c.if-not-is_map.false)
    (c.after-rest.ensures ∙ ap (λ (n : ℕ). drop n c.maps.rest.now) c.map_size-size.ensures) c.maps.invariant

pub returns : goal.returns
returns c = maps_end _ _ _ _ c.maps-test.false c.maps.invariant

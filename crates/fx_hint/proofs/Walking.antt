-- What the walk makes of a simple glyph within the limits is what the definition makes of it: `simple_is`.
-- For the walk over components.
use Rattle.std.proofs.Common.{◌≡◌, ℕ, length, Bool, sym, ap, ◌∙◌, None, Result, Ok}
use Rattle.std.proofs.lemmas.List.{length-map}
use Rattle.fx_fixed.specs.Chain.{◌>>=◌}
use Rattle.fx_vary.specs.declared.metrics.Bearings.{Bearings}
use Rattle.fx_glyf.specs.Shapes.{SimpleView}
use Rattle.fx_zone.specs.Figures.{Figure}
use Rattle.fx_scale.specs.declared.scale.Scale.{Scale}
use Rattle.fx_scale.specs.declared.phantom.PhantomPoints.{PhantomPoints}
use Rattle.fx_scale.specs.Phantoms.{phantoms_from}
use Rattle.fx_scale.specs.Zones.{scaled_point, zone_of_simple}
use Rattle.fx_hint.specs.declared.count.Count.{Count}
use Rattle.fx_hint.specs.declared.fault.HintFault.{HintFault}
use Rattle.fx_hint.specs.Outlines.{more_points, simple_made}

pub simple_is : (s : Scale) (hinted : Bool) (root : ℕ) (m : Bearings) (shape : SimpleView) (count counted : Count) (zone : Figure)
    (n : ℕ) (phantoms : PhantomPoints) → zone ≡ zone_of_simple s shape → n ≡ length zone.points
    → more_points root n count ≡ Ok counted → phantoms ≡ phantoms_from s hinted m.origin m.advance
    → simple_made s hinted root m shape count ≡ Ok (record { zone = zone; phantoms = phantoms; wish = None }, counted)
unfolding simple_made
simple_is s hinted root m shape count counted zone n phantoms z l r p =
    let same : length shape.points ≡ n =
    sym (l ∙ ap (λ (f : Figure). length f.points) z ∙ length-map shape.points (scaled_point s)) in
    let taken : more_points root (length shape.points) count ≡ Ok counted = ap (λ k. more_points root k count) same ∙ r in
    rw (z, p) (ap (λ (q : Result Count HintFault). q >>= λ counted. Ok
    (record { zone = zone_of_simple s shape; phantoms = phantoms_from s hinted m.origin m.advance; wish = None }, counted)) taken)

-- A composite with one component more has the points of both: `component_adds_points`.
-- For the walk over components: where one is joined to its composite, both have at most max_points points.
use Rattle.std.proofs.Common.{◌≡◌, ℕ, ◌+◌, List, [], ◌∷◌, ◌++◌, length, map, Bool, Ok, ap, ◌∙◌, subst}
use Rattle.std.proofs.Common.{arith, length-append}
use Rattle.std.proofs.lemmas.List.{length-map}
use Rattle.fx_fixed.proofs.Chain.{bind_ok, ok_injective}
use Rattle.fx_glyf.specs.declared.component.Component.{Component}
use Rattle.fx_scale.specs.declared.scale.Scale.{Scale}
use Rattle.fx_hint.specs.declared.made.Made.{Made}
use Rattle.fx_hint.specs.declared.below.Waiting.{Waiting}
use Rattle.fx_hint.specs.Placing.{laid, offset_of, with_component}
use Rattle.fx_hint.specs.inner.Standing.{over_waiting, points_waiting, begun_waiting}

with_one_more : (n : Waiting → ℕ) (ws : List Waiting) (w : Waiting)
    → over_waiting n (ws ++ w ∷ []) ≡ over_waiting n ws + n w
with_one_more n [] w = omega arith
with_one_more n (v ∷ ws) w = let e = with_one_more n ws w in omega (arith, e)

pub points_with_one_more : (ws : List Waiting) (w : Waiting)
    → points_waiting (ws ++ w ∷ []) ≡ points_waiting ws + length w.composite.base.zone.points
points_with_one_more ws w = with_one_more (λ v. length v.composite.base.zone.points) ws w

pub begun_with_one_more : (ws : List Waiting) (w : Waiting)
    → begun_waiting (ws ++ w ∷ []) ≡ begun_waiting ws + w.composite.before
begun_with_one_more ws w = with_one_more (λ v. v.composite.before) ws w

-- a composite with one component more has the points of both
pub component_adds_points : (s : Scale) (hinted : Bool) (g : ℕ) (component : Component) (base made more : Made)
    → with_component s hinted g component base made ≡ Ok more
    → length more.zone.points ≡ length base.zone.points + length made.zone.points
unfolding with_component
component_adds_points s hinted g component base made more h =
    let p = bind_ok (offset_of s hinted g component base.zone made.zone) _ more h in
    let n : length (map (laid component p.0) made.zone.points) ≡ length made.zone.points =
    length-map made.zone.points (laid component p.0) in
    let P : Made → Type 0 = λ m. length m.zone.points ≡ length base.zone.points + length made.zone.points in
    subst P (ok_injective _ _ p.2) (length-append base.zone.points _ ∙ ap (λ k. length base.zone.points + k) n)

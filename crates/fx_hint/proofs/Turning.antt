-- A component without a transformation leaves each place where it is: `turned_itself`.
-- For components without a transformation.
use Rattle.std.proofs.Common.{◌≡◌, ◌^◌, ℤ, pos, ◌+ℤ◌, ◌-ℤ◌, ◌*ℤ◌, unsigned_abs, FitsSigned, arith}
use Rattle.std.proofs.Common.{◌∙◌, ap, sym, refl, List, [], ◌∷◌, map}
use Rattle.std.proofs.lemmas.Int.{ints, int_wrap_fits, int_wrap-add_left}
use Rattle.std.specs.Int.{w32}
use Rattle.fx_fixed.specs.declared.places.Place.{Place}
use Rattle.fx_glyf.specs.declared.component.Component.{Component}
use Rattle.fx_fixed.specs.Numbers.{IsNear, near_of, wrapped_of, sum_of}
use Rattle.fx_fixed.proofs.Rounding.{same_near}
use Rattle.fx_zone.specs.declared.point.ZonePoint.{ZonePoint}
use Rattle.fx_zone.specs.Points.{resting, rested}
use Rattle.fx_zone.specs.Figures.{Figure, figure_rested}
use Rattle.fx_hint.specs.Placing.{weighted_of, turned, laid, laid_figure}
use Rattle.fx_hint.specs.inner.Plain.{IsPlain}

near_itself : (n x : ℤ) → n ≡ x *ℤ pos (2 ^ 14) → IsNear n (pos (2 ^ 14)) x
near_itself n x e =
    let none : unsigned_abs (n -ℤ x *ℤ pos (2 ^ 14)) ≡ 0 = omega (arith, ints) in
    record { nearest = omega (arith, none); half_away = λ h. absurd (omega (arith, none, h)) }

wrapped_near : (n x : ℤ) → n ≡ x *ℤ pos (2 ^ 14) → wrapped_of (near_of n (pos (2 ^ 14))) ≡ wrapped_of x
wrapped_near n x e =
    ap wrapped_of (sym (same_near n (pos (2 ^ 14)) x (λ h. absurd (omega (arith, ints, h))) (near_itself n x e)))

first_wrapped : (x y : ℤ) → weighted_of (pos (2 ^ 14)) x (pos 0) y ≡ wrapped_of x
first_wrapped x y = wrapped_near (x *ℤ pos (2 ^ 14) +ℤ y *ℤ pos 0) x (omega (arith, ints))

second_wrapped : (x y : ℤ) → weighted_of (pos 0) x (pos (2 ^ 14)) y ≡ wrapped_of y
second_wrapped x y = wrapped_near (x *ℤ pos 0 +ℤ y *ℤ pos (2 ^ 14)) y (omega (arith, ints))

wrapped_itself : (x : ℤ) → FitsSigned w32 x → wrapped_of x ≡ x
unfolding wrapped_of
wrapped_itself x f = int_wrap_fits w32 x f

turned_plain : (component : Component) (p : Place) → IsPlain component
    → turned component p ≡ record { x = wrapped_of p.x; y = wrapped_of p.y }
turned_plain component p h =
    rw (h.a_is, h.b_is, h.c_is, h.d_is) (ap (λ v. record { x = v; y = weighted_of (pos 0) p.x (pos (2 ^ 14)) p.y })
    (first_wrapped p.x p.y)
    ∙ ap (λ v. record { x = wrapped_of p.x; y = v }) (second_wrapped p.x p.y))

pub turned_itself : (component : Component) (place : Place) → IsPlain component → FitsSigned w32 place.x → FitsSigned w32 place.y
    → place ≡ turned component place
turned_itself component place h fx fy =
    sym (turned_plain component place h
    ∙ ap (λ v. record { x = v; y = wrapped_of place.y }) (wrapped_itself place.x fx)
    ∙ ap (λ v. record { x = place.x; y = v }) (wrapped_itself place.y fy))

-- a sum is wrapped once, whether or not its first component is
sum_wrapped : (x by : ℤ) → sum_of (wrapped_of x) by ≡ sum_of x by
unfolding wrapped_of
sum_wrapped x by = int_wrap-add_left w32 x by

laid_plain : (component : Component) (offset : Place) (p : ZonePoint) → IsPlain component
    → laid component offset p ≡ rested offset p
laid_plain component offset p h =
    ap (λ (q : Place). resting (record { x = sum_of q.x offset.x; y = sum_of q.y offset.y }) p.on) (turned_plain component p.cur h)
    ∙ ap (λ v. resting (record { x = v; y = sum_of (wrapped_of p.cur.y) offset.y }) p.on) (sum_wrapped p.cur.x offset.x)
    ∙ ap (λ v. resting (record { x = sum_of p.cur.x offset.x; y = v }) p.on) (sum_wrapped p.cur.y offset.y)

points_plain : (component : Component) (offset : Place) (ps : List ZonePoint) → IsPlain component
    → map (laid component offset) ps ≡ map (rested offset) ps
points_plain component offset [] h = refl
points_plain component offset (p ∷ ps) h =
    ap (λ (q : ZonePoint). q ∷ map (laid component offset) ps) (laid_plain component offset p h)
    ∙ ap (λ (qs : List ZonePoint). rested offset p ∷ qs) (points_plain component offset ps h)

-- all points of a component without a transformation are laid by one shift
pub figure_plain : (component : Component) (offset : Place) (f : Figure) → IsPlain component
    → figure_rested offset f ≡ laid_figure component offset f
figure_plain component offset f h =
    ap (λ (ps : List ZonePoint). record { points = ps; ends = f.ends }) (sym (points_plain component offset f.points h))

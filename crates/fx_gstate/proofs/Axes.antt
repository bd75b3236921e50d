-- Along an axis a projection is the coordinate (`on_x`, `on_y`), and a shift the distance (`shift_x`, `shift_y`).
-- Serves `Vector::project` and `shift_along`: their shortcuts for the axes.
use Rattle.std.proofs.Common.{◌≡◌, ◌≢◌, arith, ℤ, pos, ◌+ℤ◌, ◌*ℤ◌, FitsSigned, ◌^◌}
use Rattle.std.proofs.lemmas.Int.{ints}
use Rattle.std.specs.Int.{w32}
use Rattle.fx_fixed.proofs.Rounding.{same_near, same_wrapped}
use Rattle.fx_fixed.specs.Numbers.{IsNear, near_of, wrapped_of}
use Rattle.fx_fixed.specs.Places.{place_on}
use Rattle.fx_fixed.specs.declared.places.Axis.TheVariants.{X, Y}
use Rattle.fx_fixed.specs.declared.places.Place.{Place}
use Rattle.fx_gstate.specs.Vectors.{axis_of, projection_of, shift_part_of, shift_of}

-- a projection on an axis is the coordinate
pub on_axis : (d e r : ℤ) → FitsSigned w32 r → d +ℤ e ≡ r *ℤ pos 16384 → r ≡ wrapped_of (near_of (d +ℤ e) (pos (2 ^ 14)))
on_axis d e r f a =
    let near : IsNear (d +ℤ e) (pos 16384) r = record { nearest = omega (arith, ints); half_away = λ h. omega (arith, ints) } in
    let nonzero : pos 16384 ≢ pos 0 = λ (z : pos 16384 ≡ pos 0). omega (arith, ints, z) in
    rw (← same_near (d +ℤ e) (pos 16384) r nonzero near)
    (same_wrapped r r (record { fits = f; congruent = (pos 0, omega (arith, ints)) }))

-- ---- shifts

-- the shift along an axis on which distances are measured is the distance
pub along_axis : (d : ℤ) → FitsSigned w32 d → d ≡ shift_part_of d (pos 16384) (pos 268435456)
unfolding shift_part_of
along_axis d f =
    let near : IsNear (d *ℤ pos 16384 *ℤ pos 16384) (pos 268435456) d =
    record { nearest = omega (arith, ints); half_away = λ h. omega (arith, ints) }
    in
    let nonzero : pos 268435456 ≢ pos 0 = λ (z : pos 268435456 ≡ pos 0). omega (arith, ints, z) in
    rw (← same_near (d *ℤ pos 16384 *ℤ pos 16384) (pos 268435456) d nonzero near)
    (same_wrapped d d (record { fits = f; congruent = (pos 0, omega (arith, ints)) }))

-- and across it 0
pub across_axis : (d : ℤ) → pos 0 ≡ shift_part_of d (pos 0) (pos 268435456)
unfolding shift_part_of
across_axis d =
    let near : IsNear (d *ℤ pos 0 *ℤ pos 16384) (pos 268435456) (pos 0) =
    record { nearest = omega (arith, ints); half_away = λ h. omega (arith, ints) }
    in
    let nonzero : pos 268435456 ≢ pos 0 = λ (z : pos 268435456 ≡ pos 0). omega (arith, ints, z) in
    rw (← same_near (d *ℤ pos 0 *ℤ pos 16384) (pos 268435456) (pos 0) nonzero near)
    (same_wrapped (pos 0) (pos 0) (record { fits = omega (arith, ints); congruent = (pos 0, omega (arith, ints)) }))

-- ---- shortcuts for the axes

same_place : {x y x' y' : ℤ} → x ≡ x' → y ≡ y'
    → (let p : Place = record { x = x; y = y } in p) ≡ (let p : Place = record { x = x'; y = y' } in p)
same_place e h = cc

pub on_x : {v : ℤ × ℤ} (d : Place) → FitsSigned w32 d.x → v ≡ axis_of X → d.x ≡ projection_of v d
unfolding projection_of
on_x d f e = rw e (on_axis (d.x *ℤ pos 16384) (d.y *ℤ pos 0) d.x f (omega (arith, ints)))

pub on_y : {v : ℤ × ℤ} (d : Place) → FitsSigned w32 d.y → v ≡ axis_of Y → d.y ≡ projection_of v d
unfolding projection_of
on_y d f e = rw e (on_axis (d.x *ℤ pos 0) (d.y *ℤ pos 16384) d.y f (omega (arith, ints)))

pub shift_x : {v w : ℤ × ℤ} (d : ℤ) → FitsSigned w32 d → v ≡ axis_of X → w ≡ axis_of X → place_on X d ≡ shift_of v w d
shift_x d f e h = rw (e, h) (same_place (along_axis d f) (across_axis d))

pub shift_y : {v w : ℤ × ℤ} (d : ℤ) → FitsSigned w32 d → v ≡ axis_of Y → w ≡ axis_of Y → place_on Y d ≡ shift_of v w d
shift_y d f e h = rw (e, h) (same_place (across_axis d) (along_axis d f))

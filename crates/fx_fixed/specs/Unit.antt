-- The unit vector in 2.14 of a direction (its rounding is a choice of this project).
use Rattle.std.specs.Prelude.{◌≡◌, ℕ, suc, ◌+◌, ◌-◌, ◌*◌, ◌^◌, ◌≤◌, ◌≢◌, Bool, nat_le, ◌==◌, if◌then◌else◌, ℤ, pos, negsuc, neg_ℤ}
use Rattle.std.specs.Prelude.{◌≤ℤ◌, unsigned_abs}
use Rattle.fx_fixed.specs.Numbers.{one_in_2_14}
use Rattle.fx_fixed.specs.Greatest.{IsGreatestOrZero, greatest_passing}

-- c is no more than half a unit above the exact size of a component, at the squared length s
abbrev pub Admits : ℕ → ℕ → ℕ → Type 0
Admits coordinate s c = (1 ≤ c) × ((2 * c - 1) * (2 * c - 1) * s ≤ 4 * 2 ^ 28 * (coordinate * coordinate))

-- the component u of the unit vector has the sign of its coordinate x, and the greatest size admitted
pub record IsComponent (x : ℤ) (s : ℕ) (u : ℤ) : Type 0 where
  pub size : IsGreatestOrZero (Admits (unsigned_abs x) s) (unsigned_abs u)
  pub not_negative : pos 0 ≤ℤ x → pos 0 ≤ℤ u
  pub not_positive : x ≤ℤ pos 0 → u ≤ℤ pos 0

abbrev pub square_length : ℤ → ℤ → ℕ
square_length x y = unsigned_abs x * unsigned_abs x + unsigned_abs y * unsigned_abs y

-- (u, v) is the unit vector of the direction (x, y), the x axis for no direction
pub record IsUnit (x y u v : ℤ) : Type 0 where
  pub none : square_length x y ≡ 0 → (u ≡ pos one_in_2_14) × (v ≡ pos 0)
  pub horizontal : square_length x y ≢ 0 → IsComponent x (square_length x y) u
  pub vertical : square_length x y ≢ 0 → IsComponent y (square_length x y) v

-- The same as a function, for definitions that name the vector.

abbrev pub admits : ℕ → ℕ → ℕ → Bool
admits coordinate s c = nat_le ((2 * c - 1) * (2 * c - 1) * s) (4 * 2 ^ 28 * (coordinate * coordinate))

unfoldable pub component_size : ℕ → ℕ → ℕ
component_size coordinate s = greatest_passing (admits coordinate s) one_in_2_14

abbrev pub component_of : ℤ → ℕ → ℤ
component_of (pos n) s = pos (component_size n s)
component_of (negsuc n) s = neg_ℤ (pos (component_size (suc n) s))

unfoldable pub unit_of : ℤ → ℤ → ℤ × ℤ
unit_of x y =
    if square_length x y == 0 then (pos one_in_2_14, pos 0) else
    (component_of x (square_length x y), component_of y (square_length x y))

-- a direction has one unit vector
abbrev pub UnitIsFunctional : Type 0
UnitIsFunctional = (x y u v u' v' : ℤ) → IsUnit x y u v → IsUnit x y u' v' → (u ≡ u') × (v ≡ v')

-- unit_of is the value of IsUnit
abbrev pub UnitOfIsUnit : Type 0
UnitOfIsUnit = (x y : ℤ) → IsUnit x y (unit_of x y).0 (unit_of x y).1

-- the relation closed, so that a caller's proof does not read its products
unfoldable pub PointsAlong : ℤ → ℤ → ℤ → ℤ → Type 0
PointsAlong x y u v = IsUnit x y u v

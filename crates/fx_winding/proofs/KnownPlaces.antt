-- Whether a place is on an arc is known: `known_curve` for a bent arc, `known_flat` for a flat one.
-- Serves the shapes of outlines, and the law of halves.
use Rattle.std.proofs.Common.{◌≡◌, ◌≢◌, ◌⊎◌, ℤ, pos, ◌≤ℤ◌, arith}
use Rattle.std.proofs.lemmas.Int.{ints}
use Rattle.fx_winding.specs.Area.{Place, area}
use Rattle.fx_winding.specs.Winding.{weight_a, weight_b, weight_c, IsOnCurve, IsOnFlatArc, IsInRange}

abbrev pub Known : Type 0 → Type 0
Known P = P ⊎ (¬ P)

pub known_either : {P Q : Type 0} → Known P → Known Q → Known (P ⊎ Q)
known_either p q = grind arith

pub known_as : {P Q : Type 0} → (P → Q) → (Q → P) → Known P → Known Q
known_as to from p = grind arith

known_range : (a b c p : ℤ) → Known (IsInRange a b c p)
known_range a b c p = grind (arith, ints)

pub known_curve : (a b c p : Place) → Known (IsOnCurve a b c p)
known_curve a b c p = known_as (λ k. record { bent = k.0; on_arc = k.1 }) (λ on. (on.bent, on.on_arc))
    (by (area a b c) (weight_a a b c p) (weight_b a b c p) (weight_c a b c p) _)
  where
    by : (d u v w q : ℤ) → Known ((d ≢ pos 0) × ((pos 0 ≤ℤ u) × (pos 0 ≤ℤ v) × (pos 0 ≤ℤ w) × (q ≡ pos 0)))
    by d u v w q = grind (arith, ints)

pub known_flat : (a b c p : Place) → Known (IsOnFlatArc a b c p)
known_flat a b c p =
    known_as (λ k. record { flat = k.0; with_ab = k.1; with_bc = k.2; with_ac = k.3; range_x = k.4; range_y = k.5 })
    (λ on. (on.flat, on.with_ab, on.with_bc, on.with_ac, on.range_x, on.range_y))
    (by (area a b c) (area a b p) (area b c p) (area a c p) (known_range a.x b.x c.x p.x) (known_range a.y b.y c.y p.y))
  where
    by : {P Q : Type 0} (x y z w : ℤ) → Known P → Known Q → Known ((x ≡ pos 0) × (y ≡ pos 0) × (z ≡ pos 0) × (w ≡ pos 0) × P × Q)
    by x y z w p q = grind (arith, ints)

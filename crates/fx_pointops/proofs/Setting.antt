-- A point that is looked up once and then written is a point changed: `set_is`, `point_is`.
-- Serves the rows that change points.
use Rattle.std.proofs.Common.{◌≡◌, ℕ, ℤ, pos, negsuc, ◌<ℤ◌, Some, None, refl, arith, to_z-of_z}
use Rattle.std.proofs.lemmas.Int.{ints}
use Rattle.fx_zone.specs.declared.point.ZonePoint.{ZonePoint}
use Rattle.fx_gstate.specs.declared.zones.ZonePointer.{ZonePointer}
use Rattle.fx_gstate.specs.declared.zones.ZonePointer.TheVariants.{Twilight, Glyph}
use Rattle.fx_pointops.specs.declared.zones.Zones.{Zones}
use Rattle.fx_pointops.specs.Zones.{index_of, point_at, changed_at, written_at, with_stray, on_point}

written_here : (change : ZonePoint → ZonePoint) (zone : ZonePointer) (n : ℤ) (z : Zones) (p : ZonePoint)
    → Some p ≡ point_at zone n z → written_at (change p) zone n z ≡ changed_at change zone n z
unfolding point_at written_at changed_at
written_here change Twilight (pos n) z p e = rw (← e) refl
written_here change Glyph (pos n) z p e = rw (← e) refl
written_here change Twilight (negsuc n) z p e = absurd cc
written_here change Glyph (negsuc n) z p e = absurd cc

-- a point that is there, by a number n that code has as m
pub set_is : (change : ZonePoint → ZonePoint) (zone : ZonePointer) (n m : ℤ) (z : Zones) (p q : ZonePoint) → m ≡ n
    → Some p ≡ point_at zone m z → q ≡ change p → written_at q zone m z ≡ changed_at change zone n z
set_is change zone n m z p q is e f = rw (f, ← is) (written_here change zone m z p e)

pub point_is : (change : ZonePoint → ZonePoint) (zone : ZonePointer) (n m : ℤ) (z : Zones) (p q : ZonePoint) → m ≡ n
    → Some p ≡ point_at zone m z → q ≡ change p → written_at q zone m z ≡ on_point change zone n z
point_is change zone n m z p q is e f = rw (set_is change zone n m z p q is e f, ← is, ← e) refl

-- a point that is not there
pub unchanged : (change : ZonePoint → ZonePoint) (zone : ZonePointer) (n : ℤ) (z : Zones) → None ≡ point_at zone n z
    → z ≡ changed_at change zone n z
unfolding point_at changed_at
unchanged change Twilight (pos n) z e = rw (← e) refl
unchanged change Glyph (pos n) z e = rw (← e) refl
unchanged change Twilight (negsuc n) z e = refl
unchanged change Glyph (negsuc n) z e = refl

still_outside : (zone : ZonePointer) (n : ℤ) (z : Zones) → None ≡ point_at zone n z → None ≡ point_at zone n (with_stray z)
unfolding point_at
still_outside Twilight n z e = e
still_outside Glyph n z e = e

pub stray_is : (change : ZonePoint → ZonePoint) (zone : ZonePointer) (n : ℤ) (z : Zones) → None ≡ point_at zone n z
    → with_stray z ≡ on_point change zone n z
stray_is change zone n z e = rw (← e) (unchanged change zone n (with_stray z) (still_outside zone n z e))

-- a number as the number of a point
pub number_inside : (n : ℤ) (m : ℕ) → pos m ≡ n → index_of n ≡ Some m
number_inside n m e = rw (← e) refl

pub number_outside : (n : ℤ) → n <ℤ pos 0 → index_of n ≡ None
number_outside (pos n) h = absurd (omega (arith, ints, h))
number_outside (negsuc n) h = refl

pub ruleset index = (to_z-of_z, number_inside, number_outside)

-- a point that is there or not, for goals that need no answer
pub ruleset setting = (to_z-of_z, set_is, point_is, unchanged, stray_is)

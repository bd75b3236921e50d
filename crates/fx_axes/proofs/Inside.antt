-- The records of `fvar` lie in the table, as `axis_inside`, `name_inside` and `instance_inside` say.
-- For all calls that read one.
use Rattle.std.proofs.Common.{◌≡◌, ℕ, ◌+◌, ◌*◌, ◌<◌, ◌≤◌, Bool, true, false, List, length, ◌⊎◌, inl, inr, refl, arith}
use Rattle.std.proofs.Common.{mul-le-mul_left}
use Rattle.std.specs.Prelude.{◌&&◌, ◌||◌, nat_le, ◌==◌}
use Rattle.std.proofs.lemmas.Bool.{leb-true, eqb-true, and_parts}
use Rattle.std.proofs.Math.Nat.{mul-add}
use Rattle.fx_axes.specs.Fvar.{axis_count, axis_size, instance_count, instance_size, axis_offset, instance_offset, holds_records}

-- a number below one that is equal to another is below that
pub along : (k n m : ℕ) → k < n → n ≡ m → k < m
along k n m h e = omega (arith, h, e)

or_cases : (a b : Bool) → (a || b) ≡ true → (a ≡ true) ⊎ (b ≡ true)
or_cases true b e = inl refl
or_cases false b e = inr e

-- the record of a number below the count ends before the count-th begins
before : (size k n : ℕ) → k < n → size * k + size ≤ size * n
before size k n h = omega (arith, mul-le-mul_left size h, mul-add size k 1)

pub axis_inside : (fvar : List ℕ) (k : ℕ) → holds_records fvar ≡ true → k < axis_count fvar
    → axis_offset fvar k + 20 ≤ length fvar
unfolding holds_records
axis_inside fvar k e h =
    let p = and_parts (nat_le 20 (axis_size fvar) && (nat_le (4 + 4 * axis_count fvar)
    (instance_size fvar) || instance_count fvar == 0))
    (nat_le (instance_offset fvar (instance_count fvar)) (length fvar)) e in
    let q = and_parts (nat_le 20 (axis_size fvar)) (nat_le (4 + 4 * axis_count fvar)
    (instance_size fvar) || instance_count fvar == 0) p.0 in
    let a : 20 ≤ axis_size fvar = leb-true _ _ q.0 in
    let b : instance_offset fvar (instance_count fvar) ≤ length fvar = leb-true _ _ p.1 in
    let c : axis_size fvar * k + axis_size fvar ≤ axis_size fvar * axis_count fvar = before _ _ _ h in
    omega (arith, a, b, c)

size_of_some : (c s m k : ℕ) → k < m → (nat_le (4 + 4 * c) s || m == 0) ≡ true → 4 + 4 * c ≤ s
size_of_some c s m k h e =
    elim (or_cases (nat_le (4 + 4 * c) s) (m == 0) e) [
      | inl t ↦ leb-true _ _ t
      | inr t ↦ absurd (omega
          (arith, eqb-true m 0 t, h))
    ]

-- the record of a named instance lies in the table
instance_room : (fvar : List ℕ) (k : ℕ) → holds_records fvar ≡ true → k < instance_count fvar
    → instance_offset fvar k + (4 + 4 * axis_count fvar) ≤ length fvar
unfolding holds_records
instance_room fvar k e h =
    let p = and_parts (nat_le 20 (axis_size fvar) && (nat_le (4 + 4 * axis_count fvar)
    (instance_size fvar) || instance_count fvar == 0))
    (nat_le (instance_offset fvar (instance_count fvar)) (length fvar)) e in
    let q = and_parts (nat_le 20 (axis_size fvar)) (nat_le (4 + 4 * axis_count fvar)
    (instance_size fvar) || instance_count fvar == 0) p.0 in
    let a : 4 + 4 * axis_count fvar ≤ instance_size fvar = size_of_some _ _ _ k h q.1 in
    let b : instance_offset fvar (instance_count fvar) ≤ length fvar = leb-true _ _ p.1 in
    let c : instance_size fvar * k + instance_size fvar ≤ instance_size fvar * instance_count fvar = before _ _ _ h in
    omega (arith, a, b, c)

pub instance_inside : (fvar : List ℕ) (k axis : ℕ) → holds_records fvar ≡ true → k < instance_count fvar → axis < axis_count fvar
    → instance_offset fvar k + (4 + 4 * axis) + 4 ≤ length fvar
instance_inside fvar k axis e h j = omega (arith, instance_room fvar k e h, j)

pub name_inside : (fvar : List ℕ) (k : ℕ) → holds_records fvar ≡ true → k < instance_count fvar
    → instance_offset fvar k + 4 ≤ length fvar
name_inside fvar k e h = omega (arith, instance_room fvar k e h)

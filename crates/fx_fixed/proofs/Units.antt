-- A direction has one unit vector, the function's: `same_unit`, `unit_of_is_unit`.
-- For `unit`, and the laws of its definitions.
use Rattle.std.proofs.Common.{◌≡◌, ◌≢◌, ℕ, zero, suc, ◌-◌, ◌*◌, ◌<◌, ◌≤◌, Bool, true, false, cond, nat_eq, arith, ℤ, pos, negsuc}
use Rattle.std.proofs.Common.{neg_ℤ, ◌≤ℤ◌, ◌<ℤ◌, unsigned_abs, refl, sym, ◌∙◌}
use Rattle.std.proofs.Math.Nat.{mul-le-mul_right, mul-le-mul}
use Rattle.std.proofs.lemmas.Int.{ints, by_lt_z}
use Rattle.std.proofs.lemmas.Bool.Decides.{nat_tests}
use Rattle.fx_fixed.specs.Greatest.{IsGreatestOrZero, greatest_passing}
use Rattle.fx_fixed.proofs.Greatest.{passing, greatest_below}
use Rattle.fx_fixed.specs.Unit.{Admits, IsComponent, IsUnit, square_length, admits, component_size, component_of, unit_of}
use Rattle.fx_fixed.specs.Unit.{UnitOfIsUnit}

-- what is admitted is admitted further down too
pub admits_below : (x s j k : ℕ) → 1 ≤ j → j ≤ k → Admits x s k → Admits x s j
admits_below x s j k one h a =
    let odd : 2 * j - 1 ≤ 2 * k - 1 = omega arith in
    (one, omega (arith, a, mul-le-mul_right s (mul-le-mul odd odd)))

-- no size past 16384 is admitted
pub admits_small : (x s k : ℕ) → s ≢ 0 → x * x ≤ s → Admits x s k → k ≤ 16384
admits_small x s k z h a =
    let past : 16384 < k → ⊥ = λ l. let b = admits_below x s 16385 k (omega arith) l a in omega (arith, b) in
    omega arith

-- the test is the rule
admits_true : (x s c : ℕ) → admits x s c ≡ true → 1 ≤ c → Admits x s c
admits_true x s c e one = (one, grind (arith, nat_tests))

true_admits : (x s c : ℕ) → Admits x s c → admits x s c ≡ true
true_admits x s c a = grind (arith, nat_tests)

size_is : (x s : ℕ) → s ≢ 0 → x * x ≤ s → IsGreatestOrZero (Admits x s) (component_size x s)
unfolding component_size
size_is x s z h =
    let p = passing (admits x s) 16384 in
    record {
      member = λ n. admits_true x s (greatest_passing (admits x s) 16384) (p.passes n) (omega arith);
      greatest = λ k a. p.greatest k a.0 (admits_small x s k z h a) (true_admits x s k a);
    }

-- no size is admitted for the coordinate 0
none_at_zero : (s c : ℕ) → s ≢ 0 → IsGreatestOrZero (Admits 0 s) c → c ≡ 0
none_at_zero s c z g =
    let no : 1 ≤ c → ⊥ = λ n.
    let some : c ≢ 0 = omega arith in
    let a = g.member some in
    let odd : 1 ≤ 2 * c - 1 = omega arith in
    omega (arith, a, mul-le-mul_right s (mul-le-mul odd odd)) in
    omega arith

-- the greatest size, with the sign of its coordinate
pub component_signed : (x : ℤ) (s m : ℕ) (u : ℤ) → s ≢ 0 → IsGreatestOrZero (Admits (unsigned_abs x) s) m
    → (x <ℤ pos 0 → u ≡ neg_ℤ (pos m)) → (pos 0 ≤ℤ x → u ≡ pos m) → IsComponent x s u
component_signed (pos zero) s m u z g n p =
    let e = none_at_zero s m z g in
    let f = p (omega (arith, ints)) in
    record { size = rw f g; not_negative = λ i. omega (arith, ints); not_positive = λ i. omega (arith, ints) }
component_signed (pos (suc k)) s m u z g n p =
    let f = p (omega (arith, ints)) in
    record { size = rw f g; not_negative = λ i. omega (arith, ints); not_positive = λ i. absurd (omega (arith, ints)) }
component_signed (negsuc k) s m u z g n p =
    let f = n (omega (arith, ints)) in
    let e : unsigned_abs (neg_ℤ (pos m)) ≡ m = omega (arith, ints) in
    record { size = rw (f, e) g; not_negative = λ i. absurd (omega (arith, ints)); not_positive = λ i. omega (arith, ints) }

component_is : (x : ℤ) (s : ℕ) → s ≢ 0 → unsigned_abs x * unsigned_abs x ≤ s → IsComponent x s (component_of x s)
component_is (pos n) s z h = component_signed (pos n) s (component_size n s) (pos (component_size n s)) z (size_is n s z h)
    (λ l. absurd (omega (arith, ints))) (λ l. refl)
component_is (negsuc n) s z h = component_signed (negsuc n) s (component_size (suc n) s) (neg_ℤ (pos (component_size (suc n) s))) z
    (size_is (suc n) s z h) (λ l. refl) (λ l. absurd (omega (arith, ints)))

unit_at : (x y : ℤ) (b : Bool) → nat_eq (square_length x y) 0 ≡ b → let w : ℤ
    × ℤ = cond b (pos 16384, pos 0) (component_of x (square_length x y), component_of y (square_length x y)) in IsUnit x y w.0 w.1
unit_at x y true e =
    record {
      none = λ z. (refl, refl);
      horizontal = λ n. absurd (n (grind (arith, nat_tests)));
      vertical = λ n. absurd
          (n (grind (arith, nat_tests)));
    }
unit_at x y false e =
    record {
      none = λ z. absurd (grind (arith, nat_tests));
      horizontal = λ n. component_is x (square_length x y) n
          (omega arith);
      vertical = λ n. component_is y (square_length x y) n (omega arith);
    }

pub unit_of_is_unit : UnitOfIsUnit
unfolding unit_of
unit_of_is_unit x y = unit_at x y (nat_eq (square_length x y) 0) refl

-- ---- one vector

component_one : (x : ℤ) (s : ℕ) (u v : ℤ) → IsComponent x s u → IsComponent x s v → u ≡ v
component_one x s u v g h =
    let P = Admits (unsigned_abs x) s in
    let below = greatest_below P (unsigned_abs u) (unsigned_abs v) g.size h.size in
    let above = greatest_below P (unsigned_abs v) (unsigned_abs u) h.size g.size in
    by_lt_z x (pos 0) (λ l. omega (arith, ints, g.not_positive (omega (arith, ints)), h.not_positive (omega (arith, ints))))
    (λ n. omega (arith, ints, g.not_negative (omega (arith, ints)), h.not_negative (omega (arith, ints))))

pub unit_one : (x y u v u' v' : ℤ) (z : Bool) → nat_eq (square_length x y) 0 ≡ z → IsUnit x y u v → IsUnit x y u' v'
    → (u ≡ u') × (v ≡ v')
unit_one x y u v u' v' true e g h =
    let z : square_length x y ≡ 0 = grind (arith, nat_tests) in
    ((g.none z).0 ∙ sym (h.none z).0, (g.none z).1 ∙ sym (h.none z).1)
unit_one x y u v u' v' false e g h =
    let n : square_length x y ≢ 0 = λ z. grind (arith, nat_tests) in (
      component_one x (square_length x y) u u' (g.horizontal n) (h.horizontal n),
      component_one y (square_length x y) v v'
          (g.vertical n) (h.vertical n),
    )

-- the unit vector is the function's value
pub same_unit : (x y u v : ℤ) → IsUnit x y u v → (u ≡ (unit_of x y).0) × (v ≡ (unit_of x y).1)
same_unit x y u v h = unit_one x y u v (unit_of x y).0 (unit_of x y).1 (nat_eq (square_length x y) 0) refl h (unit_of_is_unit x y)

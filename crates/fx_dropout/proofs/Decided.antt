-- The tests decide the relations of the same names: `covered_is`, `met_is`, `missed_is`.
-- Serves `work`.
use Rattle.std.proofs.Common.{◌≡◌, ◌⊎◌, ◌↔◌, refl, sym, ℤ, pos, ◌≤ℤ◌, ◌<ℤ◌, int_lt, int_le, Bool, false, not}
use Rattle.std.proofs.Common.{◌&&◌, ◌||◌}
use Rattle.std.proofs.Common.{List, Any, Option, Some, None, Decides, IsTrue, arith}
use Rattle.std.specs.List.{list_any}
use Rattle.std.specs.Ordering.{int_eq}
use Rattle.std.proofs.lemmas.Bool.Decides.{Decides-and, Decides-int_eq, Decides-like, Decides-not, Decides-or, same_from_decides}
use Rattle.std.proofs.lemmas.Int.{ints}
use Rattle.std.proofs.lemmas.List.Folds.{Any-from_list_any, list_any-from_Any}
use Rattle.fx_winding.specs.Area.{Place, area}
use Rattle.fx_winding.specs.Meets.{IsMet, IsReached, IsTip, IsTipPart, IsWithinRow, slope, turn}
use Rattle.fx_winding.specs.Outside.{HasAll}
use Rattle.fx_winding.specs.Turned.{turned_place, turned_span}
use Rattle.fx_winding.specs.Winding.{Span, AreOnArc, IsAboveLow, IsBelowHigh, IsBetween, IsCovered, IsInRange, IsOn}
use Rattle.fx_winding.specs.Winding.{IsOnCurve}
use Rattle.fx_winding.specs.Winding.{IsOnFlatArc, IsOnLine, IsOnPart, region_part, weight_a, weight_b, weight_c, winding}
use Rattle.fx_dropout.specs.Decided.{are_on_arc, has_all, is_above_low, is_below_high, is_between, is_covered, is_in_range, is_met}
use Rattle.fx_dropout.specs.Decided.{is_missed, is_on, is_on_curve, is_on_flat_arc, is_on_line, is_on_part, is_reached, is_tip}
use Rattle.fx_dropout.specs.Decided.{is_tip_part, is_within_row}
use Rattle.fx_dropout.specs.inner.Places.{IsMissed}

-- b is true exactly if P holds
pub record IsTest (b : Bool) (P : Type 0) : Type 0 where
  pub told : Decides b P

-- ---- tests of tests
pub like : {P Q : Type 0} {b : Bool} → (P → Q) → (Q → P) → IsTest b P → IsTest b Q
like to from t = record { told = Decides-like _ to from t.told }

pub both : {P Q : Type 0} {x y : Bool} → IsTest x P → IsTest y Q → IsTest (x && y) (P × Q)
both p q = record { told = Decides-and _ _ p.told q.told }

three : {P Q R : Type 0} {x y z : Bool} → IsTest x P → IsTest y Q → IsTest z R → IsTest (x && (y && z)) (P × Q × R)
three p q r = like (λ h. (h.0, h.1.0, h.1.1)) (λ h. (h.0, (h.1, h.2))) (both p (both q r))

four : {P Q R S : Type 0} {x y z w : Bool} → IsTest x P → IsTest y Q → IsTest z R → IsTest w S
    → IsTest (x && (y && (z && w))) (P × Q × R × S)
four p q r s = like (λ h. (h.0, h.1.0, h.1.1, h.1.2)) (λ h. (h.0, (h.1, h.2, h.3))) (both p (three q r s))

one_of : {P Q : Type 0} {x y : Bool} → IsTest x P → IsTest y Q → IsTest (x || y) (P ⊎ Q)
one_of p q = record { told = Decides-or _ _ p.told q.told }

pub none : {P : Type 0} {b : Bool} → IsTest b P → IsTest (not b) (¬ P)
none p = record { told = Decides-not _ p.told }

never : {P : Type 0} → ¬ P → IsTest false P
never n = record { told = (λ t. absurd (cc), λ p. absurd (n p)) }

le : (x y : ℤ) → IsTest (int_le x y) (x ≤ℤ y)
le x y = record { told = (λ t. omega (arith, ints), λ h. sym (omega (arith, ints))) }

lt : (x y : ℤ) → IsTest (int_lt x y) (x <ℤ y)
lt x y = record { told = (λ t. omega (arith, ints), λ h. sym (omega (arith, ints))) }

eq : (x y : ℤ) → IsTest (int_eq x y) (x ≡ y)
eq x y = record { told = Decides-int_eq x y }

pub any_of : {X : Type 0} (test : X → Bool) (P : X → Type 0) → ((x : X) → IsTest (test x) (P x)) → (xs : List X)
    → IsTest (list_any test xs) (Any P xs)
any_of test P each xs = record {
  told = (
    λ t. let a = Any-from_list_any test xs t in (a.0, a.1, a.2, a.3, (each a.1).told.0 a.4),
    λ a. list_any-from_Any test xs (a.0, a.1, a.2, a.3, (each a.1).told.1 a.4),
  );
}

-- ---- on a piece
between : (a c p : ℤ) → IsTest (is_between a c p) (IsBetween a c p)
between a c p = one_of (both (le a p) (le p c)) (both (le c p) (le p a))

on_line : (a c p : Place) → IsTest (is_on_line a c p) (IsOnLine a c p)
on_line a c p =
    like (λ h. record { collinear = h.0; between_x = h.1; between_y = h.2 }) (λ h. (h.collinear, h.between_x, h.between_y))
    (three (eq (area a c p) (pos 0)) (between a.x c.x p.x) (between a.y c.y p.y))

on_arc : (u v w : ℤ) → IsTest (are_on_arc u v w) (AreOnArc u v w)
on_arc u v w = four (le (pos 0) u) (le (pos 0) v) (le (pos 0) w) (eq _ (pos 0))

on_curve : (a b c p : Place) → IsTest (is_on_curve a b c p) (IsOnCurve a b c p)
on_curve a b c p =
    like (λ h. record { bent = h.0; on_arc = h.1 }) (λ h. (h.bent, h.on_arc))
    (both (none (eq (area a b c) (pos 0))) (on_arc (weight_a a b c p) (weight_b a b c p) (weight_c a b c p)))

above_low : (a b c p : ℤ) → IsTest (is_above_low a b c p) (IsAboveLow a b c p)
above_low a b c p = one_of (le a p) (one_of (le c p) (three (lt b a) (lt b c) (le _ _)))

below_high : (a b c p : ℤ) → IsTest (is_below_high a b c p) (IsBelowHigh a b c p)
below_high a b c p = one_of (le p a) (one_of (le p c) (three (lt a b) (lt c b) (le _ _)))

in_range : (a b c p : ℤ) → IsTest (is_in_range a b c p) (IsInRange a b c p)
in_range a b c p =
    like (λ h. record { low = h.0; high = h.1 }) (λ h. (h.low, h.high)) (both (above_low a b c p) (below_high a b c p))

on_flat_arc : (a b c p : Place) → IsTest (is_on_flat_arc a b c p) (IsOnFlatArc a b c p)
on_flat_arc a b c p =
    like
    (λ h. record { flat = h.0; with_ab = h.1; with_bc = h.2; with_ac = h.3.0; range_x = h.3.1; range_y = h.3.2 })
    (λ h. (h.flat, h.with_ab, h.with_bc, (h.with_ac, h.range_x, h.range_y)))
    (four (eq (area a b c) (pos 0)) (eq (area a b p) (pos 0)) (eq (area b c p) (pos 0))
    (three (eq (area a c p) (pos 0)) (in_range a.x b.x c.x p.x) (in_range a.y b.y c.y p.y)))

on_part : (a : Place) (b : Option Place) (c p : Place) → IsTest (is_on_part a b c p) (IsOnPart a b c p)
on_part a None c p = on_line a c p
on_part a (Some b) c p = one_of (on_curve a b c p) (on_flat_arc a b c p)

on_is : (p : Place) (s : Span) → IsTest (is_on p s) (IsOn p s)
unfolding is_on
on_is p s = on_part s.a s.b s.c p

pub covered_is : (p : Place) (ss : List Span) → IsTest (is_covered p ss) (IsCovered p ss)
unfolding is_covered IsCovered
covered_is p ss = one_of (any_of (is_on p) (IsOn p) (on_is p) ss) (none (eq (winding p ss) (pos 0)))

-- ---- met
within_row : (p q e : Place) → IsTest (is_within_row p q e) (IsWithinRow p q e)
within_row p q e =
    like (λ h. record { level = h.0; after = h.1; before = h.2 }) (λ h. (h.level, h.after, h.before))
    (three (eq e.y p.y) (lt p.x e.x) (lt e.x q.x))

reached_is : (a b c p : ℤ) → IsTest (is_reached a b c p) (IsReached a b c p)
reached_is a b c p =
    one_of (three (lt a p) (lt c p) (below_high a b c p)) (three (lt p a) (lt p c) (above_low a b c p))

tip : (a b c p q : Place) → IsTest (is_tip a b c p q) (IsTip a b c p q)
tip a b c p q =
    like (λ h. record { reached = h.0; outside = h.1; rises = h.2; falls = h.3 }) (λ h. (h.reached, h.outside, h.rises, h.falls))
    (four (reached_is a.y b.y c.y p.y) (eq (region_part a (Some b) c p) (pos 0)) (lt (pos 0) (slope a b c p))
    (lt (slope a b c q) (pos 0)))

tip_part : (a : Place) (b : Option Place) (c p q : Place) → IsTest (is_tip_part a b c p q) (IsTipPart a b c p q)
tip_part a None c p q = never (λ h. h)
tip_part a (Some b) c p q = tip a b c p q

pub met_is : (p q : Place) (s : Span) → IsTest (is_met p q s) (IsMet p q s)
unfolding is_met
met_is p q s =
    one_of (within_row p q s.a) (one_of (within_row p q s.c)
    (one_of (none (eq (turn p s) (turn q s))) (tip_part s.a s.b s.c p q)))

-- ---- missed
all_points : (test : Place → Bool) (P : Place → Type 0) → ((e : Place) → IsTest (test e) (P e)) → (a : Place) (b : Option Place)
    (c : Place) → IsTest (has_all test (record { a = a; b = b; c = c })) (HasAll P (record { a = a; b = b; c = c }))
all_points test P each a None c = three (each a) (record { told = (λ _. tt, λ _. refl) }) (each c)
all_points test P each a (Some b) c = three (each a) (each b) (each c)

pub missed_is : (p : Place) (s : Span) → IsTest (is_missed p s) (IsMissed p s)
unfolding is_missed
missed_is p s =
    one_of (all_points _ (λ e. p.y <ℤ e.y) (λ e. lt p.y e.y) s.a s.b s.c)
    (one_of (all_points _ (λ e. e.y <ℤ p.y) (λ e. lt e.y p.y) s.a s.b s.c)
    (all_points _ (λ e. e.x <ℤ p.x) (λ e. lt e.x p.x) s.a s.b s.c))

-- the same of an exchanged piece, by the other coordinates of the piece
all_turned : (P : Place → Type 0) (a : Place) (b : Option Place) (c : Place)
    → HasAll P (turned_span (record { a = a; b = b; c = c })) ↔ HasAll (λ e. P (turned_place e)) (record { a = a; b = b; c = c })
all_turned P a None c = (λ h. h, λ h. h)
all_turned P a (Some b) c = (λ h. h, λ h. h)

pub missed_turned : (p : Place) (s : Span) → IsMissed p (turned_span s)
    ↔ (HasAll (λ e. p.y <ℤ e.x) s ⊎ (HasAll (λ e. e.x <ℤ p.y) s ⊎ HasAll (λ e. e.y <ℤ p.x) s))
missed_turned p s =
    any_three _ _ _ _ _ _ (all_turned (λ e. p.y <ℤ e.y) s.a s.b s.c) (all_turned (λ e. e.y <ℤ p.y) s.a s.b s.c)
    (all_turned (λ e. e.x <ℤ p.x) s.a s.b s.c)
  where
    any_three : (A B C X Y Z : Type 0) → A ↔ X → B ↔ Y → C ↔ Z → (A ⊎ (B ⊎ C)) ↔ (X ⊎ (Y ⊎ Z))
    any_three A B C X Y Z h k m = grind (arith, h, k, m)

-- a test of the code, as the definition has it
pub missed_as : (r : Bool) (p : Place) (s : Span) → IsTrue r ↔ IsMissed p s → r ≡ is_missed p s
missed_as r p s h = same_from_decides r (is_missed p s) h (missed_is p s).told

-- Whether a place is covered (`covered`), and whether drop-out control sets a pixel (`set_in`), is decided.
-- Serves the law that a picture exists, with Existing.
use Rattle.std.proofs.Common.{◌≡◌, subst, inl, inr, ◌⊎◌, ℕ, zero, suc, ◌+◌, ◌<◌, ℤ, pos, ◌-ℤ◌, ◌+ℤ◌, ◌≤ℤ◌, ◌<ℤ◌}
use Rattle.std.proofs.Common.{List, [], ◌∷◌, map, Option, Some, None, Any, arith}
use Rattle.std.proofs.lemmas.Int.{ints}
use Rattle.fx_winding.specs.Area.{Place, area}
use Rattle.fx_winding.specs.Winding.{Span, IsBetween, IsOnLine, IsOnPart, IsOn, winding, IsCovered, region_part, centre}
use Rattle.fx_winding.specs.Meets.{IsWithinRow, IsReached, IsTip, IsTipPart, IsMet, turn, slope}
use Rattle.fx_winding.specs.Turned.{turned_span}
use Rattle.fx_winding.proofs.Covers.{any_here, any_there, any_cases}
use Rattle.fx_winding.proofs.KnownPlaces.{Known, known_either, known_as, known_curve, known_flat}
use Rattle.fx_dropout.specs.declared.chooser.Closing.{Closing}
use Rattle.fx_dropout.specs.declared.chooser.Closing.TheVariants.{Lower, Nearer}
use Rattle.fx_dropout.specs.Dropout.{IsCount, IsNextNearer, IsNextChosen, IsGap, IsBridged, IsRowSetIn, IsSetIn, IsClosedByLeft}
use Rattle.fx_dropout.specs.Dropout.{IsClosedByRight, place_on}
use Rattle.fx_dropout.proofs.Counts.{count_none, count_more, count_same, count_is_one}

pub both : {P Q : Type 0} → Known P → Known Q → Known (P × Q)
both p q = grind arith

pub none : {P : Type 0} → Known P → Known (¬ P)
none p = grind arith

three : {P Q R : Type 0} → Known P → Known Q → Known R → Known (P × Q × R)
three p q r = grind arith

pub le : (x y : ℤ) → Known (x ≤ℤ y)
le x y = grind (arith, ints)

pub lt : (x y : ℤ) → Known (x <ℤ y)
lt x y = grind (arith, ints)

eq : (x y : ℤ) → Known (x ≡ y)
eq x y = grind (arith, ints)

between : (a c p : ℤ) → Known (IsBetween a c p)
between a c p = grind (arith, ints)

on_line : (a c p : Place) → Known (IsOnLine a c p)
on_line a c p =
    known_as (λ h. record { collinear = h.0; between_x = h.1; between_y = h.2 }) (λ h. (h.collinear, h.between_x, h.between_y))
    (three (eq (area a c p) (pos 0)) (between a.x c.x p.x) (between a.y c.y p.y))

on_part : (a : Place) (b : Option Place) (c p : Place) → Known (IsOnPart a b c p)
on_part a None c p = on_line a c p
on_part a (Some b) c p = known_either (known_curve a b c p) (known_flat a b c p)

any_of : {X : Type 0} (P : X → Type 0) → ((x : X) → Known (P x)) → (xs : List X) → Known (Any P xs)
any_of P t [] = inr (λ h. omega (arith, h.2))
any_of P t (x ∷ xs) = known_as to (any_cases P x xs) (known_either (t x) (any_of P t xs))
  where
    to : P x ⊎ Any P xs → Any P (x ∷ xs)
    to (inl h) = any_here P x xs h
    to (inr h) = any_there P x xs h

pub any_on : (p : Place) (ss : List Span) → Known (Any (IsOn p) ss)
any_on p ss = any_of (IsOn p) (λ s. on_part s.a s.b s.c p) ss

pub covered : (p : Place) (ss : List Span) → Known (IsCovered p ss)
unfolding IsCovered
covered p ss = known_either (any_on p ss) (none (eq (winding p ss) (pos 0)))

-- ---- with drop-out control

within_row : (p q e : Place) → Known (IsWithinRow p q e)
within_row p q e = known_as (λ h. record { level = h.0; after = h.1; before = h.2 }) (λ h. (h.level, h.after, h.before))
    (three (eq e.y p.y) (lt p.x e.x) (lt e.x q.x))

reached : (a b c p : ℤ) → Known (IsReached a b c p)
reached a b c p = grind (arith, ints)

tip : (a b c p q : Place) → Known (IsTip a b c p q)
tip a b c p q = known_as (λ h. record { reached = h.0.0; outside = h.0.1; rises = h.1.0; falls = h.1.1 })
    (λ h. ((h.reached, h.outside), (h.rises, h.falls)))
    (both (both (reached a.y b.y c.y p.y) (eq (region_part a (Some b) c p) (pos 0)))
    (both (lt (pos 0) (slope a b c p)) (lt (slope a b c q) (pos 0))))

tip_part : (a : Place) (b : Option Place) (c p q : Place) → Known (IsTipPart a b c p q)
tip_part a None c p q = inr (λ h. h)
tip_part a (Some b) c p q = tip a b c p q

met : (p q : Place) (s : Span) → Known (IsMet p q s)
met p q s = known_either (within_row p q s.a) (known_either (within_row p q s.c)
    (known_either (none (eq (turn p s) (turn q s))) (tip_part s.a s.b s.c p q)))

gap : (ss : List Span) (So : ℤ → ℤ → Type 0) → ((i j : ℤ) → Known (So i j)) → (i j : ℤ) → Known (IsGap ss So i j)
gap ss So so i j = known_as (λ h. record { here = h.0; next = h.1; met = h.2 }) (λ h. (h.here, h.next, h.met))
    (three (none (so i j)) (none (so (i +ℤ pos 1) j))
    (any_of (IsMet (centre i j) (centre (i +ℤ pos 1) j)) (met (centre i j) (centre (i +ℤ pos 1) j)) ss))

-- how many numbers have what is known of each
counted : (P : ℕ → Type 0) → ((k : ℕ) → Known (P k)) → (n : ℕ) → (m : ℕ) × IsCount P n m
counted P known zero = (0, count_none P)
counted P known (suc n) = by (known n) (counted P known n)
  where
    e : n + 1 ≡ suc n
    e = omega arith

    by : Known (P n) → (m : ℕ) × IsCount P n m → (m : ℕ) × IsCount P (suc n) m
    by (inl p) (m, h) = (m + 1, subst (λ (k : ℕ). IsCount P k (m + 1)) e (count_more P n m p h))
    by (inr p) (m, h) = (m, subst (λ (k : ℕ). IsCount P k m) e (count_same P n m p h))

next_nearer : (ss : List Span) (col row : ℤ) → Known (IsNextNearer ss col row)
next_nearer ss col row =
    let At : ℕ → ℕ → Type 0 = λ from n. IsCovered (place_on col row (n + from)) ss in
    let a = counted (At 1) (λ n. covered (place_on col row (n + 1)) ss) 63 in
    let b = counted (At 65) (λ n. covered (place_on col row (n + 65)) ss) 63 in
    known_as (λ t. record { here = a.0; next = b.0; first_half = a.1; second_half = b.1; more = t })
    (λ h. let x = count_is_one (At 1) 63 h.here a.0 h.first_half a.1 in
    let y = count_is_one (At 65) 63 h.next b.0 h.second_half b.1 in
    subst (λ (z : ℕ × ℕ). z.0 < z.1) (λ t. (x t, y t)) h.more) (below a.0 b.0)
  where
    below : (m n : ℕ) → Known (m < n)
    below m n = grind arith

next_chosen : (closing : Closing) (ss : List Span) (col row : ℤ) → Known (IsNextChosen closing ss col row)
next_chosen Lower ss col row = inr (λ h. h)
next_chosen Nearer ss col row = next_nearer ss col row

bridged : (ss : List Span) (In Right So : ℤ → ℤ → Type 0) → ((i j : ℤ) → Known (In i j)) → ((i j : ℤ) → Known (Right i j))
    → ((i j : ℤ) → Known (So i j)) → (i j : ℤ) → Known (IsBridged ss In Right So i j)
bridged ss In Right So is right so i j = known_either (so i j) (known_as (λ h. record { inside = h.0; closes = h.1 })
    (λ h. (h.inside, h.closes)) (both (is i j) (known_either (left i) (next (i -ℤ pos 1)))))
  where
    left : (i : ℤ) → Known (IsClosedByLeft ss In Right So i j)
    left i = known_as (λ h. record { gap = h.0; chosen = h.1 }) (λ h. (h.gap, h.chosen))
        (both (gap ss So so i j) (known_either (none (right i j)) (none (is (i +ℤ pos 1) j))))

    next : (i : ℤ) → Known (IsClosedByRight ss In Right So i j)
    next i = known_as (λ h. record { gap = h.0; chosen = h.1 }) (λ h. (h.gap, h.chosen))
        (both (gap ss So so i j) (known_either (right i j) (none (is i j))))

row_set : (closing : Closing) (ss : List Span) (In : ℤ → ℤ → Type 0) → ((i j : ℤ) → Known (In i j)) → (i j : ℤ)
    → Known (IsRowSetIn closing ss In i j)
row_set closing ss In is =
    bridged ss In (IsNextChosen closing ss) (λ i j. IsCovered (centre i j) ss) is (next_chosen closing ss)
    (λ i j. covered (centre i j) ss)

pub set_in : (closing : Closing) (ss : List Span) (In : ℤ → ℤ → Type 0) → ((i j : ℤ) → Known (In i j)) → (i j : ℤ)
    → Known (IsSetIn closing ss In i j)
set_in closing ss In is i j =
    bridged (map turned_span ss) (λ j i. In i j) (IsNextChosen closing (map turned_span ss)) (λ j i. IsRowSetIn closing ss In i j)
    (λ j i. is i j) (next_chosen closing (map turned_span ss)) (λ j i. row_set closing ss In is i j) j i

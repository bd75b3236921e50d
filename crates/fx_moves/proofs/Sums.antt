-- Sums grow by what one tuple adds, as `grown` says; a point that a loop has not written has the sum that it had.
-- For `add`, `add_tuple` and `add_tuples`.
use Rattle.std.proofs.Common.{◌≡◌, ◌≢◌, ℕ, zero, suc, ◌+◌, ◌*◌, ◌<◌, ◌≤◌, ◌^◌, ℤ, List, [], ◌∷◌, ◌++◌, length, take, drop, map}
use Rattle.std.proofs.Common.{set, get_or}
use Rattle.std.proofs.Common.{refl, ap, ◌∙◌, sym, subst, arith, unsigned_abs, mul-le-mul_right, Bool, true, false}
use Rattle.std.proofs.lemmas.List.{length-map, get_or-set_same, get_or-set_other, get_or_default}
use Rattle.std.proofs.lemmas.Bool.{ltb-true}
use Rattle.std.specs.Prelude.{nat_lt}
use Rattle.fx_tuples.proofs.Sizes.{not_less}
use Rattle.fx_moves.specs.declared.point.GivenPoint.{GivenPoint}
use Rattle.fx_moves.specs.Adding.{AreWithin, AreNear, sums}

pub unwritten : {A : Type 0} (f : A → A) (xs : List A) (i : ℕ) (d : A) → i < length xs
    → get_or (map f (take i xs) ++ drop i xs) i d ≡ get_or xs i d
unwritten f [] i d h = absurd (omega arith)
unwritten f (x ∷ xs) zero d h = refl
unwritten f (x ∷ xs) (suc i) d h = unwritten f xs i d (omega arith)

sum_at : (xs : List GivenPoint) (k : ℕ) (d : GivenPoint) → get_or (sums xs) k d.sum ≡ (get_or xs k d).sum
sum_at [] k d = refl
sum_at (x ∷ xs) zero d = refl
sum_at (x ∷ xs) (suc k) d = sum_at xs k d

-- a sum of points that n tuples reach
within_at : (n : ℕ) (xs : List GivenPoint) (k : ℕ) (d : GivenPoint) → AreWithin n (sums xs) → k < length xs
    → unsigned_abs (get_or xs k d).sum ≤ n * 2 ^ 105
within_at n xs k d w h =
    let P : ℤ → Type 0 = λ s. unsigned_abs s ≤ n * 2 ^ 105 in
    let room : k < length (sums xs) = omega (arith, length-map xs (λ (p : GivenPoint). p.sum), h) in
    subst P (sum_at xs k d) (w.each k d.sum room)

-- a sum that all tuples of a glyph reach
pub small_sum : (xs : List GivenPoint) (k : ℕ) (d : GivenPoint) → AreWithin 4095 (sums xs) → k < length xs
    → unsigned_abs (get_or xs k d).sum ≤ 2 ^ 117
small_sum xs k d w h = omega (arith, within_at 4095 xs k d w h)

-- fewer tuples reach no further
pub within_more : (n m : ℕ) (s : List ℤ) → n ≤ m → AreWithin n s → AreWithin m s
within_more n m s h w = record { each = λ k d j. omega (arith, w.each k d j, mul-le-mul_right (2 ^ 105) h) }

pub still_small : (f : GivenPoint → GivenPoint) (xs ys : List GivenPoint) (i : ℕ) (d : GivenPoint) → i < length xs
    → AreWithin 32767 (sums xs) → ys ≡ map f (take i xs) ++ drop i xs → unsigned_abs (get_or ys i d).sum ≤ 2 ^ 120
still_small f xs ys i d h s e =
    let g : get_or ys i d ≡ get_or xs i d = ap (λ (l : List GivenPoint). get_or l i d) e ∙ unwritten f xs i d h in
    let P : GivenPoint → Type 0 = λ p. unsigned_abs p.sum ≤ 2 ^ 120 in
    let b : unsigned_abs (get_or xs i d).sum ≤ 2 ^ 120 = omega (arith, within_at 32767 xs i d s h) in
    subst P (sym g) b

pub near_none : (xs ys : List GivenPoint) → AreNear 0 xs ys
near_none xs ys = record { each = λ k d h. absurd (omega (arith, h)) }

pub near_on : (f : GivenPoint → GivenPoint) (xs ys : List GivenPoint) (i : ℕ) (y e : GivenPoint) → i < length xs
    → length ys ≡ length xs
    → ys ≡ map f (take i xs) ++ drop i xs → unsigned_abs y.sum ≤ unsigned_abs (get_or ys i e).sum + 2 ^ 105 → AreNear i xs ys
    → AreNear (i + 1) xs (set ys i y)
near_on f xs ys i y e h l s b w = record { each = λ k d j. by k d j }
  where
    here : (d : GivenPoint) → unsigned_abs (get_or (set ys i y) i d).sum ≤ unsigned_abs (get_or xs i d).sum + 2 ^ 105
    here d =
        let P : GivenPoint → Type 0 = λ p. unsigned_abs p.sum ≤ unsigned_abs (get_or xs i d).sum + 2 ^ 105 in
        let Q : GivenPoint → Type 0 = λ p. unsigned_abs y.sum ≤ unsigned_abs p.sum + 2 ^ 105 in
        let g : get_or ys i e ≡ get_or xs i d =
        ap (λ (z : List GivenPoint). get_or z i e) s ∙ unwritten f xs i e h ∙ get_or_default xs i e d h in
        let room : i < length ys = omega (arith, h, l) in
        subst P (sym (get_or-set_same ys i y d room)) (subst Q g b)

    other : (k : ℕ) (d : GivenPoint) → k < i
        → unsigned_abs (get_or (set ys i y) k d).sum ≤ unsigned_abs (get_or xs k d).sum + 2 ^ 105
    other k d j =
        let P : GivenPoint → Type 0 = λ p. unsigned_abs p.sum ≤ unsigned_abs (get_or xs k d).sum + 2 ^ 105 in
        let apart : k ≢ i = omega (arith, j) in
        subst P (sym (get_or-set_other ys i k y d apart)) (w.each k d j)

    at : (k : ℕ) → k ≡ i → (d : GivenPoint)
        → unsigned_abs (get_or (set ys i y) k d).sum ≤ unsigned_abs (get_or xs k d).sum + 2 ^ 105
    at k e d =
        let P : ℕ → Type 0 = λ n. unsigned_abs (get_or (set ys i y) n d).sum ≤ unsigned_abs (get_or xs n d).sum + 2 ^ 105 in
        subst P (sym e) (here d)

    pick : (k : ℕ) (d : GivenPoint) → k < i + 1 → (b : Bool) → nat_lt k i ≡ b
        → unsigned_abs (get_or (set ys i y) k d).sum ≤ unsigned_abs (get_or xs k d).sum + 2 ^ 105
    pick k d j true e = other k d (ltb-true _ _ e)
    pick k d j false e = at k (omega (arith, j, not_less k i e)) d

    by : (k : ℕ) (d : GivenPoint) → k < i + 1
        → unsigned_abs (get_or (set ys i y) k d).sum ≤ unsigned_abs (get_or xs k d).sum + 2 ^ 105
    by k d j = pick k d j (nat_lt k i) refl

-- sums within what n tuples reach are, after one more, within what n + 1 reach
pub grown : (n : ℕ) (xs ys : List GivenPoint) → length ys ≡ length xs → AreNear (length xs) xs ys → AreWithin n (sums xs)
    → AreWithin (n + 1) (sums ys)
grown n xs ys l near w = record { each = each }
  where
    some_point : (zs : List GivenPoint) (k : ℕ) → k < length zs → GivenPoint
    some_point [] k h = absurd (omega arith)
    some_point (z ∷ zs) k h = z

    each : (k : ℕ) (d : ℤ) → k < length (sums ys) → unsigned_abs (get_or (sums ys) k d) ≤ (n + 1) * 2 ^ 105
    each k d h =
        let room : k < length xs = omega (arith, length-map ys (λ (p : GivenPoint). p.sum), l, h) in
        let p = some_point xs k room in
        let P : ℤ → Type 0 = λ s. unsigned_abs s ≤ (n + 1) * 2 ^ 105 in
        let inside : k < length (sums ys) = h in
        subst P (sym (sum_at ys k p) ∙ get_or_default (sums ys) k p.sum d inside)
        (omega (arith, near.each k p room, within_at n xs k p w room))

pub near_end : (n i : ℕ) (xs ys : List GivenPoint) → n ≤ i → AreNear i xs ys → AreNear n xs ys
near_end n i xs ys h w = record { each = λ k d j. w.each k d (omega (arith, h, j)) }

pub ruleset add_steps = (still_small, near_none, near_on, near_end)

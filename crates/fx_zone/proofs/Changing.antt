-- A loop over a range changes the points that its test chooses: `range_chooses`, `without_chooses`.
-- It serves the shifts and the flags of ranges of points.
use Rattle.std.proofs.Common.{◌≡◌, refl, ap, ◌∙◌, arith, ℕ, zero, suc, ◌+◌, ◌<◌, ◌≤◌, Bool, true, false, ◌&&◌, not}
use Rattle.std.proofs.Common.{if◌then◌else◌, List, [], ◌∷◌, length, get_or, set, add-one}
use Rattle.std.specs.Prelude.{nat_le}
use Rattle.std.proofs.lemmas.Bool.{lt-ltb, le-ltb, le-leb, lt-leb}
use Rattle.fx_zone.specs.declared.point.ZonePoint.{ZonePoint}
use Rattle.fx_zone.specs.declared.range.PointRange.{PointRange}
use Rattle.fx_zone.specs.Figures.{each_changed, in_range, in_range_without, is_number}

-- ---- the numbers of a range

-- a test that chooses none before first, and none from past on
pub record Chooses (t : ℕ → Bool) (first past : ℕ) : Type 0 where
  pub before : (m : ℕ) → m < first → t m ≡ false
  pub after : (m : ℕ) → past ≤ m → t m ≡ false

and_false : (b : Bool) → (b && false) ≡ false
and_false true = refl
and_false false = refl

pub range_chooses : (first past : ℕ) → Chooses (in_range first past) first past
range_chooses first past = record {
  before = λ m h. rw (lt-leb first m h) refl;
  after = λ m h. rw (le-ltb m past h) (and_false (nat_le first m));
}

pub without_chooses : (r : PointRange) → Chooses (in_range_without r) r.first r.past
without_chooses r = record {
  before = λ m h. rw (lt-leb r.first m h) refl;
  after = λ m h. rw (le-ltb m r.past h, and_false (nat_le r.first m)) refl;
}

pub range_inside : (first past m : ℕ) → first ≤ m → m < past → in_range first past m ≡ true
range_inside first past m h k = rw (le-leb first m h, lt-ltb m past k) refl

pub without_inside : (r : PointRange) (m : ℕ) (b : Bool) → r.first ≤ m → m < r.past → not (is_number m r.except) ≡ b
    → in_range_without r m ≡ b
without_inside r m b h k e = rw (le-leb r.first m h, lt-ltb m r.past k) e

-- ---- the first points of a list, each changed if the test chooses its number

module _ (t : ℕ → Bool) (change : ZonePoint → ZonePoint) where
  pub changed_front : ℕ → ℕ → List ZonePoint → List ZonePoint
  changed_front zero n xs = xs
  changed_front (suc k) n [] = []
  changed_front (suc k) n (x ∷ xs) = (if t n then change x else x) ∷ changed_front k (suc n) xs

  front_set : (k n m : ℕ) (xs : List ZonePoint) (p : ZonePoint) → k < length xs → m ≡ n + k → t m ≡ true
      → set (changed_front k n xs) k (change (get_or (changed_front k n xs) k p)) ≡ changed_front (suc k) n xs
  unfolding changed_front
  front_set k n m [] p h e b = absurd (omega (arith, h))
  front_set zero n m (x ∷ xs) p h e b = let s : m ≡ n = omega (arith, e) in rw (rw s at b) refl
  front_set (suc k) n m (x ∷ xs) p h e b =
      ap (λ l. (if t n then change x else x) ∷ l) (front_set k (suc n) m xs p (omega (arith, h)) (omega (arith, e)) b)

  front_skip : (k n m : ℕ) (xs : List ZonePoint) → m ≡ n + k → t m ≡ false → changed_front k n xs ≡ changed_front (suc k) n xs
  unfolding changed_front
  front_skip zero n m [] e b = refl
  front_skip zero n m (x ∷ xs) e b = let s : m ≡ n = omega (arith, e) in rw (rw s at b) refl
  front_skip (suc k) n m [] e b = refl
  front_skip (suc k) n m (x ∷ xs) e b =
      ap (λ l. (if t n then change x else x) ∷ l) (front_skip k (suc n) m xs (omega (arith, e)) b)

  front_none : (k n : ℕ) (xs : List ZonePoint) → ((m : ℕ) → m < n + k → t m ≡ false) → xs ≡ changed_front k n xs
  unfolding changed_front
  front_none zero n xs h = refl
  front_none (suc k) n [] h = refl
  front_none (suc k) n (x ∷ xs) h =
      rw (h n (omega arith)) (ap (λ l. x ∷ l) (front_none k (suc n) xs (λ m l. h m (omega (arith, l)))))

  front_all : (k n : ℕ) (xs : List ZonePoint) → ((m : ℕ) → n + k ≤ m → t m ≡ false)
      → changed_front k n xs ≡ each_changed t change n xs
  unfolding changed_front each_changed
  front_all zero n [] h = refl
  front_all zero n (x ∷ xs) h =
      rw (h n (omega arith)) (ap (λ l. x ∷ l) (front_all zero (suc n) xs (λ m l. h m (omega (arith, l)))))
  front_all (suc k) n [] h = refl
  front_all (suc k) n (x ∷ xs) h =
      ap (λ l. (if t n then change x else x) ∷ l) (front_all k (suc n) xs (λ m l. h m (omega (arith, l))))

  -- ---- the loop

  pub range_begun : (first past : ℕ) (xs : List ZonePoint) → Chooses t first past → xs ≡ changed_front first 0 xs
  range_begun first past xs c = front_none first 0 xs (λ m l. c.before m (omega (arith, l)))

  pub range_step : (n : ℕ) (xs ys : List ZonePoint) (p v : ZonePoint) → ys ≡ changed_front n 0 xs → n < length xs → t n ≡ true
      → p ≡ get_or ys n p → v ≡ change p → set ys n v ≡ changed_front (n + 1) 0 xs
  range_step n xs ys p v e h b g c =
      let value : v ≡ change (get_or (changed_front n 0 xs) n p) = c ∙ ap change (g ∙ ap (λ l. get_or l n p) e) in
      (λ i. set (e i) n (value i)) ∙ rw add-one (front_set n 0 n xs p h (omega arith) b)

  pub range_skip : (n : ℕ) (xs ys : List ZonePoint) → ys ≡ changed_front n 0 xs → t n ≡ false → ys ≡ changed_front (n + 1) 0 xs
  range_skip n xs ys e b = e ∙ rw add-one (front_skip n 0 n xs (omega arith) b)

  pub range_whole : (first past n : ℕ) (xs ys : List ZonePoint) → ys ≡ changed_front n 0 xs → Chooses t first past → past ≤ n
      → ys ≡ each_changed t change 0 xs
  range_whole first past n xs ys e c h = e ∙ front_all n 0 xs (λ m l. c.after m (omega (arith, l, h)))

-- Drop-out control by the nearer pixel sets the mirrored pixels in a line of pixels in reverse order: `bridged_mirrored`.
-- Serves moved outlines with drop-out control.
use Rattle.std.proofs.Common.{◌≡◌, refl, sym, subst, ◌↔◌, ◌⊎◌, inl, inr, ℕ, ◌+◌, ℤ, pos, negsuc, ◌+ℤ◌, ◌-ℤ◌, ◌*ℤ◌, neg_ℤ}
use Rattle.std.proofs.Common.{zero, suc, add-one, List, [], ◌∷◌, map, Any, arith}
use Rattle.fx_fixed.specs.Polynomial.{var, num, ◌⊞◌, ◌⊠◌, minus, ◌⊟◌}
use Rattle.fx_fixed.proofs.Ring.{ring}
use Rattle.fx_fixed.proofs.Linear.{signed_linear}
use Rattle.fx_winding.specs.Area.{Place}
use Rattle.fx_winding.specs.Winding.{Span, IsOn, IsCovered}
use Rattle.fx_winding.proofs.Covers.{any_map, any_unmap}
use Rattle.fx_dropout.specs.Dropout.{IsGap, IsCount, IsNextNearer, IsBridged, IsClosedByLeft, IsClosedByRight, place_on}
use Rattle.fx_dropout.proofs.Counts.{count_is_one}
use Rattle.fx_symmetry.specs.Dropout.{IsHereNearer}
use Rattle.fx_symmetry.proofs.Covering.{mirror}

pub mirror_next : (i : ℤ) → mirror (i +ℤ pos 1) +ℤ pos 1 ≡ mirror i
mirror_next i = omega (arith, signed_linear)

mirror_before : (i : ℤ) → mirror (i +ℤ pos 1) ≡ mirror i -ℤ pos 1
mirror_before i = omega (arith, signed_linear)

mirror_after : (i : ℤ) → mirror ((i -ℤ pos 1) +ℤ pos 1) ≡ mirror i
mirror_after i = omega (arith, signed_linear)

-- ---- places that are not covered are on no piece
any_off : (p : Place) (ss : List Span) (P : Span → Type 0) → ¬ (IsCovered p ss) → Any P ss → Any (λ s. ¬ (IsOn p s) × P s) ss
unfolding IsCovered
any_off p ss P n (k, s, within, is, h) = (k, s, within, is, (λ on. n (inl (k, s, within, is, on)), h))

any_as : (P Q : Span → Type 0) → ((s : Span) → P s → Q s) → (ss : List Span) → Any P ss → Any Q ss
any_as P Q to ss (k, s, within, is, h) = (k, s, within, is, to s h)

-- what the pieces off two places have, the moved pieces have, and the other way round
pub any_moved : (m : Span → Span) (p q : Place) (ss : List Span) (P Q : Span → Type 0) → ¬ (IsCovered p ss) → ¬ (IsCovered q ss)
    → ((s : Span) → ¬ (IsOn p s) → ¬ (IsOn q s) → Q (m s) ↔ P s) → Any Q (map m ss) ↔ Any P ss
any_moved m p q ss P Q np nq e = (
  λ a. any_as (λ s. ¬ (IsOn p s) × (¬ (IsOn q s) × Q (m s))) P (λ s h. (e s h.0 h.1.0).0 h.1.1) ss
      (any_off p ss (λ s. ¬ (IsOn q s) × Q (m s)) np (any_off q ss (λ s. Q (m s)) nq
      (any_unmap m (λ s. Q (m s)) Q (λ s h. h) ss a))),
  λ a. any_map m (λ s. Q (m s)) Q (λ s h. h) ss
      (any_as (λ s. ¬ (IsOn p s) × (¬ (IsOn q s) × P s)) (λ s. Q (m s)) (λ s h. (e s h.0 h.1.0).1 h.1.1) ss
      (any_off p ss (λ s. ¬ (IsOn q s) × P s) np (any_off q ss P nq a))),
)

-- ---- counts
-- one more place below the others
count_below : (P : ℕ → Type 0) (n m : ℕ) → P 0 → IsCount (λ k. P (k + 1)) n m → IsCount P (suc n) (suc m)
unfolding IsCount
count_below P zero m p h = inl (p, m, refl, h)
count_below P (suc n) m p (inl (q, l, d, h)) =
    inl (subst P (add-one n) q, m, refl, subst (λ (k : ℕ). IsCount P (suc n) k) (sym d) (count_below P n l p h))
count_below P (suc n) m p (inr (q, h)) = inr (λ r. q (subst P (sym (add-one n)) r), count_below P n m p h)

none_below : (P : ℕ → Type 0) (n m : ℕ) → ¬ (P 0) → IsCount (λ k. P (k + 1)) n m → IsCount P (suc n) m
unfolding IsCount
none_below P zero m p h = inr (p, h)
none_below P (suc n) m p (inl (q, l, d, h)) = inl (subst P (add-one n) q, l, d, none_below P n l p h)
none_below P (suc n) m p (inr (q, h)) = inr (λ r. q (subst P (sym (add-one n)) r), none_below P n m p h)

-- the same count of what holds together in reverse order
count_reversed : (P Q : ℕ → Type 0) (n m : ℕ) → ((k l : ℕ) → k + l + 1 ≡ n → P k ↔ Q l) → IsCount P n m → IsCount Q n m
unfolding IsCount
count_reversed P Q zero m e h = h
count_reversed P Q (suc n) m e (inl (p, l, d, h)) =
    subst (λ (k : ℕ). IsCount Q (suc n) k) (sym d) (count_below Q n l ((e n 0 (omega arith)).0 p)
    (count_reversed P (λ k. Q (k + 1)) n l (λ k i b. e k (i + 1) (omega (arith, b))) h))
count_reversed P Q (suc n) m e (inr (p, h)) = none_below Q n m (λ q. p ((e n 0 (omega arith)).1 q))
    (count_reversed P (λ k. Q (k + 1)) n m (λ k i b. e k (i + 1) (omega (arith, b))) h)

-- ---- the nearer one
-- the places of a segment from its end are those of the mirrored segment
pub back_along : (i : ℤ) (m n : ℕ) → m + n ≡ 128
    → neg_ℤ ((pos 128 *ℤ i +ℤ pos 64) +ℤ pos n) ≡ (pos 128 *ℤ mirror (i +ℤ pos 1) +ℤ pos 64) +ℤ pos m
back_along i m n h =
    let e : pos 128 *ℤ mirror (i +ℤ pos 1) ≡ neg_ℤ (pos 128 *ℤ i) -ℤ pos 256 =
    ring (i ∷ []) (num (pos 128) ⊠ (num (negsuc 0) ⊟ (var 0 ⊞ num (pos 1)))) (minus (num (pos 128) ⊠ var 0) ⊟ num (pos 256)) tt in
    omega (arith, signed_linear, e, h)

-- a half of a segment, counted from the other end
half_reversed : (C D : ℕ → Type 0) → ((k l : ℕ) → k + l ≡ 128 → C k ↔ D l) → (m n count : ℕ) → m + n ≡ 66
    → IsCount (λ k. C (k + m)) 63 count ↔ IsCount (λ k. D (k + n)) 63 count
half_reversed C D e m n count h = (
  count_reversed (λ k. C (k + m)) (λ k. D (k + n)) 63 count (λ k l f. e (k + m) (l + n) (omega (arith, f, h))),
  count_reversed (λ k. D (k + n)) (λ k. C (k + m)) 63 count
      (λ k l f. let c = e (l + m) (k + n) (omega (arith, f, h)) in (c.1, c.0)),
)

-- the second one of a mirrored segment is nearer if the first one of the segment is
pub nearer_reversed : (ss ts : List Span) (i j k l : ℤ)
    → ((m n : ℕ) → m + n ≡ 128 → IsCovered (place_on k l m) ts ↔ IsCovered (place_on i j n) ss)
    → IsNextNearer ts k l ↔ IsHereNearer ss i j
nearer_reversed ss ts i j k l e = (
  λ h. record {
    here = h.next;
    next = h.here;
    first_half = (half 65 1 h.next refl).0 h.second_half;
    second_half = (half 1 65 h.here refl).0 h.first_half;
    more = h.more;
  },
  λ h. record {
    here = h.next;
    next = h.here;
    first_half = (half 1 65 h.next refl).1 h.second_half;
    second_half = (half 65 1 h.here refl).1 h.first_half;
    more = h.more;
  },
)
  where
    half : (m n count : ℕ) → m + n ≡ 66 → IsCount (λ n. IsCovered (place_on k l (n + m)) ts) 63 count
        ↔ IsCount (λ k. IsCovered (place_on i j (k + n)) ss) 63 count
    half = half_reversed (λ n. IsCovered (place_on k l n) ts) (λ n. IsCovered (place_on i j n) ss) e

pub one_nearer : (ss : List Span) (i j : ℤ) → IsNextNearer ss i j → IsHereNearer ss i j → ⊥
one_nearer ss i j n h =
    let e = count_is_one (λ k. IsCovered (place_on i j (k + 1)) ss) 63 n.here h.here n.first_half h.first_half in
    let f = count_is_one (λ k. IsCovered (place_on i j (k + 65)) ss) 63 n.next h.next n.second_half h.second_half in
    let a = n.more in
    let b = h.more in
    omega (arith, e, f, a, b)

-- ---- a row closed, mirrored
-- what the two rows have to do with each other
pub record AreMirrored (ss ts : List Span) (In To Near Far So At : ℤ → ℤ → Type 0) : Type 0 where
  pub inside : (i j : ℤ) → To (mirror i) j ↔ In i j
  pub set : (i j : ℤ) → At (mirror i) j ↔ So i j
  pub gap : (i j : ℤ) → IsGap ts At (mirror (i +ℤ pos 1)) j ↔ IsGap ss So i j
  pub one : (i j : ℤ) → IsGap ss So i j → Near i j ⊎ Far (mirror (i +ℤ pos 1)) j
  pub not_both : (i j : ℤ) → Near i j → Far (mirror (i +ℤ pos 1)) j → ⊥

-- where the next pixel is chosen in a gap (N) or in the mirrored gap (F), and not in both; and a pixel is inside (I), as when
-- mirrored (T)
other_chosen : {N F I T : Type 0} → N ⊎ F → (N → F → ⊥) → T ↔ I → F ⊎ ¬ T ↔ ¬ N ⊎ ¬ I
other_chosen o n e = grind arith

one_chosen : {N F I T : Type 0} → N ⊎ F → (N → F → ⊥) → T ↔ I → ¬ F ⊎ ¬ T ↔ N ⊎ ¬ I
one_chosen o n e = grind arith

pub bridged_mirrored : (ss ts : List Span) (In To Near Far So At : ℤ → ℤ → Type 0) → AreMirrored ss ts In To Near Far So At
    → (i j : ℤ) → IsBridged ts To Far At (mirror i) j ↔ IsBridged ss In Near So i j
bridged_mirrored ss ts In To Near Far So At m i j = grind (arith, m.set i j, m.inside i j, first, second)
  where
    left : (i : ℤ) → IsClosedByRight ts To Far At (mirror (i +ℤ pos 1)) j ↔ IsClosedByLeft ss In Near So i j
    left i =
        let chosen = λ (g : IsGap ss So i j). other_chosen (m.one i j g) (m.not_both i j) (m.inside (i +ℤ pos 1) j) in (
          λ c. let g = (m.gap i j).0 c.gap in record { gap = g; chosen = (chosen g).0 c.chosen },
          λ c. record { gap = (m.gap i j).1 c.gap; chosen = (chosen c.gap).1 c.chosen },
        )

    right : (i : ℤ) → IsClosedByLeft ts To Far At (mirror (i +ℤ pos 1)) j ↔ IsClosedByRight ss In Near So i j
    right i =
        let next = subst (λ z. To z j ↔ In i j) (sym (mirror_next i)) (m.inside i j) in
        let chosen = λ (g : IsGap ss So i j). one_chosen (m.one i j g) (m.not_both i j) next in (
          λ c. let g = (m.gap i j).0 c.gap in record { gap = g; chosen = (chosen g).0 c.chosen },
          λ c. record { gap = (m.gap i j).1 c.gap; chosen = (chosen c.gap).1 c.chosen },
        )

    first : IsClosedByRight ts To Far At (mirror i -ℤ pos 1) j ↔ IsClosedByLeft ss In Near So i j
    first = subst (λ z. IsClosedByRight ts To Far At z j ↔ IsClosedByLeft ss In Near So i j) (mirror_before i) (left i)

    second : IsClosedByLeft ts To Far At (mirror i) j ↔ IsClosedByRight ss In Near So (i -ℤ pos 1) j
    second = subst (λ z. IsClosedByLeft ts To Far At z j ↔ IsClosedByRight ss In Near So (i -ℤ pos 1) j) (mirror_after i)
        (right (i -ℤ pos 1))

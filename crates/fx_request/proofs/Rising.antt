-- The list of code points rises and has those of the request (`rising_are_risen`), and no other does: `risen_is_one`.
-- Serves the law `rising` and the answer of `rising_codes`; in `fx_strike` the answers of `characters`.
use Rattle.std.proofs.Common.{◌≡◌, ◌⊎◌, inl, inr, refl, sym, ap, ◌∙◌, subst, arith, ℕ, suc, ◌<◌, ◌≤◌, Bool, true, false, List, []}
use Rattle.std.proofs.Common.{◌∷◌, length}
use Rattle.std.specs.Prelude.{◌||◌}
use Rattle.std.specs.List.{dedup, list_any}
use Rattle.std.specs.List.Sorted.{IsPermutation, IsSorted, IsStrictlyIncreasing}
use Rattle.std.specs.Ordering.{nat_cmp}
use Rattle.std.proofs.lemmas.Bool.Decides.{nat_tests}
use Rattle.std.proofs.lemmas.List.Kept.{Contains-dedup_nat, Contains-from_dedup}
use Rattle.std.proofs.lemmas.List.Sorted.{Contains-permutation, IsPermutation-sym}
use Rattle.std.proofs.lemmas.Map.Keys.{IsStrictlyIncreasing-dedup}
use Rattle.std.proofs.lemmas.Bool.{or_parts}
use lib.Dec.{eqb}
use Rattle.fx_fixed.proofs.Rising.{IsAbove, Rise, IsIn, contains_in, in_contains, rise_increasing, increasing_one}
use Rattle.fx_request.specs.Limits.{max_characters}
use Rattle.fx_request.specs.Characters.{with_code, rising, RisingAreRisen, RisenIsOne}

-- ---- one code point put in its place

neither : (a b : Bool) → a ≡ false → b ≡ false → (a || b) ≡ false
neither true b p q = absurd (cc)
neither false b p q = q

by_order : {P : Type 0} (c d : ℕ) → (c < d → P) → (c ≡ d → P) → (d < c → P) → P
by_order c d f g h = elim (three c d) [ inl p ↦ f p | inr (inl p) ↦ g p | inr (inr p) ↦ h p ]
  where
    three : (c d : ℕ) → (c < d) ⊎ ((c ≡ d) ⊎ (d < c))
    three c d = grind arith

put_before : (c d : ℕ) (ds : List ℕ) → c < d → with_code c (d ∷ ds) ≡ c ∷ d ∷ ds
put_before c d ds h = grind (arith, nat_tests)

put_at : (c d : ℕ) (ds : List ℕ) → c ≡ d → with_code c (d ∷ ds) ≡ d ∷ ds
put_at c d ds h = grind (arith, nat_tests)

put_after : (c d : ℕ) (ds : List ℕ) → d < c → with_code c (d ∷ ds) ≡ d ∷ with_code c ds
put_after c d ds h = grind (arith, nat_tests)

above_put : (b c : ℕ) (ds : List ℕ) → b < c → IsAbove b ds → IsAbove b (with_code c ds)
above_put b c [] h g = h
above_put b c (d ∷ ds) h g =
    let P : List ℕ → Type 0 = λ xs. IsAbove b xs in
    by_order c d
    (λ e. subst P (sym (put_before c d ds e)) h)
    (λ e. subst P (sym (put_at c d ds e)) g)
    (λ e. subst P (sym (put_after c d ds e)) g)

put_rises : (c : ℕ) (ds : List ℕ) → Rise ds → Rise (with_code c ds)
put_rises c [] h = (tt, tt)
put_rises c (d ∷ ds) h =
    let P : List ℕ → Type 0 = λ xs. Rise xs in
    by_order c d
    (λ e. subst P (sym (put_before c d ds e)) (e, h))
    (λ e. subst P (sym (put_at c d ds e)) h)
    (λ e. subst P (sym (put_after c d ds e)) (above_put d c ds e h.0, put_rises c ds h.1))

-- what is put in, and what was there
put_in : (x c : ℕ) (ds : List ℕ) → (x ≡ c) ⊎ IsIn x ds → IsIn x (with_code c ds)
put_in x c [] h = h
put_in x c (d ∷ ds) h =
    let P : List ℕ → Type 0 = λ xs. IsIn x xs in
    by_order c d
    (λ e. subst P (sym (put_before c d ds e)) h)
    (λ e. subst P (sym (put_at c d ds e)) (elim h [ inl p ↦ inl (p ∙ e) | inr p ↦ p ]))
    (λ e. subst P (sym (put_after c d ds e))
    (elim h [ inl p ↦ inr (put_in x c ds (inl p)) | inr (inl p) ↦ inl p | inr (inr p) ↦ inr (put_in x c ds (inr p)) ]))

put_from : (x c : ℕ) (ds : List ℕ) → IsIn x (with_code c ds) → (x ≡ c) ⊎ IsIn x ds
put_from x c [] h = h
put_from x c (d ∷ ds) h =
    let P : List ℕ → Type 0 = λ xs. IsIn x xs in
    by_order c d
    (λ e. subst P (put_before c d ds e) h)
    (λ e. inr (subst P (put_at c d ds e) h))
    (λ e. elim (subst P (put_after c d ds e) h) [ inl p ↦ inr (inl p) | inr p ↦ past x c d ds (put_from x c ds p) ])
  where
    past : (x c d : ℕ) (ds : List ℕ) → (x ≡ c) ⊎ IsIn x ds → (x ≡ c) ⊎ ((x ≡ d) ⊎ IsIn x ds)
    past x c d ds (inl p) = inl p
    past x c d ds (inr p) = inr (inr p)

rising_rises : (cs : List ℕ) → Rise (rising cs)
unfolding rising
rising_rises [] = tt
rising_rises (c ∷ cs) = put_rises c (rising cs) (rising_rises cs)

rising_in : (x : ℕ) (cs : List ℕ) → IsIn x cs → IsIn x (rising cs)
unfolding rising
rising_in x [] h = h
rising_in x (c ∷ cs) (inl h) = put_in x c (rising cs) (inl h)
rising_in x (c ∷ cs) (inr h) = put_in x c (rising cs) (inr (rising_in x cs h))

rising_from : (x : ℕ) (cs : List ℕ) → IsIn x (rising cs) → IsIn x cs
unfolding rising
rising_from x [] h = h
rising_from x (c ∷ cs) h = elim (put_from x c (rising cs) h) [ inl p ↦ inl p | inr p ↦ inr (rising_from x cs p) ]

-- ---- the laws

pub rising_are_risen : RisingAreRisen
rising_are_risen chars = record {
  rise = rise_increasing (rising chars) (rising_rises chars);
  same = λ c. (
    λ h. in_contains c chars (rising_from c chars (contains_in c (rising chars) h)),
    λ h. in_contains c (rising chars)
        (rising_in c chars (contains_in c chars h)),
  );
}

pub risen_is_one : RisenIsOne
risen_is_one chars codes others p q =
    increasing_one codes others p.rise q.rise (λ x h. (q.same x).1 ((p.same x).0 h)) (λ x h. (p.same x).1 ((q.same x).0 h))

-- sorted and without repeats
pub sorted_is_rising : (chars sorted codes : List ℕ) → IsPermutation chars sorted → IsSorted nat_cmp sorted
    → codes ≡ dedup eqb sorted → codes ≡ rising chars
sorted_is_rising chars sorted codes p s e =
    e ∙ risen_is_one chars (dedup eqb sorted) (rising chars) (record {
      rise = IsStrictlyIncreasing-dedup sorted s;
      same = λ c. (
        λ h. Contains-permutation sorted chars c (IsPermutation-sym chars sorted p) (Contains-from_dedup eqb sorted c h),
        λ h. Contains-dedup_nat sorted c (Contains-permutation chars sorted c p h),
      );
    }) (rising_are_risen chars)

-- rising from the start
pub risen_is_rising : (chars : List ℕ) → IsStrictlyIncreasing chars → chars ≡ rising chars
risen_is_rising chars h =
    risen_is_one chars chars (rising chars) (record { rise = h; same = λ c. (λ x. x, λ x. x) }) (rising_are_risen chars)

-- no more than the request has
pub length_rising : (chars : List ℕ) → length (rising chars) ≤ length chars
unfolding rising
length_rising [] = omega arith
length_rising (c ∷ cs) = omega (arith, length_rising cs, length_put c (rising cs))
  where
    length_put : (c : ℕ) (ds : List ℕ) → length (with_code c ds) ≤ suc (length ds)
    length_put c [] = omega arith
    length_put c (d ∷ ds) =
        let P : List ℕ → Type 0 = λ xs. length xs ≤ suc (length (d ∷ ds)) in
        by_order c d
        (λ e. subst P (sym (put_before c d ds e)) (omega arith))
        (λ e. subst P (sym (put_at c d ds e)) (omega arith))
        (λ e. subst P (sym (put_after c d ds e)) (omega (arith, length_put c ds)))

-- the same for a copy
pub few_rising : (chars codes : List ℕ) → codes ≡ rising chars → length chars ≤ max_characters → length codes ≤ max_characters
few_rising chars codes e h = omega (arith, ap length e, length_rising chars)

any_put : (p : ℕ → Bool) (c : ℕ) (ds : List ℕ) → p c ≡ false → list_any p ds ≡ false → list_any p (with_code c ds) ≡ false
any_put p c [] h g = neither (p c) false h refl
any_put p c (d ∷ ds) h g =
    let P : List ℕ → Type 0 = λ xs. list_any p xs ≡ false in
    let q = or_parts (p d) (list_any p ds) g in
    by_order c d
    (λ e. subst P (sym (put_before c d ds e)) (neither (p c) (list_any p (d ∷ ds)) h g))
    (λ e. subst P (sym (put_at c d ds e)) g)
    (λ e. subst P (sym (put_after c d ds e)) (neither (p d) (list_any p (with_code c ds)) q.0 (any_put p c ds h q.1)))

any_rising : (p : ℕ → Bool) (chars : List ℕ) → list_any p chars ≡ false → list_any p (rising chars) ≡ false
unfolding rising
any_rising p [] h = h
any_rising p (c ∷ cs) h = let q = or_parts (p c) (list_any p cs) h in any_put p c (rising cs) q.0 (any_rising p cs q.1)

-- none is past a limit if none of the request is
pub small_rising : (p : ℕ → Bool) (chars codes : List ℕ) → codes ≡ rising chars → list_any p chars ≡ false
    → list_any p codes ≡ false
small_rising p chars codes e h = ap (list_any p) e ∙ any_rising p chars h

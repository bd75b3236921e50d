-- Two lists that rise and have the same members are one: `increasing_one`.
-- For lists of code points in rising order, in the crates above.
use Rattle.std.proofs.Common.{◌≡◌, ◌⊎◌, inl, inr, refl, sym, ap, ◌∙◌, subst, arith, ℕ, zero, suc, ◌+◌, ◌<◌, List, [], ◌∷◌, length}
use Rattle.std.proofs.Common.{get_or}
use Rattle.std.specs.Prelude.{Contains}
use Rattle.std.specs.List.Sorted.{IsStrictlyIncreasing}

-- the first number is above c
abbrev pub IsAbove : ℕ → List ℕ → Type 0
IsAbove c [] = Unit {0}
IsAbove c (d ∷ ds) = c < d

-- each number is below the next
abbrev pub Rise : List ℕ → Type 0
Rise [] = Unit {0}
Rise (c ∷ cs) = IsAbove c cs × Rise cs

-- x is one of the numbers
abbrev pub IsIn : ℕ → List ℕ → Type 0
IsIn x [] = ⊥
IsIn x (c ∷ cs) = (x ≡ c) ⊎ IsIn x cs

-- ---- std's words

pub contains_in : (x : ℕ) (cs : List ℕ) → Contains cs x → IsIn x cs
contains_in x [] h = absurd (omega (arith, h.1))
contains_in x (c ∷ cs) h = at x c cs (contains_in x cs) h.0 h.1 h.2
  where
    at : (x c : ℕ) (cs : List ℕ) → (Contains cs x → IsIn x cs) → (k : ℕ) → k < length (c ∷ cs) → get_or (c ∷ cs) k x ≡ x
        → (x ≡ c) ⊎ IsIn x cs
    at x c cs f zero h g = inl (sym g)
    at x c cs f (suc k) h g = inr (f (k, omega arith, g))

pub in_contains : (x : ℕ) (cs : List ℕ) → IsIn x cs → Contains cs x
in_contains x [] h = absurd h
in_contains x (c ∷ cs) (inl h) = (0, omega arith, sym h)
in_contains x (c ∷ cs) (inr h) = let g = in_contains x cs h in (suc g.0, omega (arith, g.1), g.2)

next_at : (c : ℕ) (ds : List ℕ) (k : ℕ) → get_or (c ∷ ds) (suc k + 1) 0 ≡ get_or ds (k + 1) 0
next_at c ds k = let e : suc k + 1 ≡ suc (k + 1) = omega arith in ap (λ n. get_or (c ∷ ds) n 0) e

pub rise_increasing : (cs : List ℕ) → Rise cs → IsStrictlyIncreasing cs
rise_increasing [] h k g = absurd (omega arith)
rise_increasing (c ∷ []) h k g = absurd (omega arith)
rise_increasing (c ∷ d ∷ ds) h zero g = h.0
rise_increasing (c ∷ d ∷ ds) h (suc k) g =
    let P : ℕ → Type 0 = λ n. get_or (d ∷ ds) k 0 < n in subst P (sym (next_at c (d ∷ ds) k))
    (rise_increasing (d ∷ ds) h.1 k (omega arith))

pub increasing_rise : (cs : List ℕ) → IsStrictlyIncreasing cs → Rise cs
increasing_rise [] h = tt
increasing_rise (c ∷ []) h = (tt, tt)
increasing_rise (c ∷ d ∷ ds) h = (
  h 0 (omega arith),
  increasing_rise (d ∷ ds)
      (λ k g. let P : ℕ → Type 0 = λ n. get_or (d ∷ ds) k 0 < n in subst P (next_at c (d ∷ ds) k) (h (suc k) (omega arith))),
)

-- ---- one list

-- what comes after the first is above it
after_above : (c x : ℕ) (cs : List ℕ) → IsAbove c cs → Rise cs → IsIn x cs → c < x
after_above c x [] a h g = absurd g
after_above c x (d ∷ ds) a h (inl g) = subst (λ z. c < z) (sym g) a
after_above c x (d ∷ ds) a h (inr g) = let low : d < x = after_above d x ds h.0 h.1 g in omega arith

-- two with the same members
one_list : (xs ys : List ℕ) → Rise xs → Rise ys → ((x : ℕ) → IsIn x xs → IsIn x ys) → ((x : ℕ) → IsIn x ys → IsIn x xs) → xs ≡ ys
one_list [] [] p q f g = refl
one_list [] (d ∷ ds) p q f g = absurd (g d (inl refl))
one_list (c ∷ cs) [] p q f g = absurd (f c (inl refl))
one_list (c ∷ cs) (d ∷ ds) p q f g =
    let e : c ≡ d = elim (f c (inl refl)) [
      | inl h ↦ h
      | inr h ↦ elim
          (g d (inl refl)) [
            | inl k ↦ sym k
            | inr k ↦ absurd
                (clash c d (after_above d c ds q.0 q.1 h) (after_above c d cs p.0 p.1 k))
          ]
    ] in
    let there : (x : ℕ) → IsIn x cs → IsIn x ds =
    λ x h. elim (f x (inr h)) [ inr k ↦ k | inl k ↦ absurd (itself c x (after_above c x cs p.0 p.1 h) (k ∙ sym e)) ] in
    let back : (x : ℕ) → IsIn x ds → IsIn x cs =
    λ x h. elim (g x (inr h)) [ inr k ↦ k | inl k ↦ absurd (itself d x (after_above d x ds q.0 q.1 h) (k ∙ e)) ] in
    ap (λ z. z ∷ cs) e ∙ ap (λ zs. d ∷ zs) (one_list cs ds p.1 q.1 there back)
  where
    clash : (c d : ℕ) → d < c → c < d → ⊥
    clash c d h g = omega arith

    itself : (c x : ℕ) → c < x → x ≡ c → ⊥
    itself c x h g = omega arith

pub increasing_one : (xs ys : List ℕ) → IsStrictlyIncreasing xs → IsStrictlyIncreasing ys
    → ((x : ℕ) → Contains xs x → Contains ys x) → ((x : ℕ) → Contains ys x → Contains xs x) → xs ≡ ys
increasing_one xs ys p q f g =
    one_list xs ys (increasing_rise xs p) (increasing_rise ys q) (λ x h. contains_in x ys (f x (in_contains x xs h)))
    (λ x h. contains_in x xs (g x (in_contains x ys h)))

-- Pieces cover the same places in any order: `covered_permutation`.
-- Serves the laws of reversed, moved and halved pieces.
use Rattle.std.proofs.Common.{◌≡◌, ◌≢◌, refl, sym, ap, ◌∙◌, subst, ◌↔◌, ◌⊎◌, inl, inr, ℕ, zero, suc, ◌+◌, ◌<◌, ℤ, pos, ◌+ℤ◌, List}
use Rattle.std.proofs.Common.{[], ◌∷◌, Any, map, length, get_or, arith}
use Rattle.std.specs.List.{sum_by}
use Rattle.std.specs.List.Sorted.{IsPermutation}
use Rattle.std.proofs.Math.ListN.{get_or-map}
use Rattle.std.proofs.lemmas.List.{length-map, get_or_default}
use Rattle.std.proofs.lemmas.List.Sorted.{IsPermutation-sym, Contains-permutation, sum_by-IsPermutation}
use Rattle.std.proofs.lemmas.List.Sums.{sum_by-cons}
use borrow.Author.Differences.{up, down}
use Rattle.fx_fixed.proofs.Linear.{signed_linear}
use Rattle.fx_winding.specs.Area.{Place}
use Rattle.fx_winding.specs.Winding.{Span, IsOn, crossing, region, winding, IsCovered}

-- what a piece adds to the winding number, as two parts
parts_up : Place → Span → ℕ
parts_up p s = up (crossing p s +ℤ region p s)

parts_down : Place → Span → ℕ
parts_down p s = down (crossing p s +ℤ region p s)

winding_parts : (p : Place) (ss : List Span)
    → up (winding p ss) + sum_by (parts_down p) ss ≡ down (winding p ss) + sum_by (parts_up p) ss
unfolding parts_up parts_down
winding_parts p [] = refl
winding_parts p (s ∷ ss) =
    let u = sum_by-cons (λ s. up (crossing p s +ℤ region p s)) s ss in
    let d = sum_by-cons (λ s. down (crossing p s +ℤ region p s)) s ss in
    let rest = winding_parts p ss in
    omega (arith, signed_linear, u, d, rest)

pub winding_permutation : (p : Place) (ss ts : List Span) → IsPermutation ss ts → winding p ts ≡ winding p ss
winding_permutation p ss ts h = grind (arith, signed_linear, h, sum_by-IsPermutation, parts_up, parts_down, winding_parts)

pub any_permutation : (P : Span → Type 0) (ss ts : List Span) → IsPermutation ss ts → Any P ss → Any P ts
any_permutation P ss ts h (k, s, within, is, holds) =
    let c = Contains-permutation ss ts s h (k, within, is) in (c.0, s, c.1, c.2, holds)

covered_one_way : (p : Place) (ss ts : List Span) → IsPermutation ss ts → IsCovered p ss → IsCovered p ts
unfolding IsCovered
covered_one_way p ss ts h (inl a) = inl (any_permutation (IsOn p) ss ts h a)
covered_one_way p ss ts h (inr n) = inr (λ e. n (sym (winding_permutation p ss ts h) ∙ e))

-- the order of the pieces is of no account
pub covered_permutation : (p : Place) (ss ts : List Span) → IsPermutation ss ts → IsCovered p ts ↔ IsCovered p ss
covered_permutation p ss ts h = (λ k. covered_one_way p ts ss (IsPermutation-sym ss ts h) k, λ k. covered_one_way p ss ts h k)

pub any_map : {X Y : Type 0} (f : X → Y) (P : X → Type 0) (Q : Y → Type 0) → ((x : X) → P x → Q (f x)) → (xs : List X) → Any P xs
    → Any Q (map f xs)
any_map f P Q to xs h = grind (arith, signed_linear, to, h, length-map, get_or-map)

pub any_unmap : {X Y : Type 0} (f : X → Y) (P : X → Type 0) (Q : Y → Type 0) → ((x : X) → Q (f x) → P x) → (xs : List X)
    → Any Q (map f xs) → Any P xs
any_unmap f P Q from [] (k, y, within, is, holds) = absurd (omega (arith, within))
any_unmap f P Q from (d ∷ ds) (k, y, within, is, holds) =
    let xs = d ∷ ds in
    let n = length-map xs f in
    let inside : k < length xs = omega (arith, n, within) in
    let e : y ≡ f (get_or xs k d) = sym is ∙ get_or_default (map f xs) k y (f d) within ∙ get_or-map f xs k d in
    (k, get_or xs k d, inside, get_or_default xs k (get_or xs k d) d inside, from (get_or xs k d) (subst Q e holds))

-- pieces that have the same places on them, and add the same or the negative, cover the same
pub covered_map : (p q : Place) (f : Span → Span) (g : ℤ → ℤ) → ((x y : ℤ) → g (x +ℤ y) ≡ g x +ℤ g y) → g (pos 0) ≡ pos 0
    → ((z : ℤ) → g z ≡ pos 0 → z ≡ pos 0) → ((s : Span) → IsOn q (f s) ↔ IsOn p s)
    → ((s : Span) → crossing q (f s) ≡ g (crossing p s))
    → ((s : Span) → region q (f s) ≡ g (region p s)) → (ss : List Span) → IsCovered q (map f ss) ↔ IsCovered p ss
unfolding IsCovered
covered_map p q f g sum none only on cross reg ss = (λ k. from k, λ k. to k)
  where
    wound : (ss : List Span) → winding q (map f ss) ≡ g (winding p ss)
    wound [] = sym none
    wound (s ∷ ss) = (λ i. (cross s i +ℤ reg s i) +ℤ wound ss i)
        ∙ sym (sum (crossing p s +ℤ region p s) (winding p ss) ∙ ap (λ z. z +ℤ g (winding p ss)) (sum (crossing p s) (region p s)))

    from : Any (IsOn q) (map f ss) ⊎ (winding q (map f ss) ≢ pos 0) → Any (IsOn p) ss ⊎ (winding p ss ≢ pos 0)
    from (inl a) = inl (any_unmap f (IsOn p) (IsOn q) (λ s. (on s).0) ss a)
    from (inr n) = inr (λ e. n (wound ss ∙ ap g e ∙ none))

    to : Any (IsOn p) ss ⊎ (winding p ss ≢ pos 0) → Any (IsOn q) (map f ss) ⊎ (winding q (map f ss) ≢ pos 0)
    to (inl a) = inl (any_map f (IsOn p) (IsOn q) (λ s. (on s).1) ss a)
    to (inr n) = inr (λ e. n (only (winding p ss) (sym (wound ss) ∙ e)))

-- ---- a piece first in a list
pub any_here : {X : Type 0} (P : X → Type 0) (x : X) (xs : List X) → P x → Any P (x ∷ xs)
any_here P x xs h = (0, x, omega arith, refl, h)

pub any_there : {X : Type 0} (P : X → Type 0) (x : X) (xs : List X) → Any P xs → Any P (x ∷ xs)
any_there P x xs (k, y, within, is, h) = (suc k, y, omega (arith, within), is, h)

pub any_cases : {X : Type 0} (P : X → Type 0) (x : X) (xs : List X) → Any P (x ∷ xs) → P x ⊎ Any P xs
any_cases P x xs (zero, y, within, is, h) = inl (subst P (sym is) h)
any_cases P x xs (suc k, y, within, is, h) = inr (k, y, omega (arith, within), is, h)

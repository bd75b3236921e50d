-- Points or components moved, one at a time, as `moved_on` says.
-- For `move_points` and `move_components`.
use Rattle.std.proofs.Common.{◌≡◌, ℕ, suc, ℤ, List, [], ◌∷◌, ◌++◌, length, Option, Some, None, refl, sym, ap, ◌∙◌, arith}
use Rattle.std.specs.Prelude.{option_map, option_and_then}
use Rattle.std.proofs.lemmas.List.{append_assoc, append-nil, length-append}
use Rattle.fx_moves.specs.declared.point.GivenPoint.{GivenPoint}
use Rattle.fx_vary.specs.Shape.{sum_at, all_moved}

fronted : {A : Type 0} (list : List A) (q : A) (o : Option (List A))
    → option_map (λ qs. (list ++ q ∷ []) ++ qs) o ≡ option_map (λ qs. list ++ qs) (option_map (λ qs. q ∷ qs) o)
fronted list q None = refl
fronted list q (Some qs) = ap Some (append_assoc list (q ∷ []) qs)

module _ {A : Type 0} (move : ℤ → ℤ → A → Option A) (xs ys : List GivenPoint) (list : List A) (all : List A) (t : Option (List A))
    (same : option_map (λ qs. list ++ qs) (all_moved move xs ys (length list) all) ≡ t) where
  rest_of : List A → Option A → Option (List A)
  rest_of ps o = option_map (λ qs. list ++ qs)
      (option_and_then (λ q. option_map (λ qs. q ∷ qs) (all_moved move xs ys (suc (length list)) ps)) o)

  begun : (p : A) (ps : List A) (k : ℕ) (o : Option A) → all ≡ p ∷ ps → k ≡ length list
      → o ≡ move (sum_at xs k) (sum_at ys k) p → rest_of ps o ≡ t
  unfolding all_moved rest_of
  begun p ps k o e ek eo = rw (eo, ek) (rw e at same)

  pub moved_on : (p q : A) (ps next : List A) (k : ℕ) → all ≡ p ∷ ps → k ≡ length list
      → Some q ≡ move (sum_at xs k) (sum_at ys k) p → next ≡ list ++ q ∷ []
      → option_map (λ qs. next ++ qs) (all_moved move xs ys (length next) ps) ≡ t
  unfolding rest_of
  moved_on p q ps next k e ek eq en =
      let long : length next ≡ suc (length list) = omega (arith, ap length en, length-append list (q ∷ [])) in
      ap (λ (n : ℕ). option_map (λ qs. next ++ qs) (all_moved move xs ys n ps)) long
      ∙ ap (λ (l : List A). option_map (λ qs. l ++ qs) (all_moved move xs ys (suc (length list)) ps)) en
      ∙ fronted list q (all_moved move xs ys (suc (length list)) ps) ∙ begun p ps k (Some q) e ek eq

  pub moved_off : (p : A) (ps : List A) (k : ℕ) → all ≡ p ∷ ps → k ≡ length list → None ≡ move (sum_at xs k) (sum_at ys k) p
      → t ≡ None
  unfolding rest_of
  moved_off p ps k e ek eq = sym (begun p ps k None e ek eq)

  pub moved_end : all ≡ [] → t ≡ Some list
  unfolding all_moved
  moved_end e = sym (rw e at same) ∙ ap Some (append-nil list)

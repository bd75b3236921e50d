-- The pairs of a delta instruction are popped one by one: `pair_next`, `pairs_done`.
-- It serves DELTAC.
use Rattle.std.proofs.Common.{◌≡◌, refl, sym, ap, ◌∙◌, arith, ℕ, suc, ◌-◌, ◌*◌, ◌≤◌, ℤ, pos, List, [], ◌∷◌, length, take, drop}
use Rattle.std.proofs.Common.{Bool, true, false, if◌then◌else◌}
use Rattle.std.proofs.lemmas.List.{reverse-reverse}
use Rattle.std.specs.Ordering.{int_eq}
use Rattle.fx_gstate.specs.declared.deltas.DeltaForm.{DeltaForm}
use Rattle.fx_gstate.specs.declared.state.GState.{GState}
use Rattle.fx_gstate.specs.Deltas.{delta_of, each_pair}
use Rattle.fx_stackops.specs.Store.{StoreView, with_stack}
use Rattle.fx_stackops.specs.Rows.{control_delta}
use Rattle.fx_stackops.specs.inner.Pairs.{pair_from, control_pair, control_pairs}

-- a control value moves whatever the stack is
if_stack : (b : Bool) (xs : List ℤ) (s t : StoreView)
    → (if b then with_stack xs s else with_stack xs t) ≡ with_stack xs (if b then s else t)
if_stack true xs s t = refl
if_stack false xs s t = refl

delta_stack : (form : DeltaForm) (g : GState) (ppem : ℕ) (i a : ℤ) (xs : List ℤ) (s : StoreView)
    → control_delta form g ppem i a (with_stack xs s) ≡ with_stack xs (control_delta form g ppem i a s)
unfolding control_delta
delta_stack form g ppem i a xs s = if_stack (int_eq (delta_of form g.delta_base g.delta_shift a).ppem (pos ppem)) xs _ s

module _ (form : DeltaForm) (g : GState) (ppem : ℕ) where
  -- the top first
  as_popped : (n : ℕ) (s : StoreView)
      → control_pairs form g ppem n s
      ≡ each_pair (control_delta form g ppem) (take (2 * n) s.stack) (with_stack (drop (2 * n) s.stack) s)
  unfolding control_pairs
  as_popped n s =
      ap (λ xs. each_pair (control_delta form g ppem) xs (with_stack (drop (2 * n) s.stack) s))
      (reverse-reverse (take (2 * n) s.stack))

  rest_same : (i a : ℤ) (rest : List ℤ) (s : StoreView) (m : ℕ)
      → each_pair (control_delta form g ppem) (take m rest) (control_delta form g ppem i a (with_stack (drop m rest) s))
      ≡ each_pair (control_delta form g ppem) (take m (control_delta form g ppem i a (with_stack rest s)).stack)
      (with_stack (drop m (control_delta form g ppem i a (with_stack rest s)).stack)
      (control_delta form g ppem i a (with_stack rest s)))
  rest_same i a rest s m =
      rw (delta_stack form g ppem i a rest s, delta_stack form g ppem i a (drop m rest) s) refl

  from_list : (xs : List ℤ) (s : StoreView) (n : ℕ) → 2 ≤ length xs
      → each_pair (control_delta form g ppem) (take (2 * suc n) xs) (with_stack (drop (2 * suc n) xs) s)
      ≡ control_pairs form g ppem n (pair_from (control_delta form g ppem) xs s)
  unfolding each_pair
  from_list [] s n h = absurd (omega (arith, h))
  from_list (i ∷ []) s n h = absurd (omega (arith, h))
  from_list (i ∷ a ∷ rest) s n h =
      let e : 2 * suc n ≡ suc (suc (2 * n)) = omega arith in
      rw e (rest_same i a rest s (2 * n)) ∙ sym (as_popped n _)

  -- one pair more is done
  pub pair_next : (left : ℕ) (s : StoreView) → 1 ≤ left → 2 ≤ length s.stack
      → control_pairs form g ppem left s ≡ control_pairs form g ppem (left - 1) (control_pair form g ppem s)
  unfolding control_pair
  pair_next left s l h =
      let k : left ≡ suc (left - 1) = omega (arith, l) in
      ap (λ n. control_pairs form g ppem n s) k ∙ as_popped (suc (left - 1)) s ∙ from_list s.stack s (left - 1) h

  -- no pair is left
  pub pairs_done : (left : ℕ) (s : StoreView) → left ≤ 0 → control_pairs form g ppem left s ≡ s
  unfolding each_pair
  pairs_done left s l = let z : left ≡ 0 = omega (arith, l) in ap (λ n. control_pairs form g ppem n s) z ∙ as_popped 0 s

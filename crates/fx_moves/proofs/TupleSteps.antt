-- Tuples, one at a time, as `tuples_on` says.
-- For `add_tuples`.
use Rattle.std.proofs.Common.{◌≡◌, ℕ, suc, ◌+◌, ◌-◌, ◌<◌, ◌≤◌, Bool, List, Option, Result, Ok, Err, refl, sym, ap, ◌∙◌, arith}
use Rattle.fx_fixed.specs.Chain.{◌>>=◌}
use Rattle.fx_tuples.specs.declared.fault.TupleFault.{TupleFault}
use Rattle.fx_moves.specs.declared.point.GivenPoint.{GivenPoint}
use Rattle.fx_tuples.specs.Tuples.{PointNumbersView, TupleView, TupleSettingView, TupleCursorView, next_tuple}
use Rattle.fx_moves.specs.Moves.{tuple_added, tuples_added}

module _ (s : TupleSettingView) (ends : List ℕ) (second : Bool) (numbers : Option PointNumbersView) where
  after_tuple : ℕ → List GivenPoint → Result (TupleView × TupleCursorView) TupleFault → Result (List GivenPoint) TupleFault
  after_tuple n ps r = r >>= λ r. tuple_added ends second r.0 ps >>= λ next. tuples_added s ends second numbers n r.1 next

  tuples_at : (n : ℕ) (c : TupleCursorView) (ps : List GivenPoint)
      → tuples_added s ends second numbers (suc n) c ps ≡ after_tuple n ps (next_tuple s numbers c)
  unfolding tuples_added after_tuple
  tuples_at n c ps = refl

  module _ (k n : ℕ) (c : TupleCursorView) (ps : List GivenPoint) (t : Result (List GivenPoint) TupleFault) (h : k < n)
      (same : tuples_added s ends second numbers (n - k) c ps ≡ t) where
    begun : after_tuple (n - (k + 1)) ps (next_tuple s numbers c) ≡ t
    begun =
        let left : n - k ≡ suc (n - (k + 1)) = omega arith in
        sym (tuples_at (n - (k + 1)) c ps) ∙ sym (ap (λ (m : ℕ). tuples_added s ends second numbers m c ps) left) ∙ same

    pub tuples_short : (f : TupleFault) → next_tuple s numbers c ≡ Err f → Err f ≡ t
    unfolding after_tuple
    tuples_short f e = sym (ap (after_tuple (n - (k + 1)) ps) e) ∙ begun

    read : (r : TupleView × TupleCursorView) → next_tuple s numbers c ≡ Ok r
        → (tuple_added ends second r.0 ps >>= λ next. tuples_added s ends second numbers (n - (k + 1)) r.1 next) ≡ t
    unfolding after_tuple
    read r e = sym (ap (after_tuple (n - (k + 1)) ps) e) ∙ begun

    pub tuples_off : (r : TupleView × TupleCursorView) (f : TupleFault) → next_tuple s numbers c ≡ Ok r
        → tuple_added ends second r.0 ps ≡ Err f → Err f ≡ t
    tuples_off r f e g =
        sym (ap (λ (q : Result (List GivenPoint) TupleFault). q
        >>= λ next. tuples_added s ends second numbers (n - (k + 1)) r.1 next) g)
        ∙ read r e

    pub tuples_on : (r : TupleView × TupleCursorView) (next : List GivenPoint) → next_tuple s numbers c ≡ Ok r
        → tuple_added ends second r.0 ps ≡ Ok next → tuples_added s ends second numbers (n - (k + 1)) r.1 next ≡ t
    tuples_on r next e g =
        sym (ap (λ (q : Result (List GivenPoint) TupleFault). q
        >>= λ next. tuples_added s ends second numbers (n - (k + 1)) r.1 next) g)
        ∙ read r e

  pub tuples_end : (k n : ℕ) (c : TupleCursorView) (ps : List GivenPoint) (t : Result (List GivenPoint) TupleFault) → n ≤ k
      → tuples_added s ends second numbers (n - k) c ps ≡ t → Ok ps ≡ t
  unfolding tuples_added
  tuples_end k n c ps t h same =
      let none : n - k ≡ 0 = omega arith in
      sym (ap (λ (m : ℕ). tuples_added s ends second numbers m c ps) none) ∙ same

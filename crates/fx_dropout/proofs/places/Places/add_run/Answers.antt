use Rattle.std.proofs.Common.{◌≡◌, ◌∙◌, ap, subst, inl, inr, ℕ, ◌<◌, ℤ, pos, ◌+ℤ◌, List, length, get_or, set, rules, arith}
use Rattle.std.proofs.lemmas.List.{get_or-set_same, get_or-set_other, length-set}
use Rattle.fx_fixed.specs.Ranges.{IsWithin}
use Rattle.fx_fixed.proofs.Linear.{signed_linear}
use Rattle.fx_fixed.proofs.Order.{below_or_not}
use Rattle.fx_dropout.specs.inner.Places.{IsRunOfPlaces}
use Rattle.fx_dropout.proofs.Stretching.{held}
use Rattle.fx_dropout.proofs.places.Places.add_run.Goals as goal

added : (xs : List ℤ) (n k : ℕ) (old value : ℤ) → n < length xs → k ≡ n → get_or xs n (pos 0) ≡ old → IsWithin 1048576 old
    → IsWithin 1 value
    → get_or (set xs n (held (held (get_or xs n (pos 0)) +ℤ held value))) k (pos 0) ≡ old +ℤ value
added xs n k old value l same e small one =
    let sum : held (held (get_or xs n (pos 0)) +ℤ held value) ≡ old +ℤ value = omega (arith, signed_linear, e, small, one) in
    ap (λ (j : ℕ). get_or (set xs n (held (held (get_or xs n (pos 0)) +ℤ held value))) j (pos 0)) same
    ∙ get_or-set_same xs n _ (pos 0) l ∙ sum

pub places-preserved : goal.places-preserved
places-preserved c =
    let xs = c.places.self.counts in
    let n = c.places.n in
    let inv = c.places.invariant in
    let is = subst IsRunOfPlaces c.in-Some.is c.requires.run in
    let b : n < length xs = search rules in
    record {
      long = length-set xs n _ ∙ inv.long;
      run = λ k h l. elim (below_or_not k n) [
        | inl m ↦ get_or-set_other xs n k _ (pos 0) (omega (arith, m)) ∙ inv.run k h m
        | inr m ↦
            added xs n k (get_or c.args.self.now.counts k (pos 0)) c.in-Some.run'.value b (omega (arith, l, m))
            (inv.others n (inr (omega arith)) ∙ ap (λ (j : ℕ). get_or c.args.self.now.counts j (pos 0)) (omega (arith, l, m)))
            (c.requires.small k (omega (arith, l, b, inv.long))) is.1
      ];
      others = λ k o. elim o [
        | inl m ↦ get_or-set_other xs n k _ (pos 0) (omega (arith, signed_linear, is.0, m)) ∙ inv.others k (inl m)
        | inr m ↦ get_or-set_other xs n k _ (pos 0) (omega (arith, m)) ∙ inv.others k (inr (omega (arith, m)))
      ];
      marks = inv.marks;
    }

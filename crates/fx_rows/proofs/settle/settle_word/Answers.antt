use Rattle.std.proofs.Common.{◌≡◌, ◌∙◌, ◌+◌, ◌^◌, ◌≤◌, List, ℕ, ℤ, pos, ◌+ℤ◌, get_or, cond, ap, sym, arith, w32, to_z, of_z, FitsSigned}
use Rattle.fx_fixed.specs.Ranges.{IsWithin}
use Rattle.fx_fixed.proofs.Linear.{signed_linear}
use Rattle.fx_rows.proofs.Changes.{IsSettling, settling_first, settling_more, count_to, count_at, settled, sum_zero, sum_first}
use Rattle.fx_rows.proofs.Changes.{emptying_first, emptying_more}
use Rattle.std.specs.Int.{bit_at}
use Rattle.fx_rows.specs.inner.Sums.{count_bit, sum_of, IsFirstBit}
use Rattle.fx_rows.proofs.Masks.{differs, bit_is}
use Rattle.fx_rows.proofs.settle.settle_word.Goals as goal

-- a sum as the code holds it, and whether it is not 0
record IsSumHeld (raw sum : ℤ) : Type 0 where
  fits : FitsSigned w32 raw
  value : to_z w32 (of_z w32 raw) ≡ sum
  bit : cond {A = ℕ} (differs (of_z w32 raw) 0) 1 0 ≡ count_bit (to_z w32 (of_z w32 raw)) 0

sum_held : (raw sum : ℤ) → raw ≡ sum → IsWithin (2 ^ 20) sum → IsSumHeld raw sum
sum_held raw sum e h =
    let fits : FitsSigned w32 raw = omega (arith, signed_linear, e, h) in
    let same : to_z w32 (of_z w32 raw) ≡ raw = omega (arith, signed_linear, e, h) in
    record { fits = fits; value = same ∙ e; bit = bit_is raw fits ∙ ap (λ (z : ℤ). count_bit z 0) (sym same) }

-- the counts of a word from a count on
abbrev AreSmall : List ℤ → ℕ → ℤ → Type 0
AreSmall diff from count = (i : ℕ) → i ≤ 32 → IsWithin (2 ^ 20) (count +ℤ sum_of diff from i)

first_held : (diff : List ℤ) (from : ℕ) (count number : ℤ) → AreSmall diff from count → number ≡ get_or diff from (pos 0)
    → IsSumHeld (to_z w32 (of_z w32 count) +ℤ to_z w32 (of_z w32 number)) (count +ℤ get_or diff from (pos 0))
first_held diff from count number small t =
    let z = sum_zero diff from in
    let o = sum_first diff from in
    let a = small 0 (omega arith) in
    let b = small 1 (omega arith) in
    sum_held _ _ (omega (arith, signed_linear, z, o, a, b, t)) (omega (arith, signed_linear, o, b))

pub overflow_add-sum : goal.overflow_add-sum
overflow_add-sum c = (first_held c.args.diff.now c.args.from c.args.count.now _ c.requires.small c.taken.ensures.value).fits

pub columns-init : goal.columns-init
columns-init c =
    let sum = first_held c.args.diff.now c.args.from c.args.count.now _ c.requires.small c.taken.ensures.value in
    let w = c.without_lowest-left.ensures in
    record {
      settling = settling_first c.args.diff.now c.args.from c.args.count.now _ c.with_rest-bits.result
          c.without_lowest-left.result sum.value
          (λ i h. c.with_rest-bits.ensures.rest i (omega arith) h ∙ sum.bit)
          w.first (λ i h l b. c.requires.touched i h l (sym (w.rest i h l) ∙ b));
      emptying = emptying_first c.args.diff.now c.taken.new.diff c.args.from c.args.touched c.without_lowest-left.result
          c.taken.ensures.here c.taken.ensures.others c.requires.touched
          (λ i h. let e : i ≡ 0 = omega arith in ap (bit_at c.without_lowest-left.result) e ∙ w.first) w.rest;
    }

next_held : (diff : List ℤ) (from : ℕ) (start count : ℤ) (bits left k : ℕ) (number : ℤ) → AreSmall diff from start
    → IsSettling diff from start count bits left → IsFirstBit left k → number ≡ get_or diff (from + k) (pos 0)
    → IsSumHeld (count +ℤ to_z w32 (of_z w32 number)) (count +ℤ get_or diff (from + k) (pos 0))
next_held diff from start count bits left k number small s first t =
    let to = count_to diff from start count bits left k s first in
    let at = count_at diff from start count bits left k s first in
    let a = small k (omega (arith, first.within)) in
    let b = small (k + 1) (omega (arith, first.within)) in
    sum_held _ _ (omega (arith, signed_linear, to, at, a, b, t)) (omega (arith, signed_linear, at, b))

pub overflow_add-sum-in-columns : goal.overflow_add-sum-in-columns
overflow_add-sum-in-columns c =
    let first = c.first_column-column.ensures in
    (next_held c.args.diff.now c.args.from c.args.count.now _ _ _ _ _ c.requires.small c.columns.invariant.settling first
    (c.taken-sum.ensures.value ∙ c.columns.invariant.emptying.due _ first.within first.set)).fits

pub columns-smaller : goal.columns-smaller
columns-smaller c = c.without_first-left.ensures.less

pub columns-preserved : goal.columns-preserved
columns-preserved c =
    let k = c.first_column-column.result in
    let first = c.first_column-column.ensures in
    let sum = next_held c.args.diff.now c.args.from c.args.count.now _ _ _ _ _ c.requires.small c.columns.invariant.settling first
    (c.taken-sum.ensures.value ∙ c.columns.invariant.emptying.due k first.within first.set) in
    let w = c.without_first-left.ensures in
    record {
      settling = settling_more c.args.diff.now c.args.from c.args.count.now _ _ c.columns.bits
          c.with_rest-bits-in-columns.result c.columns.left c.without_first-left.result k c.columns.invariant.settling first
          sum.value c.with_rest-bits-in-columns.ensures.before (λ j h l. c.with_rest-bits-in-columns.ensures.rest j h l ∙ sum.bit)
          (λ i. w.before k i first) (λ i h l. w.rest k i first h);
      emptying = emptying_more c.args.diff.now c.columns.diff c.taken-sum.new.diff c.args.from c.columns.left
          c.without_first-left.result k c.columns.invariant.emptying c.taken-sum.ensures.here c.taken-sum.ensures.others first
          (λ i. w.before k i first) (λ i h l. w.rest k i first h);
    }

pub returns-clause-bits : goal.returns-clause-bits
returns-clause-bits c = (settled c.args.diff.now c.args.from c.args.count.now (to_z w32 c.columns.sum-bits) c.columns.bits
    c.columns.left (omega arith) c.columns.invariant.settling).word

pub returns-clause-count : goal.returns-clause-count
returns-clause-count c = (settled c.args.diff.now c.args.from c.args.count.now (to_z w32 c.columns.sum-bits) c.columns.bits
    c.columns.left (omega arith) c.columns.invariant.settling).sum

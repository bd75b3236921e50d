use Rattle.std.proofs.Common.{ℕ, ◌<◌, ℤ, ◌^◌, pos, ◌+ℤ◌, ◌*ℤ◌, arith}
use Rattle.fx_fixed.proofs.Linear.{signed_linear}
use Rattle.fx_fixed.specs.Ranges.{IsWithin}
use Rattle.fx_fixed.proofs.Bounds.{product_within}
use Rattle.fx_rows.proofs.Values.{IsKept, value_kept, value_held}
use Rattle.fx_rows.proofs.search.moved.Goals as goal

step_kept : (c : goal.After-from) → IsKept c.args.start c.args.step c.from.result c.args.k
step_kept c =
    value_kept c.args.start c.args.step c.from.result c.args.k c.from.ensures (omega arith)
    (omega (arith, signed_linear), omega (arith, signed_linear)) (omega (arith, signed_linear), omega (arith, signed_linear))

pub overflow_mul-result : goal.overflow_mul-result
overflow_mul-result c = (step_kept c).product_fits

pub overflow_add-result : goal.overflow_add-result
overflow_add-result c = (step_kept c).sum_fits

moved_within : (s t : ℤ) (k : ℕ) → k < 8194 → IsWithin (2 ^ 55) s → IsWithin (2 ^ 31) t → IsWithin (2 ^ 56) (s +ℤ pos k *ℤ t)
moved_within s t k few hs ht =
    let p = product_within 8194 (2 ^ 31) (pos k) t (omega (arith, signed_linear), omega (arith, signed_linear)) ht in
    (omega (arith, signed_linear, p), omega (arith, signed_linear, p))

pub returns-clause-value : goal.returns-clause-value
returns-clause-value c = value_held c.args.start c.args.step c.from.result c.args.k (step_kept c)

pub returns-clause-size : goal.returns-clause-size
returns-clause-size c =
    rw (returns-clause-value c)
    (moved_within c.args.start c.args.step c.args.k c.requires.column c.requires.near.0 c.requires.near.1)

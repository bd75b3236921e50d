use Rattle.std.proofs.Common.{◌≡◌, inl, inr, ap, ◌^◌, ℤ, pos, ◌+ℤ◌, ◌-ℤ◌, ◌*ℤ◌, ◌≤ℤ◌, ◌<ℤ◌, neg_ℤ, arith, w32, w64, to_z, of_z}
use Rattle.std.proofs.lemmas.Int.{to_z_pos}
use Rattle.fx_fixed.proofs.Bounds.{product_within}
use Rattle.fx_fixed.proofs.Linear.{signed_linear}
use Rattle.fx_fixed.proofs.Order.{below_or_not}
use Rattle.fx_rows.proofs.Extents.{IsOff, IsFrom, off_end, off_other, from_far, product_held}
use Rattle.fx_rows.proofs.extent.stays_off.Goals as goal

off_of : (p q k : ℤ) {s t : ℤ} → (s +ℤ k *ℤ t) <ℤ pos 0 → s ≡ neg_ℤ p → t ≡ q → (k *ℤ q) <ℤ p
off_of p q k {s} {t} h e f = let g : k *ℤ t ≡ k *ℤ q = ap (λ (z : ℤ). k *ℤ z) f in omega (arith, signed_linear, h, e, g)

from_of : (p q k : ℤ) {s t : ℤ} → pos 0 ≤ℤ (s +ℤ k *ℤ t) → s ≡ neg_ℤ p → t ≡ q → p ≤ℤ (k *ℤ q)
from_of p q k {s} {t} h e f = let g : k *ℤ t ≡ k *ℤ q = ap (λ (z : ℤ). k *ℤ z) f in omega (arith, signed_linear, h, e, g)

pub invariant_of-slope : goal.invariant_of-slope
invariant_of-slope c =
    let near = c.requires.near in
    let held = product_held c.args.a c.args.c near.0 near.1 in
    let within = product_within (2 ^ 31) (2 ^ 31) c.args.a c.args.c near.0 near.1 in
    record {
      near = rw held (omega (arith, signed_linear, within), omega (arith, signed_linear, within));
      near_step = (omega (arith, signed_linear, near), omega (arith, signed_linear, near));
      rises = omega (arith, signed_linear, near, c.requires.apart);
    }

pub returns : goal.returns
returns c =
    let a = c.args.a in
    let e = c.args.c in
    let n = c.below_zero.result in
    let near = c.requires.near in
    let apart = c.requires.apart in
    let within = c.below_zero.ensures.within in
    let is : to_z w32 n ≡ pos n = to_z_pos w32 n (omega (arith, within)) in
    let held = product_held a e near.0 near.1 in
    let bound = product_within (2 ^ 31) (2 ^ 31) a e near.0 near.1 in
    let start : to_z w64 (of_z w64 (pos 0 -ℤ to_z w64 (of_z w64 (to_z w64 (of_z w64 a) *ℤ to_z w64 (of_z w64 e)))))
    ≡ neg_ℤ (a *ℤ e) =
    rw held (omega (arith, signed_linear, bound)) in
    let step : to_z w64 (of_z w64 (to_z w64 (of_z w64 a) +ℤ to_z w64 (of_z w64 e))) ≡ a +ℤ e = omega (arith, signed_linear, near) in
    let off : IsOff a e (to_z w32 n) = λ k l.
    off_of (a *ℤ e) (a +ℤ e) (pos k) (c.below_zero.ensures.below k (omega (arith, signed_linear, is, l))) start step in
    let from : IsFrom a e (to_z w32 n) = λ k l. elim (below_or_not k (2 ^ 30)) [
      | inl m ↦ from_of (a *ℤ e) (a +ℤ e) (pos k)
          (c.below_zero.ensures.rest k (omega (arith, signed_linear, is, l)) m) start step
      | inr m ↦ from_far a e k apart.0 apart.1 near.0.1 near.1.1 m
    ] in
    record {
      size = (
        omega (arith, signed_linear, is),
        omega (arith, signed_linear, is, within),
        off_end a e _ apart.0 apart.1 off,
        off_end e a _ apart.1 apart.0 (off_other a e _ off),
      );
      off = off;
      on = from;
    }

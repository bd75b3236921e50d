use Rattle.std.proofs.Common.{◌≡◌, ◌∙◌, ap, sym, ◌*◌, ◌%◌, ℤ, pos, ◌*ℤ◌, to_z, of_z, w64, FitsSigned, arith}
use Rattle.std.proofs.lemmas.Int.{wrapping_mul_is, of_z-to_z}
use Rattle.std.proofs.lemmas.Bool.Decides.{nat_tests}
use Rattle.std.specs.Int.{int_wrap}
use Rattle.fx_fixed.proofs.Linear.{signed, signed_linear}
use Rattle.fx_rows.proofs.Touching.{gap_products}
use Rattle.fx_rows.proofs.walk.is_off.Goals as goal

-- equal products have the same bits
same_bits : (a b k : ℤ) → FitsSigned w64 a → FitsSigned w64 b → FitsSigned w64 k → a *ℤ b ≡ k *ℤ k
    → of_z w64 a * of_z w64 b % 18446744073709551616 ≡ of_z w64 k * of_z w64 k % 18446744073709551616
same_bits a b k f g h e = sym (of_z-to_z w64 (of_z w64 a * of_z w64 b % 18446744073709551616) (omega arith)) ∙
    ap (of_z w64) (wrapping_mul_is w64 a b f g ∙ ap (int_wrap w64) e ∙ sym (wrapping_mul_is w64 k k h h)) ∙
    of_z-to_z w64 (of_z w64 k * of_z w64 k % 18446744073709551616) (omega arith)

pub returns : goal.returns
returns c = λ t z.
    let a = c.args.areas in
    let u : to_z w64 (of_z w64 a.u) ≡ a.u = omega (arith, signed_linear, a.near_u) in
    let p = gap_products a.u a.v a.w in
    let e : (pos 4 *ℤ to_z w64 (of_z w64 a.u)) *ℤ a.w ≡ a.v *ℤ a.v =
    ap (λ (y : ℤ). (pos 4 *ℤ y) *ℤ a.w) u ∙ omega (arith, signed_linear, p, z) in
    let s = same_bits _ a.w a.v (omega (arith, signed, a.near_u)) (omega (arith, signed_linear, a.near_w))
    (omega (arith, signed_linear, a.near_v)) e in
    grind (arith, nat_tests, s, t)

use Rattle.std.proofs.lemmas.Int.{ints, to_z-of_z}
use Rattle.std.proofs.Common.{◌≡◌, ◌+ℤ◌, ℕ, ℤ, ◌≤◌, Option, w32, w64, to_z, of_z, Some, subst, ap, ◌∙◌, sym, arith, ◌^◌}
use Rattle.fx_fixed.specs.Ranges.{IsWithin}
use Rattle.fx_fixed.proofs.Linear.{signed_linear}
use Rattle.fx_winding.specs.Area.{place}
use Rattle.fx_symmetry.specs.Halving.{half_of}
use Rattle.fx_winding.specs.Winding.{place_of}
use Rattle.fx_symmetry.proofs.Middles.{half_is, middle_without_x, middle_without_y, middle_with}
use Rattle.fx_symmetry.proofs.halving.middle.Goals as goal

-- a number as a coordinate holds it
abbrev held : ℤ → ℤ
held h = to_z w32 (of_z w32 (to_z w64 (of_z w64 h)))

-- h is half of the sum of two coordinates, and as near as they are
record IsHalf (n : ℕ) (a b h : ℤ) : Type 0 where
  half : half_of (a +ℤ b) ≡ Some h
  same : held h ≡ h
  near : IsWithin n (held h)

-- half of a sum that is worked out in 64 bits
half_of_sum : (n : ℕ) (a b s t h : ℤ) (r : Option ℤ) → n ≤ 2 ^ 30 → IsWithin n a → IsWithin n b → s ≡ to_z w32 (of_z w32 a)
    → t ≡ to_z w32 (of_z w32 b) → r ≡ half_of (to_z w64 (of_z w64 (to_z w64 (of_z w64 s) +ℤ to_z w64 (of_z w64 t)))) → r ≡ Some h
    → IsHalf n a b h
half_of_sum n a b s t h r small near_a near_b i j e f =
    let whole : to_z w64 (of_z w64 (to_z w64 (of_z w64 s) +ℤ to_z w64 (of_z w64 t))) ≡ a +ℤ b =
    omega (arith, signed_linear, small, near_a, near_b, i, j) in
    let half = ap half_of (sym whole) ∙ sym e ∙ f in
    let twice = half_is (a +ℤ b) h half in
    let near : IsWithin n h = (omega (arith, ints, near_a, near_b, twice), omega (arith, ints, near_a, near_b, twice)) in
    let same : held h ≡ h = omega (arith, signed_linear, small, near) in
    record { half = half; same = same; near = subst (IsWithin n) (sym same) near }

pub invariant_of-result : goal.invariant_of-result
invariant_of-result c =
    let p = c.args.p in
    let q = c.args.q in
    let x = half_of_sum (2 ^ 30) p.x q.x _ _ c.in_ok-x.x _ (omega arith) p.near_x q.near_x c.from.ensures c.from-2.ensures
    c.half.ensures.value c.in_ok-x.was in
    let y = half_of_sum (2 ^ 22) p.y q.y _ _ c.in_ok-y.y _ (omega arith) p.near_y q.near_y c.from-3.ensures c.from-4.ensures
    c.half-2.ensures.value c.in_ok-y.was in
    record { near_x = x.near; near_y = y.near }

pub returns-in_err-x : goal.returns-in_err-x
returns-in_err-x c = grind (arith, signed_linear, c.from_residual.ensures, c.half.ensures.value, middle_without_x)

pub returns-in_err-y : goal.returns-in_err-y
returns-in_err-y c =
    let a = c.in_ok-x.ensures in let b = c.from_residual-in_err-y.ensures in let d = c.half.ensures.value in
    let e = c.in_ok-x.was in let f = c.half-2.ensures.value in let g = c.in_err-y.was in grind (arith, middle_without_y, to_z-of_z)

pub returns : goal.returns
returns c =
    let p = c.args.p in
    let q = c.args.q in
    let x = half_of_sum (2 ^ 30) p.x q.x _ _ c.in_ok-x.x _ (omega arith) p.near_x q.near_x c.from.ensures c.from-2.ensures
    c.half.ensures.value c.in_ok-x.was in
    let y = half_of_sum (2 ^ 22) p.y q.y _ _ c.in_ok-y.y _ (omega arith) p.near_y q.near_y c.from-3.ensures c.from-4.ensures
    c.half-2.ensures.value c.in_ok-y.was in
    (λ i. Some (place (x.same i) (y.same i))) ∙ sym (middle_with (place_of p) (place_of q) c.in_ok-x.x c.in_ok-y.y x.half y.half)

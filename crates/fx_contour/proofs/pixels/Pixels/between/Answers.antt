use Rattle.std.proofs.Common.{◌≡◌, ◌∙◌, ◌+◌, refl, sym, subst, ◌^◌, ℤ, pos, nat_abs, ◌+ℤ◌, ◌-ℤ◌, ◌*ℤ◌, ◌<ℤ◌, ◌≤ℤ◌}
use Rattle.std.proofs.Common.{negsuc, arith, w32, to_z, of_z}
use Rattle.std.proofs.lemmas.Int.{ints}
use Rattle.fx_fixed.specs.Ranges.{IsWithin}
use Rattle.fx_fixed.proofs.Linear.{signed, signed_linear}
use Rattle.fx_contour.proofs.pixels.Pixels.between.Goals as goal

-- the pixels before n have their centres left of x, and those from n on have not
record IsFirst (x n : ℤ) : Type 0 where
  before : (m : ℤ) → m <ℤ n → (pos 128 *ℤ m +ℤ pos 64) <ℤ x
  from : (m : ℤ) → n ≤ℤ m → x ≤ℤ (pos 128 *ℤ m +ℤ pos 64)

at_least : (x n m : ℤ) → IsFirst x n → x ≤ℤ (pos 128 *ℤ m +ℤ pos 64) → n ≤ℤ m
at_least x n m f h = grind (arith, signed_linear, f.before m)

below : (x n m : ℤ) → IsFirst x n → (pos 128 *ℤ m +ℤ pos 64) <ℤ x → m <ℤ n
below x n m f h = grind (arith, signed_linear, f.from m)

-- the first pixel from a coordinate on, if that is one of an outline
near_first : (x n : ℤ) → IsWithin (2 ^ 22 + 1) x → ((m : ℤ) → m <ℤ n → (pos 128 *ℤ m +ℤ pos 64) <ℤ x)
    → ((m : ℤ) → n ≤ℤ m → x ≤ℤ (pos 128 *ℤ m +ℤ pos 64)) → IsWithin (2 ^ 15) n
near_first x n h before from =
    let low = before (n -ℤ pos 1) (omega (arith, signed_linear)) in
    let high = from n (omega (arith, signed_linear)) in
    (omega (arith, signed, h, low, high), omega (arith, signed, h, low, high))

kept : (n : ℤ) → IsWithin (2 ^ 23) n → to_z w32 (of_z w32 n) ≡ n
kept n h = omega (arith, signed_linear, h)

first_at : (x y n : ℤ) → x ≡ y → IsWithin (2 ^ 23) n → ((m : ℤ) → m <ℤ n → (pos 128 *ℤ m +ℤ pos 64) <ℤ x)
    → ((m : ℤ) → n ≤ℤ m → x ≤ℤ (pos 128 *ℤ m +ℤ pos 64)) → IsFirst y (to_z w32 (of_z w32 n))
first_at x y n e h before from =
    let P : ℤ → Type 0 = λ z. IsFirst y z in
    let Q : ℤ → Type 0 = λ z. IsFirst z n in
    subst P (sym (kept n h)) (subst Q e (record { before = before; from = from }))

-- how many pixels there are before another one, as a number of words of 32 bits
counted : (first end : ℤ) → IsWithin (2 ^ 23) first → IsWithin (2 ^ 23) end → first <ℤ end
    → pos (nat_abs (to_z w32 (of_z w32 (end -ℤ first)))) ≡ end -ℤ first
counted first end h k l =
    let e : to_z w32 (of_z w32 (end -ℤ first)) ≡ end -ℤ first = omega (arith, signed_linear, h, k) in
    same (to_z w32 (of_z w32 (end -ℤ first))) (omega (arith, signed_linear, e, l)) ∙ e
  where
    same : (s : ℤ) → pos 0 ≤ℤ s → pos (nat_abs s) ≡ s
    same (pos n) h = refl
    same (negsuc n) h = absurd (omega (arith, ints))

pub invariant_of-result : goal.invariant_of-result
invariant_of-result c =
    let a = c.first_from-first.ensures in
    let z = c.first_from-end.ensures in
    let first = near_first _ c.first_from-first.result
    (omega (arith, signed_linear, c.requires.near_low), omega (arith, signed_linear, c.requires.near_low)) a.before a.from in
    let end = near_first _ c.first_from-end.result
    (omega (arith, signed_linear, c.requires.near_high), omega (arith, signed_linear, c.requires.near_high)) z.before z.from in
    let p = kept c.first_from-first.result a.size in
    let q = kept c.first_from-end.result z.size in
    let some : to_z w32 (of_z w32 c.first_from-first.result) <ℤ to_z w32 (of_z w32 c.first_from-end.result) =
    omega (arith, signed_linear, c.if-end-first.false) in
    let count = counted _ _ (omega (arith, signed_linear, p, a.size), omega (arith, signed_linear, p, a.size))
    (omega (arith, signed_linear, q, z.size), omega (arith, signed_linear, q, z.size)) some in
    record {
      some = omega (arith, ints, count, some);
      first_number = (omega (arith, signed_linear, p, first), omega (arith, signed_linear, p, q, some, end));
      last_number = omega (arith, signed_linear, count, q, end);
    }

pub returns-then-end-first : goal.returns-then-end-first
returns-then-end-first c =
    let a = c.first_from-first.ensures in let b = c.first_from-end.ensures in let d = c.requires.near_low in
    let e = c.requires.near_high in let f = c.if-end-first.true in grind (arith, signed_linear)

pub returns : goal.returns
returns c = λ n.
    let a = c.first_from-first.ensures in
    let z = c.first_from-end.ensures in
    let low =
    first_at _ c.args.low c.first_from-first.result (omega (arith, signed_linear, c.requires.near_low)) a.size a.before a.from in
    let high =
    first_at _ (c.args.high +ℤ pos 1) c.first_from-end.result (omega (arith, signed_linear, c.requires.near_high)) z.size z.before
    z.from in
    let first = to_z w32 (of_z w32 c.first_from-first.result) in
    let end = to_z w32 (of_z w32 c.first_from-end.result) in
    let p = kept c.first_from-first.result a.size in
    let q = kept c.first_from-end.result z.size in
    let some : first <ℤ end = omega (arith, signed_linear, c.if-end-first.false) in
    let count = counted first end (omega (arith, signed_linear, p, a.size), omega (arith, signed_linear, p, a.size))
    (omega (arith, signed_linear, q, z.size), omega (arith, signed_linear, q, z.size)) some in (
      λ h. (low.from n h.0, (let b = high.before n (omega (arith, signed_linear, count, h.1)) in omega (arith, signed_linear, b))),
      λ h. let l = at_least _ _ n low h.0 in
          let k = below _ _ n high (omega (arith, signed_linear, h.1)) in
          (l, omega (arith, signed_linear, count, k)),
    )

-- The gaps of an arc at two centres are whole multiples of 256 apart (`gaps_apart`), so it touches no centre alone.
-- Serves the gaps of columns, and whether an arc touches a centre.
use Rattle.std.proofs.Common.{◌≡◌, ◌∙◌, sym, ap, suc, ◌%◌, ◌^◌, ℤ, pos, negsuc, neg_ℤ, ◌+ℤ◌, ◌*ℤ◌, ◌-ℤ◌, true, false, nat_eq, arith}
use Rattle.std.proofs.Common.{to_z, of_z, [], ◌∷◌, Option, Some, None}
use Rattle.fx_fixed.specs.Polynomial.{Expr, var, num, ◌⊞◌, ◌⊠◌, ◌⊟◌}
use Rattle.fx_fixed.proofs.Linear.{signed, signed_linear}
use Rattle.fx_fixed.proofs.Ring.{ring}
use Rattle.fx_fixed.specs.Ranges.{IsWithin}
use Rattle.fx_winding.specs.Area.{Place, area_of, gap_of}
use Rattle.fx_winding.specs.Winding.{Span, centre}
use Rattle.fx_winding.specs.declared.weights.Weights.{Weights}
use Rattle.fx_rows.specs.inner.Arcs.{gap, AreAreas}
use Rattle.fx_rows.proofs.Gaps.{gap_part}
use lib.Signed.{rem_z}
use mir.Syntax.{w128}

-- the gap without its copies
pub gap_without_copies : (u v w x y : ℤ) → IsWithin (2 ^ 112) x → IsWithin (2 ^ 112) y → x ≡ u *ℤ w → y ≡ v *ℤ v
    → to_z w128 (of_z w128 (to_z w128 (of_z w128 (pos 4 *ℤ to_z w128 (of_z w128 x))) -ℤ to_z w128 (of_z w128 y))) ≡ gap_of u v w
gap_without_copies u v w x y hx hy ex ey =
    let a : to_z w128 (of_z w128 (pos 4 *ℤ to_z w128 (of_z w128 x))) ≡ pos 4 *ℤ x = omega (arith, signed) in
    let b : to_z w128 (of_z w128 y) ≡ y = omega (arith, signed_linear) in
    let e : to_z w128 (of_z w128 (pos 4 *ℤ x -ℤ y)) ≡ pos 4 *ℤ x -ℤ y = omega (arith, signed) in
    (λ i. to_z w128 (of_z w128 (a i -ℤ b i))) ∙ e ∙ (λ i. pos 4 *ℤ ex i -ℤ ey i)

-- the gap as the difference of two products of 64 bits
pub gap_products : (u v w : ℤ) → gap_of u v w ≡ (pos 4 *ℤ u) *ℤ w -ℤ v *ℤ v
gap_products u v w = ring (u ∷ v ∷ w ∷ []) (num (pos 4) ⊠ (var 0 ⊠ var 2) ⊟ var 1 ⊠ var 1)
    ((num (pos 4) ⊠ var 0) ⊠ var 2 ⊟ var 1 ⊠ var 1) tt

-- ---- from centre to centre
u_between : (bx by cx cy l r l' r' : ℤ)
    → area_of (pos 128 *ℤ l' +ℤ pos 64) (pos 128 *ℤ r' +ℤ pos 64) bx by cx cy
    ≡ area_of (pos 128 *ℤ l +ℤ pos 64) (pos 128 *ℤ r +ℤ pos 64) bx by cx cy +ℤ
    pos 128 *ℤ ((l' -ℤ l) *ℤ (by -ℤ cy) +ℤ (r' -ℤ r) *ℤ (cx -ℤ bx))
u_between bx by cx cy l r l' r' =
    let f : Expr → Expr → Expr = λ x y. (var 0 ⊟ x) ⊠ (var 3 ⊟ y) ⊟ (var 1 ⊟ y) ⊠ (var 2 ⊟ x) in
    let at : Expr → Expr = λ n. num (pos 128) ⊠ n ⊞ num (pos 64) in
    ring (bx ∷ by ∷ cx ∷ cy ∷ l ∷ r ∷ l' ∷ r' ∷ []) (f (at (var 6)) (at (var 7)))
    (f (at (var 4)) (at (var 5)) ⊞ num (pos 128) ⊠
    ((var 6 ⊟ var 4) ⊠ (var 1 ⊟ var 3) ⊞ (var 7 ⊟ var 5) ⊠ (var 2 ⊟ var 0))) tt

v_between : (ax ay cx cy l r l' r' : ℤ)
    → area_of ax ay (pos 128 *ℤ l' +ℤ pos 64) (pos 128 *ℤ r' +ℤ pos 64) cx cy
    ≡ area_of ax ay (pos 128 *ℤ l +ℤ pos 64) (pos 128 *ℤ r +ℤ pos 64) cx cy +ℤ
    pos 128 *ℤ ((l' -ℤ l) *ℤ (cy -ℤ ay) +ℤ (r' -ℤ r) *ℤ (ax -ℤ cx))
v_between ax ay cx cy l r l' r' =
    let f : Expr → Expr → Expr = λ x y. (x ⊟ var 0) ⊠ (var 3 ⊟ var 1) ⊟ (y ⊟ var 1) ⊠ (var 2 ⊟ var 0) in
    let at : Expr → Expr = λ n. num (pos 128) ⊠ n ⊞ num (pos 64) in
    ring (ax ∷ ay ∷ cx ∷ cy ∷ l ∷ r ∷ l' ∷ r' ∷ []) (f (at (var 6)) (at (var 7)))
    (f (at (var 4)) (at (var 5)) ⊞ num (pos 128) ⊠
    ((var 6 ⊟ var 4) ⊠ (var 3 ⊟ var 1) ⊞ (var 7 ⊟ var 5) ⊠ (var 0 ⊟ var 2))) tt

w_between : (ax ay bx by l r l' r' : ℤ)
    → area_of ax ay bx by (pos 128 *ℤ l' +ℤ pos 64) (pos 128 *ℤ r' +ℤ pos 64)
    ≡ area_of ax ay bx by (pos 128 *ℤ l +ℤ pos 64) (pos 128 *ℤ r +ℤ pos 64) +ℤ
    pos 128 *ℤ ((l' -ℤ l) *ℤ (ay -ℤ by) +ℤ (r' -ℤ r) *ℤ (bx -ℤ ax))
w_between ax ay bx by l r l' r' =
    let f : Expr → Expr → Expr = λ x y. (var 2 ⊟ var 0) ⊠ (y ⊟ var 1) ⊟ (var 3 ⊟ var 1) ⊠ (x ⊟ var 0) in
    let at : Expr → Expr = λ n. num (pos 128) ⊠ n ⊞ num (pos 64) in
    ring (ax ∷ ay ∷ bx ∷ by ∷ l ∷ r ∷ l' ∷ r' ∷ []) (f (at (var 6)) (at (var 7)))
    (f (at (var 4)) (at (var 5)) ⊞ num (pos 128) ⊠
    ((var 6 ⊟ var 4) ⊠ (var 1 ⊟ var 3) ⊞ (var 7 ⊟ var 5) ⊠ (var 2 ⊟ var 0))) tt

-- by how many times 256 the gap changes
abbrev change : ℤ → ℤ → ℤ → ℤ → ℤ → ℤ → ℤ
change u v w x y z = pos 2 *ℤ (u *ℤ z +ℤ w *ℤ x) +ℤ pos 256 *ℤ (x *ℤ z) -ℤ v *ℤ y -ℤ pos 64 *ℤ (y *ℤ y)

gap_change : (u v w x y z : ℤ)
    → gap_of (u +ℤ pos 128 *ℤ x) (v +ℤ pos 128 *ℤ y) (w +ℤ pos 128 *ℤ z) ≡ gap_of u v w +ℤ pos 256 *ℤ change u v w x y z
gap_change u v w x y z =
    ring (u ∷ v ∷ w ∷ x ∷ y ∷ z ∷ [])
    (num (pos 4) ⊠ ((var 0 ⊞ num (pos 128) ⊠ var 3) ⊠ (var 2 ⊞ num (pos 128) ⊠ var 5)) ⊟
    (var 1 ⊞ num (pos 128) ⊠ var 4) ⊠ (var 1 ⊞ num (pos 128) ⊠ var 4))
    ((num (pos 4) ⊠ (var 0 ⊠ var 2) ⊟ var 1 ⊠ var 1) ⊞ num (pos 256) ⊠
    (num (pos 2) ⊠ (var 0 ⊠ var 5 ⊞ var 2 ⊠ var 3) ⊞ num (pos 256) ⊠ (var 3 ⊠ var 5) ⊟ var 1 ⊠ var 4 ⊟
    num (pos 64) ⊠ (var 4 ⊠ var 4))) tt

-- the gap of an arc at two centres differs by a multiple of 256
pub record IsApart (z z' : ℤ) : Type 0 where
  pub times : ℤ
  pub apart : z' ≡ z +ℤ pos 256 *ℤ times

centres_apart : (a b c : Place) (l r l' r' : ℤ)
    → IsApart (gap_part a (Some b) c (centre l r)) (gap_part a (Some b) c (centre l' r'))
centres_apart a b c l r l' r' =
    let u = area_of (pos 128 *ℤ l +ℤ pos 64) (pos 128 *ℤ r +ℤ pos 64) b.x b.y c.x c.y in
    let v = area_of a.x a.y (pos 128 *ℤ l +ℤ pos 64) (pos 128 *ℤ r +ℤ pos 64) c.x c.y in
    let w = area_of a.x a.y b.x b.y (pos 128 *ℤ l +ℤ pos 64) (pos 128 *ℤ r +ℤ pos 64) in
    let x = (l' -ℤ l) *ℤ (b.y -ℤ c.y) +ℤ (r' -ℤ r) *ℤ (c.x -ℤ b.x) in
    let y = (l' -ℤ l) *ℤ (c.y -ℤ a.y) +ℤ (r' -ℤ r) *ℤ (a.x -ℤ c.x) in
    let z = (l' -ℤ l) *ℤ (a.y -ℤ b.y) +ℤ (r' -ℤ r) *ℤ (b.x -ℤ a.x) in
    record {
      times = change u v w x y z;
      apart = (λ i. gap_of (u_between b.x b.y c.x c.y l r l' r' i) (v_between a.x a.y c.x c.y l r l' r' i)
          (w_between a.x a.y b.x b.y l r l' r' i)) ∙ gap_change u v w x y z;
    }

-- the same of a line, whose gap is less the square of its one area
line_apart : (a c : Place) (l r l' r' : ℤ) → IsApart (gap_part a None c (centre l r)) (gap_part a None c (centre l' r'))
line_apart a c l r l' r' =
    let v = area_of a.x a.y (pos 128 *ℤ l +ℤ pos 64) (pos 128 *ℤ r +ℤ pos 64) c.x c.y in
    let y = (l' -ℤ l) *ℤ (c.y -ℤ a.y) +ℤ (r' -ℤ r) *ℤ (a.x -ℤ c.x) in
    record {
      times = change (pos 0) v (pos 0) (pos 0) y (pos 0);
      apart = (λ i. gap_of (pos 0) (v_between a.x a.y c.x c.y l r l' r' i) (pos 0))
          ∙ gap_change (pos 0) v (pos 0) (pos 0) y (pos 0);
    }

part_apart : (a : Place) (b : Option Place) (c : Place) (l r l' r' : ℤ)
    → IsApart (gap_part a b c (centre l r)) (gap_part a b c (centre l' r'))
part_apart a None c l r l' r' = line_apart a c l r l' r'
part_apart a (Some b) c l r l' r' = centres_apart a b c l r l' r'

pub gaps_apart : (s : Span) (l r l' r' : ℤ) → IsApart (gap s (centre l r)) (gap s (centre l' r'))
gaps_apart s l r l' r' = part_apart s.a s.b s.c l r l' r'

-- the gap at a place, from the areas there as the code holds them
pub gap_of_areas : (s : Span) (p : Place) (areas : Weights) → AreAreas s p areas → gap_of areas.u areas.v areas.w ≡ gap s p
gap_of_areas s p areas h = λ i. gap_of (h.u i) (h.v i) (h.w i)

-- ---- a gap that is no multiple of 256 at one centre is 0 at none
no_rest : (z e : ℤ) → z ≡ pos 256 *ℤ e → rem_z z (pos 256) ≡ pos 0
no_rest (pos a) e h = let r : a % 256 ≡ 0 = omega (arith, signed, h) in ap pos r
no_rest (negsuc a) e h = let r : suc a % 256 ≡ 0 = omega (arith, signed, h) in ap (λ n. neg_ℤ (pos n)) r

not_both : true ≡ false → ⊥
not_both e = absurd (cc)

pub touched : (z e : ℤ) → z ≡ pos 256 *ℤ e → nat_eq (of_z w128 (rem_z z (pos 256))) 0 ≡ false → ⊥
touched z e h f = not_both (sym (ap (λ n. nat_eq (of_z w128 n) 0) (no_rest z e h)) ∙ f)

pub from_zero : (z z' t : ℤ) → z' ≡ z +ℤ pos 256 *ℤ t → z' ≡ pos 0 → z ≡ pos 256 *ℤ neg_ℤ t
from_zero z z' t h e = omega (arith, signed, h, e)

-- A place is on an arc that turns left exactly if it is on one of its halves: `curve_halves`.
-- Serves the law of halves.
use Rattle.std.proofs.Common.{◌≡◌, ◌∙◌, ◌↔◌, ◌⊎◌, inl, inr, ℤ, pos, ◌+ℤ◌, ◌-ℤ◌, ◌*ℤ◌, neg_ℤ}
use Rattle.std.proofs.Common.{refl, ◌≤ℤ◌, ◌<ℤ◌, List, [], ◌∷◌, arith}
use Rattle.std.proofs.lemmas.Int.{by_lt_z}
use Rattle.fx_fixed.specs.Polynomial.{Expr, var, num, ◌⊞◌, ◌⊠◌, minus, ◌⊟◌}
use Rattle.fx_fixed.proofs.Ring.{ring, one-*ℤ}
use Rattle.fx_fixed.proofs.Linear.{signed_linear}
use Rattle.fx_fixed.proofs.Signs.{product_at_least_zero, product_above_zero}
use Rattle.fx_winding.specs.Area.{Place, area, gap_of}
use Rattle.fx_winding.specs.Winding.{AreOnArc, IsOnCurve}
use Rattle.fx_winding.proofs.Products.{IsProduct, product}
use Rattle.fx_winding.proofs.Triangle.{ExprPlace, at, coordinates, area_at}
use Rattle.fx_symmetry.proofs.Middles.{beyond}
use Rattle.fx_winding.proofs.Regions.{sign_above}
use Rattle.fx_winding.proofs.Triangle.{area_swap}

-- ---- an arc by its start a, the first half's control point m and the join j: then b, n and c are
abbrev pub control : Place → Place → Place
control a m = beyond a m

abbrev pub second_control : Place → Place → Place
second_control m j = beyond m j

abbrev pub end : Place → Place → Place → Place
end a m j = beyond (beyond a m) (beyond m j)

-- the areas by those of the first half with the place: e = [p, m, j], f = [a, p, j], g = [a, m, p]
abbrev pub doubled : ℤ → ℤ
doubled z = z +ℤ z

abbrev pub four_times : ℤ → ℤ
four_times z = doubled (doubled z)

abbrev pub eight_times : ℤ → ℤ
eight_times z = doubled (four_times z)

-- u, v of the second half, whose w is e
abbrev pub second_u : ℤ → ℤ → ℤ → ℤ
second_u e f g = (four_times e +ℤ doubled f) +ℤ g

abbrev pub second_v : ℤ → ℤ → ℤ
second_v e f = neg_ℤ (four_times e +ℤ f)

-- u, v, w of the arc
abbrev pub whole_u : ℤ → ℤ → ℤ → ℤ
whole_u e f g = doubled (second_u e f g)

abbrev pub whole_v : ℤ → ℤ → ℤ
whole_v f g = four_times (f +ℤ g)

abbrev pub whole_w : ℤ → ℤ
whole_w g = doubled g

-- the same as expressions, with a, m, j and p as the places
abbrev two : Expr → Expr
two z = z ⊞ z

abbrev past : ExprPlace → ExprPlace → ExprPlace
past p q = record { x = two q.x ⊟ p.x; y = two q.y ⊟ p.y }

abbrev B : ExprPlace
B = past (at 0) (at 1)

abbrev N : ExprPlace
N = past (at 1) (at 2)

abbrev C : ExprPlace
C = past B N

abbrev E : Expr
E = area_at (at 3) (at 1) (at 2)

abbrev F : Expr
F = area_at (at 0) (at 3) (at 2)

abbrev G : Expr
G = area_at (at 0) (at 1) (at 3)

abbrev env : Place → Place → Place → Place → List ℤ
env a m j p = coordinates (a ∷ m ∷ j ∷ p ∷ []) []

pub area_first : (a m j p : Place) → area a m j ≡ (area p m j +ℤ area a p j) +ℤ area a m p
area_first a m j p = ring (env a m j p) (area_at (at 0) (at 1) (at 2)) ((E ⊞ F) ⊞ G) tt

area_second : (a m j : Place) → area j (second_control m j) (end a m j) ≡ area a m j
area_second a m j = ring (env a m j j) (area_at (at 2) N C) (area_at (at 0) (at 1) (at 2)) tt

area_whole : (a m j : Place) → area a (control a m) (end a m j) ≡ eight_times (area a m j)
area_whole a m j = ring (env a m j j) (area_at (at 0) B C) (two (two (two (area_at (at 0) (at 1) (at 2))))) tt

pub area_u : (a m j p : Place) → area p (control a m) (end a m j) ≡ whole_u (area p m j) (area a p j) (area a m p)
area_u a m j p = ring (env a m j p) (area_at (at 3) B C) (two ((two (two E) ⊞ two F) ⊞ G)) tt

pub area_v : (a m j p : Place) → area a p (end a m j) ≡ whole_v (area a p j) (area a m p)
area_v a m j p = ring (env a m j p) (area_at (at 0) (at 3) C) (two (two (F ⊞ G))) tt

pub area_w : (a m j p : Place) → area a (control a m) p ≡ whole_w (area a m p)
area_w a m j p = ring (env a m j p) (area_at (at 0) B (at 3)) (two G) tt

pub area_u2 : (a m j p : Place) → area p (second_control m j) (end a m j) ≡ second_u (area p m j) (area a p j) (area a m p)
area_u2 a m j p = ring (env a m j p) (area_at (at 3) N C) ((two (two E) ⊞ two F) ⊞ G) tt

pub area_v2 : (a m j p : Place) → area j p (end a m j) ≡ second_v (area p m j) (area a p j)
area_v2 a m j p = ring (env a m j p) (area_at (at 2) (at 3) C) (minus (two (two E) ⊞ F)) tt

pub area_w2 : (a m j p : Place) → area j (second_control m j) p ≡ area p m j
area_w2 a m j p = ring (env a m j p) (area_at (at 2) N (at 3)) E tt

-- the arc and its halves turn alike
whole_sign : (z y : ℤ) → y ≡ eight_times z → ((pos 0 <ℤ z) ↔ (pos 0 <ℤ y)) × ((z ≡ pos 0) ↔ (y ≡ pos 0))
whole_sign z y e = omega (arith, signed_linear)

second_sign : (z y : ℤ) → y ≡ z → ((pos 0 <ℤ z) ↔ (pos 0 <ℤ y)) × ((z ≡ pos 0) ↔ (y ≡ pos 0))
second_sign z y e = omega (arith, signed_linear)

pub whole_turns : (a m j : Place) → ((pos 0 <ℤ area a m j) ↔ (pos 0 <ℤ area a (control a m) (end a m j)))
    × ((area a m j ≡ pos 0) ↔ (area a (control a m) (end a m j) ≡ pos 0))
whole_turns a m j = whole_sign _ _ (area_whole a m j)

pub second_turns : (a m j : Place) → ((pos 0 <ℤ area a m j) ↔ (pos 0 <ℤ area j (second_control m j) (end a m j)))
    × ((area a m j ≡ pos 0) ↔ (area j (second_control m j) (end a m j) ≡ pos 0))
second_turns a m j = second_sign _ _ (area_second a m j)

-- ---- the gaps
pub gap_whole : (e f g : ℤ) → gap_of (whole_u e f g) (whole_v f g) (whole_w g) ≡ doubled (eight_times (gap_of e f g))
gap_whole e f g =
    let x = num (pos 4) ⊠ (var 0 ⊠ var 2) ⊟ var 1 ⊠ var 1 in
    let u = two ((two (two (var 0)) ⊞ two (var 1)) ⊞ var 2) in
    let v = two (two (var 1 ⊞ var 2)) in
    ring (e ∷ f ∷ g ∷ []) (num (pos 4) ⊠ (u ⊠ two (var 2)) ⊟ v ⊠ v) (two (two (two (two x)))) tt

pub gap_second : (e f g : ℤ) → gap_of (second_u e f g) (second_v e f) e ≡ gap_of e f g
gap_second e f g =
    let u = (two (two (var 0)) ⊞ two (var 1)) ⊞ var 2 in
    let v = minus (two (two (var 0)) ⊞ var 1) in
    ring (e ∷ f ∷ g ∷ []) (num (pos 4) ⊠ (u ⊠ var 0) ⊟ v ⊠ v) (num (pos 4) ⊠ (var 0 ⊠ var 2) ⊟ var 1 ⊠ var 1) tt

-- the gap is above 0 in the triangle of the ends and the join
pub gap_above : (e f g : ℤ) → f ≤ℤ pos 0 → pos 0 ≤ℤ (four_times e +ℤ f) → pos 0 <ℤ (f +ℤ g) → pos 0 <ℤ e → pos 0 <ℤ gap_of e f g
gap_above e f g hf hv hw he =
    let s : (four_times e +ℤ f) *ℤ g +ℤ neg_ℤ f *ℤ (f +ℤ g) ≡ gap_of e f g =
    ring (e ∷ f ∷ g ∷ []) ((two (two (var 0)) ⊞ var 1) ⊠ var 2 ⊞ minus (var 1) ⊠ (var 1 ⊞ var 2))
    (num (pos 4) ⊠ (var 0 ⊠ var 2) ⊟ var 1 ⊠ var 1) tt in
    by_lt_z f (pos 0)
    (λ k. let p = product_at_least_zero (four_times e +ℤ f) g hv (omega (arith, signed_linear)) in
    let q = product_above_zero (neg_ℤ f) (f +ℤ g) (omega (arith, signed_linear, k)) hw in
    omega (arith, signed_linear, s, p, q))
    (λ k. let p = product_above_zero (four_times e +ℤ f) g (omega (arith, signed_linear, k, he)) (omega (arith, signed_linear)) in
    let q = product_at_least_zero (neg_ℤ f) (f +ℤ g) (omega (arith, signed_linear)) (omega (arith, signed_linear)) in
    omega (arith, signed_linear, s, p, q))

-- ---- on an arc that turns left
arc_of_halves : (e f g : ℤ) → AreOnArc e f g ⊎ AreOnArc (second_u e f g) (second_v e f) e
    → AreOnArc (whole_u e f g) (whole_v f g) (whole_w g)
arc_of_halves e f g (inl h) = omega (arith, signed_linear, h, gap_whole e f g)
arc_of_halves e f g (inr h) = omega (arith, signed_linear, h, gap_whole e f g, gap_second e f g)

-- the first weight is not below 0, and beyond the first half the place is not before the join
first_not_below : (e f g x y : ℤ) → IsProduct e g x → IsProduct f f y → four_times x ≡ y → pos 0 ≤ℤ second_u e f g → pos 0 ≤ℤ g
    → pos 0 ≤ℤ e
first_not_below e f g x y p q k hu hg = grind (arith, signed_linear)

not_before : (e s k t x y : ℤ) → IsProduct e s x → IsProduct k t y → four_times x +ℤ y ≡ pos 0 → pos 0 ≤ℤ e → pos 0 ≤ℤ s
    → pos 0 <ℤ t → k ≤ℤ pos 0
not_before e s k t x y p q z he hs ht = grind (arith, signed_linear)

arc_halves : (e f g : ℤ) → AreOnArc (whole_u e f g) (whole_v f g) (whole_w g)
    → AreOnArc e f g ⊎ AreOnArc (second_u e f g) (second_v e f) e
arc_halves e f g (hu, hv, hw, q) =
    by_lt_z f (pos 0) (λ k. inr (omega (arith, signed_linear, hu, later k, above, gap_second e f g, none)))
    (λ k. inl (omega (arith, signed_linear, above, k, hw, none)))
  where
    none : gap_of e f g ≡ pos 0
    none = omega (arith, signed_linear, gap_whole e f g, q)

    above : pos 0 ≤ℤ e
    above =
        let s : gap_of e f g ≡ four_times (e *ℤ g) -ℤ f *ℤ f =
        ring (e ∷ f ∷ g ∷ []) (num (pos 4) ⊠ (var 0 ⊠ var 2) ⊟ var 1 ⊠ var 1) (two (two (var 0 ⊠ var 2)) ⊟ var 1 ⊠ var 1) tt in
        first_not_below e f g _ _ (product e g) (product f f) (omega (arith, signed_linear, s, none))
        (omega (arith, signed_linear, hu)) (omega (arith, signed_linear, hw))

    later : f <ℤ pos 0 → (four_times e +ℤ f) ≤ℤ pos 0
    later k =
        let s : gap_of e f g ≡ four_times (e *ℤ (f +ℤ g)) +ℤ (four_times e +ℤ f) *ℤ neg_ℤ f =
        ring (e ∷ f ∷ g ∷ []) (num (pos 4) ⊠ (var 0 ⊠ var 2) ⊟ var 1 ⊠ var 1)
        (two (two (var 0 ⊠ (var 1 ⊞ var 2))) ⊞ (two (two (var 0)) ⊞ var 1) ⊠ minus (var 1)) tt in
        not_before e (f +ℤ g) (four_times e +ℤ f) (neg_ℤ f) _ _ (product _ _) (product _ _) (omega (arith, signed_linear, s, none))
        above (omega (arith, signed_linear, hv)) (omega (arith, signed_linear, k))

pub raw : {s z u : ℤ} → s ≡ pos 1 → z ≡ u → s *ℤ z ≡ u
raw {s} {z} {u} es ez = (λ i. es i *ℤ ez i) ∙ one-*ℤ u

-- the places on such an arc by its areas
pub curve_is : {u v w : ℤ} (a b c p : Place) → pos 0 <ℤ area a b c → area p b c ≡ u → area a p c ≡ v → area a b p ≡ w
    → IsOnCurve a b c p ↔ AreOnArc u v w
curve_is {u} {v} {w} a b c p d eu ev ew = grind (arith, signed_linear, b, c, p, d, eu, ev, ew, raw, sign_above)

pub curve_halves : (a m j p : Place) → pos 0 <ℤ area a m j
    → IsOnCurve a (control a m) (end a m j) p ↔ (IsOnCurve a m j p ⊎ IsOnCurve j (second_control m j) (end a m j) p)
curve_halves a m j p d =
    by (curve_is a (control a m) (end a m j) p ((whole_turns a m j).0.0 d) (area_u a m j p) (area_v a m j p) (area_w a m j p))
    (curve_is a m j p d refl refl refl)
    (curve_is j (second_control m j) (end a m j) p ((second_turns a m j).0.0 d) (area_u2 a m j p) (area_v2 a m j p)
    (area_w2 a m j p)) (arc_halves (area p m j) (area a p j) (area a m p)) (arc_of_halves (area p m j) (area a p j) (area a m p))
  where
    by : {X Y Z X' Y' Z' : Type 0} → X ↔ X' → Y ↔ Y' → Z ↔ Z' → (X' → Y' ⊎ Z') → (Y' ⊎ Z' → X') → X ↔ (Y ⊎ Z)
    by x y z f g = (λ k. grind arith, λ k. grind arith)

-- ---- the triangle of the ends and the join
pub area_first_side : (a m j p : Place) → area a j p ≡ neg_ℤ (area a p j)
area_first_side a m j p = area_swap a p j

pub area_second_side : (a m j p : Place) → area j (end a m j) p ≡ four_times (area p m j) +ℤ area a p j
area_second_side a m j p = ring (env a m j p) (area_at (at 2) C (at 3)) (two (two E) ⊞ F) tt

pub area_chord_back : (a m j p : Place) → area (end a m j) a p ≡ whole_v (area a p j) (area a m p)
area_chord_back a m j p = ring (env a m j p) (area_at C (at 0) (at 3)) (two (two (F ⊞ G))) tt

pub heights_balance : (a m j p : Place)
    → (four_times (area p m j) +ℤ area a p j) *ℤ (a.y -ℤ p.y) +ℤ whole_v (area a p j) (area a m p) *ℤ (j.y -ℤ p.y) +ℤ
    neg_ℤ (area a p j) *ℤ ((end a m j).y -ℤ p.y) ≡ pos 0
heights_balance a m j p = ring (env a m j p)
    ((two (two E) ⊞ F) ⊠ (var 1 ⊟ var 7) ⊞ two (two (F ⊞ G)) ⊠ (var 5 ⊟ var 7) ⊞ minus F ⊠ (C.y ⊟ var 7)) (num (pos 0)) tt

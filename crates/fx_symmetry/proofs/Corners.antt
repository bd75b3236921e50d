-- The crossings of a triangle that turns left add up to 1 inside it (`around_inside`) and to 0 outside (`around_outside`).
-- Serves the law of halves: the triangle of an arc's ends and the join.
use Rattle.std.proofs.Common.{◌≡◌, ◌∙◌, ◌⊎◌, inl, inr, ℤ, pos, ◌+ℤ◌, ◌-ℤ◌, ◌*ℤ◌, ◌≤ℤ◌, ◌<ℤ◌, arith}
use Rattle.std.proofs.lemmas.Int.{ints, by_lt_z}
use Rattle.fx_fixed.proofs.Linear.{signed_linear}
use Rattle.fx_fixed.proofs.Signs.{product_above_zero}
use Rattle.fx_winding.proofs.Crossings.{crossing_number}
use Rattle.fx_winding.proofs.Products.{IsProduct, product}

-- ---- a triangle with corners at heights a, j, c and the point at height p: u, v, w are the weights of the corners a, j and c,
-- so that u belongs to the side from j to c, v to that from c to a, and w to that from a to j
abbrev pub around : ℤ → ℤ → ℤ → ℤ → ℤ → ℤ → ℤ → ℤ
around a j c p u v w = (crossing_number a j p w +ℤ crossing_number j c p u) +ℤ crossing_number c a p v

abbrev pub AreBalanced : ℤ → ℤ → ℤ → ℤ → ℤ → ℤ → ℤ → Type 0
AreBalanced a j c p u v w = u *ℤ (a -ℤ p) +ℤ v *ℤ (j -ℤ p) +ℤ w *ℤ (c -ℤ p) ≡ pos 0

-- the sum around the triangle is the same from each corner
pub around_turned : (a j c p u v w : ℤ) → around a j c p u v w ≡ around j c a p v w u
around_turned a j c p u v w = grind (arith, signed_linear)

-- ---- weights and heights
-- two weights of one sign, one of them not 0, leave the other sign to the third
record AreMixed (k l o : ℤ) : Type 0 where
  above : pos 0 <ℤ k → pos 0 ≤ℤ l → o <ℤ pos 0
  above_too : pos 0 ≤ℤ k → pos 0 <ℤ l → o <ℤ pos 0
  below : k <ℤ pos 0 → l ≤ℤ pos 0 → pos 0 <ℤ o
  below_too : k ≤ℤ pos 0 → l <ℤ pos 0 → pos 0 <ℤ o

-- ---- one corner above the other two, or not above them
peak_mixed : (u v w f g h x y z : ℤ) → f ≤ℤ pos 0 → g ≤ℤ pos 0 → pos 0 <ℤ h → IsProduct u f x → IsProduct v g y → IsProduct w h z
    → x +ℤ y +ℤ z ≡ pos 0 → AreMixed u v w → (pos 0 <ℤ u → v <ℤ pos 0) × (u ≤ℤ pos 0 → pos 0 ≤ℤ v)
peak_mixed u v w f g h x y z lf lg hh px py pz e m = (λ k. grind (arith, signed_linear), λ k. grind (arith, signed_linear))

pit_mixed : (u v w f g h x y z : ℤ) → pos 0 <ℤ f → pos 0 <ℤ g → h ≤ℤ pos 0 → IsProduct u f x → IsProduct v g y → IsProduct w h z
    → x +ℤ y +ℤ z ≡ pos 0 → AreMixed u v w → (u <ℤ pos 0 → pos 0 <ℤ v) × (pos 0 ≤ℤ u → v ≤ℤ pos 0)
pit_mixed u v w f g h x y z hf hg lh px py pz e m = (λ k. grind (arith, signed_linear), λ k. grind (arith, signed_linear))

level_heights : (u v w f g h x y z : ℤ) → f ≤ℤ pos 0 → g ≤ℤ pos 0 → h ≤ℤ pos 0 → IsProduct u f x → IsProduct v g y
    → IsProduct w h z → x +ℤ y +ℤ z ≡ pos 0 → pos 0 <ℤ u → pos 0 <ℤ v → pos 0 <ℤ w → (f ≡ g) × (g ≡ h)
level_heights u v w f g h x y z lf lg lh px py pz e hu hv hw = grind (arith, signed_linear)

peak_sum : (a j c p u v w : ℤ) → a ≤ℤ p → j ≤ℤ p → p <ℤ c → (pos 0 <ℤ u → v <ℤ pos 0) → (u ≤ℤ pos 0 → pos 0 ≤ℤ v)
    → around a j c p u v w ≡ pos 0
peak_sum a j c p u v w la lj hc one none = grind (arith, ints)

pit_sum : (a j c p u v w : ℤ) → p <ℤ a → p <ℤ j → c ≤ℤ p → (u <ℤ pos 0 → pos 0 <ℤ v) → (pos 0 ≤ℤ u → v ≤ℤ pos 0)
    → around a j c p u v w ≡ pos 0
pit_sum a j c p u v w ha hj lc one none = grind (arith, ints)

inner_sum : (a j c p u v w : ℤ) → ((a ≤ℤ p) × (j ≤ℤ p) × (p <ℤ c)) ⊎ ((p <ℤ a) × (p <ℤ j) × (c ≤ℤ p)) → pos 0 <ℤ u → pos 0 <ℤ v
    → around a j c p u v w ≡ pos 1
inner_sum a j c p u v w i hu hv = grind (arith, ints)

level_sum : (a j c p u v w : ℤ) → ((a ≤ℤ p) × (j ≤ℤ p) × (c ≤ℤ p)) ⊎ ((p <ℤ a) × (p <ℤ j) × (p <ℤ c)) → around a j c p u v w ≡ pos 0
level_sum a j c p u v w i = grind (arith, ints)

-- the sum is 0 where the weights are mixed, and 1 where all are above zero
record IsWound (a j c p u v w : ℤ) : Type 0 where
  mixed : AreMixed u v w → AreMixed v w u → AreMixed w u v → around a j c p u v w ≡ pos 0
  inside : pos 0 <ℤ u → pos 0 <ℤ v → pos 0 <ℤ w → ¬ ((a ≡ j) × (j ≡ c)) → around a j c p u v w ≡ pos 1

-- so it is from each corner
turn : {a j c p u v w : ℤ} → IsWound j c a p v w u → IsWound a j c p u v w
turn {a} {j} {c} {p} {u} {v} {w} h = record {
  mixed = λ k l m. around_turned a j c p u v w ∙ h.mixed l m k;
  inside = λ k l m n. around_turned a j c p u v w ∙ h.inside l m k (λ q. n (omega (arith, signed_linear, q)));
}

wound_level : (a j c p u v w : ℤ) → AreBalanced a j c p u v w → ((a ≤ℤ p) × (j ≤ℤ p) × (c ≤ℤ p)) ⊎ ((p <ℤ a) × (p <ℤ j) × (p <ℤ c))
    → IsWound a j c p u v w
wound_level a j c p u v w e i = record {
  mixed = λ k l m. level_sum a j c p u v w i;
  inside = λ hu hv hw n. absurd (none i hu hv hw n);
}
  where
    none : ((a ≤ℤ p) × (j ≤ℤ p) × (c ≤ℤ p)) ⊎ ((p <ℤ a) × (p <ℤ j) × (p <ℤ c)) → pos 0 <ℤ u → pos 0 <ℤ v → pos 0 <ℤ w
        → ¬ ((a ≡ j) × (j ≡ c)) → ⊥
    none (inl (x, y, z)) hu hv hw n =
        let l = level_heights u v w (a -ℤ p) (j -ℤ p) (c -ℤ p) _ _ _ (omega (arith, signed_linear, x))
        (omega (arith, signed_linear, y)) (omega (arith, signed_linear, z)) (product _ _) (product _ _) (product _ _) e hu hv hw in
        n (omega (arith, signed_linear, l))
    none (inr (x, y, z)) hu hv hw n =
        let q = product_above_zero u (a -ℤ p) hu (omega (arith, signed_linear, x)) in
        let r = product_above_zero v (j -ℤ p) hv (omega (arith, signed_linear, y)) in
        let s = product_above_zero w (c -ℤ p) hw (omega (arith, signed_linear, z)) in
        omega (arith, signed_linear, q, r, s, e)

wound_peak : (a j c p u v w : ℤ) → AreBalanced a j c p u v w → a ≤ℤ p → j ≤ℤ p → p <ℤ c → IsWound a j c p u v w
wound_peak a j c p u v w e la lj hc = record {
  mixed = λ k l m.
      let o = peak_mixed u v w (a -ℤ p) (j -ℤ p) (c -ℤ p) _ _ _ (omega (arith, signed_linear)) (omega (arith, signed_linear))
      (omega (arith, signed_linear)) (product _ _) (product _ _) (product _ _) e k in
      peak_sum a j c p u v w la lj hc o.0 o.1;
  inside = λ hu hv hw n. inner_sum a j c p u v w (inl (la, lj, hc)) hu hv;
}

wound_pit : (a j c p u v w : ℤ) → AreBalanced a j c p u v w → p <ℤ a → p <ℤ j → c ≤ℤ p → IsWound a j c p u v w
wound_pit a j c p u v w e ha hj lc = record {
  mixed = λ k l m.
      let o = pit_mixed u v w (a -ℤ p) (j -ℤ p) (c -ℤ p) _ _ _ (omega (arith, signed_linear)) (omega (arith, signed_linear))
      (omega (arith, signed_linear)) (product _ _) (product _ _) (product _ _) e k in
      pit_sum a j c p u v w ha hj lc o.0 o.1;
  inside = λ hu hv hw n. inner_sum a j c p u v w (inr (ha, hj, lc)) hu hv;
}

wound : (a j c p u v w : ℤ) → AreBalanced a j c p u v w → IsWound a j c p u v w
wound a j c p u v w e = by_lt_z p a (λ x. by_lt_z p j
    (λ y. by_lt_z p c (λ z. wound_level a j c p u v w e (inr (x, y, z))) (λ z. wound_pit a j c p u v w e x y z))
    (λ y. by_lt_z p c (λ z. turn (turn (wound_pit c a j p w u v twice z x y))) (λ z. turn (wound_peak j c a p v w u once y z x))))
    (λ x. by_lt_z p j
    (λ y. by_lt_z p c (λ z. turn (wound_pit j c a p v w u once y z x)) (λ z. turn (turn (wound_peak c a j p w u v twice z x y))))
    (λ y. by_lt_z p c (λ z. wound_peak a j c p u v w e x y z) (λ z. wound_level a j c p u v w e (inl (x, y, z)))))
  where
    once : AreBalanced j c a p v w u
    once = omega (arith, signed_linear, e)

    twice : AreBalanced c a j p w u v
    twice = omega (arith, signed_linear, e)

-- outside the triangle the sum is 0
pub around_outside : (a j c p u v w : ℤ) → AreBalanced a j c p u v w → pos 0 <ℤ (u +ℤ v +ℤ w)
    → (u <ℤ pos 0) ⊎ ((v <ℤ pos 0) ⊎ (w <ℤ pos 0)) → around a j c p u v w ≡ pos 0
around_outside a j c p u v w e some out = (wound a j c p u v w e).mixed m.0 m.1 m.2
  where
    m : AreMixed u v w × AreMixed v w u × AreMixed w u v
    m = omega (arith, signed_linear, some, out)

-- and where its corners are on one line
pub around_flat : (a j c p u v w : ℤ) → AreBalanced a j c p u v w → u +ℤ v +ℤ w ≡ pos 0 → around a j c p u v w ≡ pos 0
around_flat a j c p u v w e none = (wound a j c p u v w e).mixed m.0 m.1 m.2
  where
    m : AreMixed u v w × AreMixed v w u × AreMixed w u v
    m = omega (arith, signed_linear, none)

-- inside it the sum is 1
pub around_inside : (a j c p u v w : ℤ) → AreBalanced a j c p u v w → pos 0 <ℤ u → pos 0 <ℤ v → pos 0 <ℤ w
    → ¬ ((a ≡ j) × (j ≡ c)) → around a j c p u v w ≡ pos 1
around_inside a j c p u v w e hu hv hw bent = (wound a j c p u v w e).inside hu hv hw bent

-- what the sum is on the side from a to j, between its ends
abbrev pub OnSide : ℤ → ℤ → ℤ → ℤ → Type 0
OnSide a j c sum = ((a <ℤ j) × (sum ≡ pos 0)) ⊎ (((j <ℤ a) × (sum ≡ pos 1))
    ⊎ (((a ≡ j) × (a <ℤ c) × (sum ≡ pos 1)) ⊎ ((a ≡ j) × (c ≤ℤ a) × (sum ≡ pos 0))))

pub around_side : (a j c p u v w : ℤ) → AreBalanced a j c p u v w → pos 0 <ℤ u → pos 0 <ℤ v → w ≡ pos 0
    → OnSide a j c (around a j c p u v w)
around_side a j c p u v w e hu hv hw = side a j c p u v w (λ x y. let q = low x y in omega (arith, signed_linear, q)) high hu hv hw
  where
    side : (a j c p u v w : ℤ) → (a ≤ℤ p → j ≤ℤ p → (a ≡ p) × (j ≡ p)) → (p <ℤ a → p <ℤ j → ⊥) → pos 0 <ℤ u → pos 0 <ℤ v
        → w ≡ pos 0 → OnSide a j c (around a j c p u v w)
    side a j c p u v w low high hu hv hw = grind (arith, ints)

    none : w *ℤ (c -ℤ p) ≡ pos 0
    none = (product w (c -ℤ p)).no_weight hw

    both_none : (u v f g x y z : ℤ) → f ≤ℤ pos 0 → g ≤ℤ pos 0 → IsProduct u f x → IsProduct v g y → x +ℤ y +ℤ z ≡ pos 0
        → z ≡ pos 0 → pos 0 <ℤ u → pos 0 <ℤ v → (f ≡ pos 0) × (g ≡ pos 0)
    both_none u v f g x y z lf lg px py e n hu hv = grind (arith, signed_linear)

    low : a ≤ℤ p → j ≤ℤ p → (a -ℤ p ≡ pos 0) × (j -ℤ p ≡ pos 0)
    low x y = both_none u v (a -ℤ p) (j -ℤ p) _ _ _ (omega (arith, signed_linear, x)) (omega (arith, signed_linear, y))
        (product _ _) (product _ _) e none hu hv

    high : p <ℤ a → p <ℤ j → ⊥
    high x y =
        let q = product_above_zero u (a -ℤ p) hu (omega (arith, signed_linear, x)) in
        let r = product_above_zero v (j -ℤ p) hv (omega (arith, signed_linear, y)) in
        omega (arith, signed_linear, q, r, none, e)

-- Off an arc, the crossings and the regions of its halves add up to the arc's: `sum_of_halves`. What the chords of the halves
-- leave is the triangle of the ends and the join, which is what their regions leave.
-- Serves the law of halves.
use Rattle.std.proofs.Common.{◌≡◌, refl, sym, ◌∙◌, ◌⊎◌, inl, inr, ℤ, pos, ◌+ℤ◌, ◌-ℤ◌, neg_ℤ, ◌≤ℤ◌, ◌<ℤ◌, Bool, true, false, arith}
use Rattle.std.proofs.lemmas.Int.{ints, by_lt_z}
use Rattle.fx_fixed.proofs.Linear.{signed_linear}
use Rattle.fx_winding.specs.Area.{gap_of}
use Rattle.fx_winding.specs.Winding.{AreOnArc}
use Rattle.fx_winding.proofs.Regions.{IsIn, third_strictly}
use Rattle.fx_winding.proofs.Reversal.{gap_back}
use Rattle.fx_symmetry.proofs.Corners.{around, AreBalanced, OnSide, around_outside, around_inside, around_side, around_turned}
use Rattle.fx_symmetry.proofs.HalfAreas.{doubled, four_times, eight_times, second_u, second_v, whole_u, whole_v, whole_w, gap_whole}
use Rattle.fx_symmetry.proofs.HalfAreas.{gap_second, gap_above}
use Rattle.fx_winding.proofs.EndsOn.{no_gap}

-- ---- regions by their weights
-- whether a place with these weights is in the region, and what it then counts
abbrev pub Counts : ℤ → ℤ → ℤ → Bool → ℤ → Type 0
Counts u v w r x = (IsIn u v w r × (x ≡ pos 1)) ⊎ ((¬ (IsIn u v w r)) × (x ≡ pos 0))

-- the same by the signs of the weights and of the gap
record IsCount (u v w gap : ℤ) (r : Bool) (x : ℤ) : Type 0 where
  inner : pos 0 <ℤ u → pos 0 <ℤ v → pos 0 <ℤ w → pos 0 <ℤ gap → x ≡ pos 1
  on : v ≡ pos 0 → pos 0 <ℤ u → pos 0 <ℤ w → r ≡ true → x ≡ pos 1
  off : v ≡ pos 0 → r ≡ false → x ≡ pos 0
  no_u : u ≤ℤ pos 0 → x ≡ pos 0
  no_v : v <ℤ pos 0 → x ≡ pos 0
  no_w : w ≤ℤ pos 0 → x ≡ pos 0
  no_gap : pos 0 <ℤ v → gap ≤ℤ pos 0 → x ≡ pos 0

count : {u v w gap x : ℤ} {r : Bool} → gap_of u v w ≡ gap → Counts u v w r x → IsCount u v w gap r x
count {u} {v} {w} {gap} {x} {r} e h = grind (arith, ints, e, h)

-- what the regions of an arc and of its halves count at a place with the weights e, f and g in the first half
record AreCounted (e f g : ℤ) (r r1 r2 : Bool) (x x1 x2 : ℤ) : Type 0 where
  whole : IsCount (whole_u e f g) (whole_v f g) (whole_w g) (doubled (eight_times (gap_of e f g))) r x
  first : IsCount e f g (gap_of e f g) r1 x1
  second : IsCount (second_u e f g) (second_v e f) e (gap_of e f g) r2 x2

-- the first weight from the third: the gap is above zero only with both of one sign
first_strictly : (u v w : ℤ) → pos 0 <ℤ w → pos 0 <ℤ gap_of u v w → pos 0 <ℤ u
first_strictly u v w h g = third_strictly w v u h (rw (gap_back u v w) g)

-- beyond the chord of the first half, only its region counts
beyond_first : {e f g x x1 x2 : ℤ} {r r1 r2 : Bool} → AreCounted e f g r r1 r2 x x1 x2 → pos 0 <ℤ f → x1 +ℤ x2 ≡ x
beyond_first {e} {f} {g} {x} {x1} {x2} c hf = omega (arith, signed_linear, none, same)
  where
    none : x2 ≡ pos 0
    none = by_lt_z (pos 0) e (λ k. c.second.no_v (omega (arith, signed_linear, k, hf))) (λ k. c.second.no_w k)

    above : pos 0 <ℤ g → x1 ≡ x
    above k = by_lt_z (pos 0) (gap_of e f g) (λ l. let m = first_strictly e f g k l in c.first.inner m hf k l
        ∙ sym (c.whole.inner (omega (arith, signed_linear, m, hf, k))
        (omega (arith, signed_linear, hf, k)) (omega (arith, signed_linear, k)) (omega (arith, signed_linear, l))))
        (λ l. c.first.no_gap hf l ∙ sym (c.whole.no_gap (omega (arith, signed_linear, hf, k)) (omega (arith, signed_linear, l))))

    same : x1 ≡ x
    same = by_lt_z (pos 0) g above (λ k. c.first.no_w k ∙ sym (c.whole.no_w (omega (arith, signed_linear, k))))

-- beyond the chord of the second half, only its region counts
beyond_second : {e f g x x1 x2 : ℤ} {r r1 r2 : Bool} → AreCounted e f g r r1 r2 x x1 x2 → (four_times e +ℤ f) <ℤ pos 0
    → x1 +ℤ x2 ≡ x
beyond_second {e} {f} {g} {x} {x1} {x2} c h = omega (arith, signed_linear, none, same)
  where
    none : x1 ≡ pos 0
    none = by_lt_z (pos 0) e (λ k. c.first.no_v (omega (arith, signed_linear, k, h))) (λ k. c.first.no_u k)

    inner : pos 0 <ℤ second_u e f g → pos 0 <ℤ gap_of e f g → x2 ≡ x
    inner k l = by_lt_z (pos 0) e (λ m. let n = third_strictly e f g m l in c.second.inner k (omega (arith, signed_linear, h)) m l
        ∙ sym (c.whole.inner (omega (arith, signed_linear, k)) (omega (arith, signed_linear, h, k))
        (omega (arith, signed_linear, n)) (omega (arith, signed_linear, l))))
        (λ m. c.second.no_w m ∙ sym (c.whole.no_w (by_lt_z (pos 0) g
        (λ n. absurd (let o = first_strictly e f g n l in omega (arith, signed_linear, o, m)))
        (λ n. omega (arith, signed_linear, n)))))

    same : x2 ≡ x
    same = by_lt_z (pos 0) (second_u e f g)
        (λ k. by_lt_z (pos 0) (gap_of e f g) (inner k) (λ l. c.second.no_gap (omega (arith, signed_linear, h)) l
        ∙ sym (c.whole.no_gap (omega (arith, signed_linear, h, k)) (omega (arith, signed_linear, l)))))
        (λ k. c.second.no_u k ∙ sym (c.whole.no_u (omega (arith, signed_linear, k))))

-- on the other side of the arc's chord nothing counts
under_chord : {e f g x x1 x2 : ℤ} {r r1 r2 : Bool} → AreCounted e f g r r1 r2 x x1 x2 → (f +ℤ g) <ℤ pos 0 → x1 +ℤ x2 ≡ x
under_chord {e} {f} {g} {x} {x1} {x2} c h = grind (arith, ints, c, h)

-- ---- whether an arc is right of its chord, by the heights of its start, control point and end
pub record IsRight (a b c : ℤ) (r : Bool) : Type 0 where
  pub up : a <ℤ c → r ≡ true
  pub down : c <ℤ a → r ≡ false
  pub above : a ≡ c → a <ℤ b → r ≡ true
  pub below : a ≡ c → b ≤ℤ a → r ≡ false

-- so on the side from a to j, from which the third corner c lies to the other side than m
beside_first : (a m j c s : ℤ) (r : Bool) → OnSide a j c s → IsRight a m j r → (a ≡ j → (a <ℤ c → m ≤ℤ a) × (c ≤ℤ a → a <ℤ m))
    → ((r ≡ true) × (s ≡ pos 0)) ⊎ ((r ≡ false) × (s ≡ pos 1))
beside_first a m j c s r o h k = grind (arith, ints)

-- and on the side from c to a, from which the third corner j lies to the side of b
beside_chord : (c a j b s : ℤ) (r : Bool) → OnSide c a j s → IsRight a b c r → (c ≡ a → (c <ℤ j → a <ℤ b) × (j ≤ℤ c → b ≤ℤ a))
    → ((r ≡ true) × (s ≡ pos 1)) ⊎ ((r ≡ false) × (s ≡ pos 0))
beside_chord c a j b s r o h k = grind (arith, ints)

-- ---- the sum
-- an arc and its halves by the heights of their points and of the place, with the place's weights in the first half
pub record AreHalves (a m j b n c p e f g : ℤ) : Type 0 where
  pub b_is : b ≡ (m +ℤ m) -ℤ a
  pub n_is : n ≡ (j +ℤ j) -ℤ m
  pub c_is : c ≡ (n +ℤ n) -ℤ b
  pub balanced : AreBalanced a j c p (four_times e +ℤ f) (whole_v f g) (neg_ℤ f)
  pub some : pos 0 <ℤ ((e +ℤ f) +ℤ g)
  pub bent : ¬ ((a ≡ m) × (a ≡ j))
  pub off_first : ¬ (AreOnArc e f g)
  pub off_second : ¬ (AreOnArc (second_u e f g) (second_v e f) e)

-- the sum around the triangle of the ends and the join
abbrev pub sides : ℤ → ℤ → ℤ → ℤ → ℤ → ℤ → ℤ → ℤ
sides a j c p e f g = around a j c p (four_times e +ℤ f) (whole_v f g) (neg_ℤ f)

-- within the triangle
within_triangle : {a m j b n c p e f g x x1 x2 : ℤ} {r r1 r2 : Bool} → AreHalves a m j b n c p e f g
    → AreCounted e f g r r1 r2 x x1 x2 → f <ℤ pos 0 → pos 0 <ℤ (four_times e +ℤ f) → pos 0 <ℤ (f +ℤ g)
    → sides a j c p e f g +ℤ (x1 +ℤ x2) ≡ x
within_triangle {a} {m} {j} {b} {n} {c} {p} {e} {f} {g} h k lf hu hv =
    let q = gap_above e f g (omega (arith, signed_linear, lf)) (omega (arith, signed_linear, hu)) hv
    (omega (arith, signed_linear, lf, hu)) in
    omega (
      arith,
      signed_linear,
      around_inside a j c p (four_times e +ℤ f) (whole_v f g) (neg_ℤ f) h.balanced hu
          (omega (arith, signed_linear, hv)) (omega (arith, signed_linear, lf)) level,
      k.first.no_v lf,
      k.second.no_v (omega (arith, signed_linear, hu)),
      k.whole.inner (omega (arith, signed_linear, hu, hv))
          (omega (arith, signed_linear, hv)) (omega (arith, signed_linear, lf, hv)) (omega (arith, signed_linear, q)),
    )
  where
    level : ¬ ((a ≡ j) × (j ≡ c))
    level l = h.bent (omega (arith, signed_linear, l, h.b_is, h.n_is, h.c_is))

-- on the arc's chord, between its ends
on_chord : {a m j b n c p e f g x x1 x2 : ℤ} {r r1 r2 : Bool} → AreHalves a m j b n c p e f g → AreCounted e f g r r1 r2 x x1 x2
    → IsRight a b c r → f <ℤ pos 0 → pos 0 <ℤ (four_times e +ℤ f) → f +ℤ g ≡ pos 0 → sides a j c p e f g +ℤ (x1 +ℤ x2) ≡ x
on_chord {a} {m} {j} {b} {n} {c} {p} {e} {f} {g} {x} {x1} {x2} {r} h k right lf hu zv =
    by r (sides a j c p e f g) (around c a j p (neg_ℤ f) (four_times e +ℤ f) (whole_v f g)) x1 x2 x turned
    (beside_chord c a j b _ r (around_side c a j p (neg_ℤ f) (four_times e +ℤ f) (whole_v f g)
    (omega (arith, signed_linear, h.balanced)) (omega (arith, signed_linear, lf)) hu (omega (arith, signed_linear, zv))) right
    (λ l. omega (arith, signed_linear, l, h.b_is, h.n_is, h.c_is)))
    (k.first.no_v lf) (k.second.no_v (omega (arith, signed_linear, hu)))
    (k.whole.on level (omega (arith, signed_linear, hu, zv)) (omega (arith, signed_linear, lf, zv))) (k.whole.off level)
  where
    level : whole_v f g ≡ pos 0
    level = omega (arith, signed_linear, zv)

    turned : sides a j c p e f g ≡ around c a j p (neg_ℤ f) (four_times e +ℤ f) (whole_v f g)
    turned = around_turned a j c p (four_times e +ℤ f) (whole_v f g) (neg_ℤ f)
        ∙ around_turned j c a p (whole_v f g) (neg_ℤ f) (four_times e +ℤ f)

    by : (r : Bool) (s t y z x : ℤ) → s ≡ t → ((r ≡ true) × (t ≡ pos 1)) ⊎ ((r ≡ false) × (t ≡ pos 0)) → y ≡ pos 0 → z ≡ pos 0
        → (r ≡ true → x ≡ pos 1) → (r ≡ false → x ≡ pos 0) → s +ℤ (y +ℤ z) ≡ x
    by r s t y z x e (inl (i, o)) hy hz on off = let q = on i in omega (arith, signed_linear)
    by r s t y z x e (inr (i, o)) hy hz on off = let q = off i in omega (arith, signed_linear)

-- on the chord of the first half
on_first : {a m j b n c p e f g x x1 x2 : ℤ} {r r1 r2 : Bool} → AreHalves a m j b n c p e f g → AreCounted e f g r r1 r2 x x1 x2
    → IsRight a m j r1 → f ≡ pos 0 → pos 0 <ℤ e → pos 0 <ℤ g → sides a j c p e f g +ℤ (x1 +ℤ x2) ≡ x
on_first {a} {m} {j} {b} {n} {c} {p} {e} {f} {g} {x} {x1} {x2} {r1 = r1} h k right zf he hg =
    by (beside_first a m j c _ r1 (around_side a j c p (four_times e +ℤ f) (whole_v f g) (neg_ℤ f) h.balanced
    (omega (arith, signed_linear, zf, he)) (omega (arith, signed_linear, zf, hg)) (omega (arith, signed_linear, zf))) right
    (λ l. (
      λ o. omega (arith, signed_linear, l, o, h.b_is, h.n_is, h.c_is),
      λ o. by_lt_z a m (λ q. q) (λ q. absurd (h.bent (omega (arith, signed_linear, l, o, q, h.b_is, h.n_is, h.c_is)))),
    )))
  where
    rest : (x2 ≡ pos 0) × (x ≡ pos 1)
    rest =
        let q = gap_above e f g (omega (arith, signed_linear, zf)) (omega (arith, signed_linear, zf, he))
        (omega (arith, signed_linear, zf, hg)) he in (
          k.second.no_v (omega (arith, signed_linear, zf, he)),
          k.whole.inner (omega (arith, signed_linear, zf, he, hg))
              (omega (arith, signed_linear, zf, hg)) (omega (arith, signed_linear, hg)) (omega (arith, signed_linear, q)),
        )

    by : ((r1 ≡ true) × (sides a j c p e f g ≡ pos 0)) ⊎ ((r1 ≡ false) × (sides a j c p e f g ≡ pos 1))
        → sides a j c p e f g +ℤ (x1 +ℤ x2) ≡ x
    by (inl (t, s)) = omega (arith, signed_linear, s, rest, k.first.on zf he hg t)
    by (inr (t, s)) = omega (arith, signed_linear, s, rest, k.first.off zf t)

-- on the chord of the second half
on_second : {a m j b n c p e f g x x1 x2 : ℤ} {r r1 r2 : Bool} → AreHalves a m j b n c p e f g → AreCounted e f g r r1 r2 x x1 x2
    → IsRight j n c r2 → f <ℤ pos 0 → four_times e +ℤ f ≡ pos 0 → pos 0 <ℤ (f +ℤ g) → sides a j c p e f g +ℤ (x1 +ℤ x2) ≡ x
on_second {a} {m} {j} {b} {n} {c} {p} {e} {f} {g} {x} {x1} {x2} {r2 = r2} h k right lf zu hv =
    by (beside_first j n c a _ r2 (around_side j c a p (whole_v f g) (neg_ℤ f) (four_times e +ℤ f)
    (omega (arith, signed_linear, h.balanced)) (omega (arith, signed_linear, hv)) (omega (arith, signed_linear, lf)) zu) right
    (λ l. (
      λ o. omega (arith, signed_linear, l, o, h.b_is, h.n_is, h.c_is),
      λ o. by_lt_z j n (λ q. q) (λ q. absurd (h.bent (omega (arith, signed_linear, l, o, q, h.b_is, h.n_is, h.c_is)))),
    )))
  where
    he : pos 0 <ℤ e
    he = omega (arith, signed_linear, lf, zu)

    turned : sides a j c p e f g ≡ around j c a p (whole_v f g) (neg_ℤ f) (four_times e +ℤ f)
    turned = around_turned a j c p (four_times e +ℤ f) (whole_v f g) (neg_ℤ f)

    rest : (x1 ≡ pos 0) × (x ≡ pos 1)
    rest =
        let q = gap_above e f g (omega (arith, signed_linear, lf)) (omega (arith, signed_linear, zu)) hv he in (
          k.first.no_v lf,
          k.whole.inner (omega (arith, signed_linear, zu, hv)) (omega (arith, signed_linear, hv))
              (omega (arith, signed_linear, lf, hv)) (omega (arith, signed_linear, q)),
        )

    on : r2 ≡ true → x2 ≡ pos 1
    on = k.second.on (omega (arith, signed_linear, zu)) (omega (arith, signed_linear, zu, hv)) he

    by : ((r2 ≡ true) × (around j c a p (whole_v f g) (neg_ℤ f) (four_times e +ℤ f) ≡ pos 0))
        ⊎ ((r2 ≡ false) × (around j c a p (whole_v f g) (neg_ℤ f) (four_times e +ℤ f) ≡ pos 1))
        → sides a j c p e f g +ℤ (x1 +ℤ x2) ≡ x
    by (inl (t, s)) = omega (arith, signed_linear, turned, s, rest, on t)
    by (inr (t, s)) = omega (arith, signed_linear, turned, s, rest, k.second.off (omega (arith, signed_linear, zu)) t)

-- the ends and the join are on the arc
no_end : {a m j b n c p e f g : ℤ} → AreHalves a m j b n c p e f g → f <ℤ pos 0 → four_times e +ℤ f ≡ pos 0 → f +ℤ g ≡ pos 0 → ⊥
no_end {e = e} {f = f} {g = g} h lf zu zv = h.off_second (
  omega (arith, signed_linear, zu, zv),
  omega (arith, signed_linear, zu),
  omega (arith, signed_linear, lf, zu),
  no_gap (second_u e f g) (second_v e f) e (inl (omega (arith, signed_linear, zu, zv))) (omega (arith, signed_linear, zu)),
)

no_start : {a m j b n c p e f g : ℤ} → AreHalves a m j b n c p e f g → f ≡ pos 0 → pos 0 ≤ℤ e → pos 0 ≤ℤ g
    → (e ≡ pos 0) ⊎ (g ≡ pos 0) → ⊥
no_start {e = e} {f = f} {g = g} h zf he hg z = h.off_first (he, omega (arith, signed_linear, zf), hg, no_gap e f g z zf)

pub sum_of_halves : {a m j b n c p e f g x x1 x2 : ℤ} {r r1 r2 : Bool} → AreHalves a m j b n c p e f g → IsRight a b c r
    → IsRight a m j r1 → IsRight j n c r2 → Counts (whole_u e f g) (whole_v f g) (whole_w g) r x → Counts e f g r1 x1
    → Counts (second_u e f g) (second_v e f) e r2 x2 → sides a j c p e f g +ℤ (x1 +ℤ x2) ≡ x
sum_of_halves {a} {m} {j} {b} {n} {c} {p} {e} {f} {g} {x} {x1} {x2} {r} {r1} {r2} h right right1 right2 c0 c1 c2 =
    by_lt_z (pos 0) f (λ k. beyond (inr (inr (omega (arith, signed_linear, k)))) (beyond_first all k))
    (λ nf. by_lt_z (four_times e +ℤ f) (pos 0) (λ k. beyond (inl k) (beyond_second all k))
    (λ nu. by_lt_z (f +ℤ g) (pos 0) (λ k. beyond (inr (inl (omega (arith, signed_linear, k)))) (under_chord all k))
    (λ nv. by_lt_z f (pos 0) (λ lf. below lf nu nv) (λ zf. level (omega (arith, signed_linear, nf, zf)) nu nv))))
  where
    all : AreCounted e f g r r1 r2 x x1 x2
    all = record { whole = count (gap_whole e f g) c0; first = count refl c1; second = count (gap_second e f g) c2 }

    beyond : ((four_times e +ℤ f) <ℤ pos 0) ⊎ ((whole_v f g <ℤ pos 0) ⊎ (neg_ℤ f <ℤ pos 0)) → x1 +ℤ x2 ≡ x
        → sides a j c p e f g +ℤ (x1 +ℤ x2) ≡ x
    beyond out s = omega (
      arith,
      signed_linear,
      s,
      around_outside a j c p (four_times e +ℤ f) (whole_v f g) (neg_ℤ f) h.balanced (omega (arith, signed_linear, h.some)) out,
    )

    below : f <ℤ pos 0 → pos 0 ≤ℤ (four_times e +ℤ f) → pos 0 ≤ℤ (f +ℤ g) → sides a j c p e f g +ℤ (x1 +ℤ x2) ≡ x
    below lf nu nv = by_lt_z (pos 0) (four_times e +ℤ f) (λ hu. by_lt_z (pos 0) (f +ℤ g) (λ hv. within_triangle h all lf hu hv)
        (λ zv. on_chord h all right lf hu (omega (arith, signed_linear, nv, zv))))
        (λ zu. by_lt_z (pos 0) (f +ℤ g) (λ hv. on_second h all right2 lf (omega (arith, signed_linear, nu, zu)) hv)
        (λ zv. absurd (no_end h lf (omega (arith, signed_linear, nu, zu)) (omega (arith, signed_linear, nv, zv)))))

    level : f ≡ pos 0 → pos 0 ≤ℤ (four_times e +ℤ f) → pos 0 ≤ℤ (f +ℤ g) → sides a j c p e f g +ℤ (x1 +ℤ x2) ≡ x
    level zf nu nv = by_lt_z (pos 0) e (λ he. by_lt_z (pos 0) g (λ hg. on_first h all right1 zf he hg)
        (λ zg. absurd (no_start h zf (omega (arith, signed_linear, zf, nu)) (omega (arith, signed_linear, zf, nv))
        (inr (omega (arith, signed_linear, zf, nv, zg))))))
        (λ ze. absurd (no_start h zf (omega (arith, signed_linear, zf, nu)) (omega (arith, signed_linear, zf, nv))
        (inl (omega (arith, signed_linear, zf, nu, ze)))))

-- An arc's halves have its places on them, and elsewhere add up to it: `halves_have_the_places`, `halves_add_up`. So pieces cover
-- the same places with them in its stead.
-- Serves the law `subdivision`.
use Rattle.std.proofs.Common.{◌≡◌, ◌≢◌, refl, sym, ◌∙◌, subst, ◌↔◌, ◌⊎◌, inl, inr, ℤ, pos, ◌+ℤ◌, ◌-ℤ◌, neg_ℤ, ◌<ℤ◌}
use Rattle.std.proofs.Common.{int_lt, ◌&&◌, ◌||◌, List, ◌∷◌, ◌++◌, Option, Some, None, Any, arith}
use Rattle.std.specs.Ordering.{int_eq}
use Rattle.std.proofs.lemmas.Int.{ints, by_lt_z}
use Rattle.std.proofs.lemmas.List.Sorted.{IsPermutation-middle, IsPermutation-cons, IsPermutation-trans}
use Rattle.fx_fixed.proofs.Linear.{signed_linear}
use Rattle.fx_winding.specs.Area.{Place, area}
use Rattle.fx_winding.specs.Winding.{Span, sign, is_right_of_chord, chord_crossing, crossing, region_part, region}
use Rattle.fx_winding.specs.Winding.{IsOnPart, IsOn, IsOnCurve}
use Rattle.fx_winding.specs.Winding.{winding, IsCovered}
use Rattle.fx_symmetry.specs.Halving.{two_arcs, halves_of_part, halves_of, HalvesHaveThePlaces, HalvesAddUp, HalvesKeepCover}
use Rattle.fx_symmetry.specs.Halving.{HalvesMeet}
use Rattle.fx_winding.proofs.Crossings.{crossing_number}
use Rattle.fx_winding.proofs.Products.{IsProduct, product}
use Rattle.fx_winding.proofs.Regions.{move_in, region_cases, region_in, region_out}
use Rattle.fx_winding.proofs.Reversal.{crossing_back, area_back, on_part_back, region_part_back}
use Rattle.fx_winding.proofs.Covers.{covered_permutation, any_here, any_there, any_cases}
use Rattle.fx_symmetry.proofs.Middles.{beyond, Cut, halves_are}
use Rattle.fx_symmetry.proofs.Corners.{around, around_flat}
use Rattle.fx_symmetry.proofs.HalfAreas.{second_control, area_u, area_first_side, area_second_side, area_chord_back, heights_balance}
use Rattle.fx_winding.proofs.Triangle.{area_level}
use Rattle.fx_winding.proofs.Regions.{sign_above}
use Rattle.fx_symmetry.proofs.HalfAreas.{four_times, area_first, whole_turns, second_turns, curve_halves}
use Rattle.fx_symmetry.proofs.HalfAreas.{control, end, whole_v, raw, area_v, area_w, area_u2, area_v2, area_w2, curve_is}
use Rattle.fx_symmetry.proofs.HalfFlats.{flat_halves}
use Rattle.fx_symmetry.proofs.HalfWindings.{Counts, IsRight, AreHalves, sides, sum_of_halves}
use Rattle.fx_winding.proofs.Regions.{flat_region}
use Rattle.fx_winding.proofs.EndsOn.{end_on}
use Rattle.fx_winding.proofs.KnownPlaces.{Known, known_curve, known_either, known_flat}

-- ---- regions by their areas, where the arc's area is above zero
counts_of : (a b c p : Place) {u v w : ℤ} → sign (area a b c) ≡ pos 1 → area p b c ≡ u → area a p c ≡ v → area a b p ≡ w
    → Counts u v w (is_right_of_chord a b c) (region_part a (Some b) c p)
counts_of a b c p {u} {v} {w} s eu ev ew = elim (region_cases a b c p) [
  | inl h ↦ inl (move_in (raw s eu) (raw s ev) (raw s ew) refl h, region_in a b c p h ∙ s)
  | inr n ↦ inr (λ k. n (move_in (sym (raw s eu)) (sym (raw s ev)) (sym (raw s ew)) refl k), region_out a b c p n)
]

right_of : (a b c : Place) → pos 0 <ℤ area a b c → IsRight a.y b.y c.y (is_right_of_chord a b c)
right_of a b c d = by (area a b c) (c.y -ℤ a.y) _ a.y b.y c.y refl (product _ _) d
  where
    by : (d k z a b c : ℤ) → k ≡ c -ℤ a → IsProduct d k z → pos 0 <ℤ d
        → IsRight a b c (int_lt (pos 0) z || (int_eq a c && int_lt a b))
    by d k z a b c e p h = record {
      up = λ l. grind (arith, ints);
      down = λ l. grind (arith, ints);
      above = λ l m. grind (arith, ints);
      below = λ l m. grind (arith, ints);
    }

-- ---- the sums
-- the crossings and regions of a j with m and of j c with n add up to those of a c with b
abbrev Adds : Place → Place → Place → Place → Place → Place → Place → Type 0
Adds a b c m n j p = (chord_crossing a j p +ℤ region_part a (Some m) j p) +ℤ
    (chord_crossing j c p +ℤ region_part j (Some n) c p) ≡ chord_crossing a c p
    +ℤ region_part a (Some b) c p

around_is : (a m j p : Place)
    → (chord_crossing a j p +ℤ chord_crossing j (end a m j) p) +ℤ chord_crossing (end a m j) a p ≡ around a.y j.y (end a m j).y p.y
    (four_times (area p m j) +ℤ area a p j) (whole_v (area a p j) (area a m p)) (neg_ℤ (area a p j))
around_is a m j p = λ i. (crossing_number a.y j.y p.y (area_first_side a m j p i) +ℤ crossing_number j.y (end a m j).y p.y
    (area_second_side a m j p i)) +ℤ crossing_number (end a m j).y a.y p.y (area_chord_back a m j p i)

joined_sum : (k1 k2 k3 k x1 x2 x s : ℤ) → (k1 +ℤ k2) +ℤ k3 ≡ s → s +ℤ (x1 +ℤ x2) ≡ x → k3 ≡ neg_ℤ k
    → (k1 +ℤ x1) +ℤ (k2 +ℤ x2) ≡ k +ℤ x
joined_sum k1 k2 k3 k x1 x2 x s e f g = omega (arith, signed_linear)

not_none : (z : ℤ) → pos 0 <ℤ z → z ≢ pos 0
not_none z h e = omega (arith, signed_linear)

adds_left : (a m j p : Place) → pos 0 <ℤ area a m j → ¬ (IsOnPart a (Some (control a m)) (end a m j) p)
    → Adds a (control a m) (end a m j) m (second_control m j) j p
adds_left a m j p d off = joined_sum (chord_crossing a j p) (chord_crossing j c p) (chord_crossing c a p) (chord_crossing a c p)
    (region_part a (Some m) j p) (region_part j (Some n) c p) (region_part a (Some b) c p)
    (sides a.y j.y c.y p.y e f g) (around_is a m j p)
    (sum_of_halves halves (right_of a b c whole_left) (right_of a m j d) (right_of j n c second_left)
    (counts_of a b c p (sign_above (area a b c) whole_left) (area_u a m j p) (area_v a m j p) (area_w a m j p))
    (counts_of a m j p (sign_above (area a m j) d) refl refl refl)
    (counts_of j n c p (sign_above (area j n c) second_left) (area_u2 a m j p) (area_v2 a m j p) (area_w2 a m j p)))
    (crossing_back a c p)
  where
    b : Place
    b = control a m

    n : Place
    n = second_control m j

    c : Place
    c = end a m j

    e : ℤ
    e = area p m j

    f : ℤ
    f = area a p j

    g : ℤ
    g = area a m p

    whole_left : pos 0 <ℤ area a b c
    whole_left = (whole_turns a m j).0.0 d

    second_left : pos 0 <ℤ area j n c
    second_left = (second_turns a m j).0.0 d

    on : IsOnCurve a m j p ⊎ IsOnCurve j n c p → ⊥
    on h = off (inl ((curve_halves a m j p d).1 h))

    halves : AreHalves a.y m.y j.y b.y n.y c.y p.y e f g
    halves = record {
      b_is = refl;
      n_is = refl;
      c_is = refl;
      balanced = heights_balance a m j p;
      some = subst (λ z. pos 0 <ℤ z) (area_first a m j p) d;
      bent = λ k. not_none (area a m j) d (area_level a m j k.0 k.1);
      off_first = λ h. on (inl ((curve_is a m j p d refl refl refl).1 h));
      off_second = λ h. on (inr ((curve_is j n c p second_left (area_u2 a m j p) (area_v2 a m j p) (area_w2 a m j p)).1 h));
    }

-- an arc that turns the other way, from its end
mirror_b : (b n : Place) → beyond (beyond b n) n ≡ b
mirror_b b n = λ i. record { x = back b.x n.x i; y = back b.y n.y i }
  where
    back : (x y : ℤ) → (y +ℤ y) -ℤ ((y +ℤ y) -ℤ x) ≡ x
    back x y = omega (arith, signed_linear)

mirror_a : (a m j : Place) → end (end a m j) (second_control m j) j ≡ a
mirror_a a m j = (λ i. beyond (mirror_b (control a m) (second_control m j) i) (mirror_b m j i)) ∙ mirror_b a m

adds_back : (a b c m n j p : Place) → Adds c b a n m j p → Adds a b c m n j p
adds_back a b c m n j p h = omega (
  arith,
  signed_linear,
  h,
  crossing_back a j p,
  crossing_back j c p,
  crossing_back a c p,
  region_part_back a (Some m) j p,
  region_part_back j (Some n) c p,
  region_part_back a (Some b) c p,
)

adds_flat : (a m j p : Place) → area a m j ≡ pos 0 → Adds a (control a m) (end a m j) m (second_control m j) j p
adds_flat a m j p d = flat_sum (chord_crossing a j p) (chord_crossing j (end a m j) p) (chord_crossing (end a m j) a p)
    (chord_crossing a (end a m j) p)
    (region_part a (Some m) j p) (region_part j (Some (second_control m j)) (end a m j) p)
    (region_part a (Some (control a m)) (end a m j) p)
    (around_is a m j p ∙ around_flat a.y j.y (end a m j).y p.y (four_times (area p m j) +ℤ area a p j)
    (whole_v (area a p j) (area a m p)) (neg_ℤ (area a p j)) (heights_balance a m j p)
    (none (area p m j) (area a p j) (area a m p) (sym (area_first a m j p) ∙ d))) (crossing_back a (end a m j) p)
    (flat_region a m j p d) (flat_region j (second_control m j) (end a m j) p ((second_turns a m j).1.0 d))
    (flat_region a (control a m) (end a m j) p ((whole_turns a m j).1.0 d))
  where
    flat_sum : (k1 k2 k3 k x1 x2 x : ℤ) → (k1 +ℤ k2) +ℤ k3 ≡ pos 0 → k3 ≡ neg_ℤ k → x1 ≡ pos 0 → x2 ≡ pos 0 → x ≡ pos 0
        → (k1 +ℤ x1) +ℤ (k2 +ℤ x2) ≡ k +ℤ x
    flat_sum k1 k2 k3 k x1 x2 x e f g h l = omega (arith, signed_linear)

    none : (e f g : ℤ) → (e +ℤ f) +ℤ g ≡ pos 0 → (four_times e +ℤ f) +ℤ whole_v f g +ℤ neg_ℤ f ≡ pos 0
    none e f g h = omega (arith, signed_linear)

-- ---- the places on the halves, and the sums elsewhere
record AreHalved (a b c m n j p : Place) : Type 0 where
  on : IsOnPart a (Some b) c p ↔ (IsOnPart a (Some m) j p ⊎ IsOnPart j (Some n) c p)
  adds : ¬ (IsOnPart a (Some b) c p) → Adds a b c m n j p

-- what holds of bent arcs and of flat ones
both_kinds : {X Y Z X' Y' Z' : Type 0} → X ↔ (Y ⊎ Z) → X' ↔ (Y' ⊎ Z') → (X ⊎ X') ↔ ((Y ⊎ Y') ⊎ (Z ⊎ Z'))
both_kinds f g = (λ k. grind arith, λ k. grind arith)

halved_left : (a m j p : Place) → pos 0 <ℤ area a m j → AreHalved a (control a m) (end a m j) m (second_control m j) j p
halved_left a m j p d = record { on = both_kinds (curve_halves a m j p d) (flat_halves a m j p); adds = adds_left a m j p d }

halved_flat : (a m j p : Place) → area a m j ≡ pos 0 → AreHalved a (control a m) (end a m j) m (second_control m j) j p
halved_flat a m j p d = record { on = both_kinds (to, from) (flat_halves a m j p); adds = λ off. adds_flat a m j p d }
  where
    to : IsOnCurve a (control a m) (end a m j) p → IsOnCurve a m j p ⊎ IsOnCurve j (second_control m j) (end a m j) p
    to on = absurd (on.bent ((whole_turns a m j).1.0 d))

    from : IsOnCurve a m j p ⊎ IsOnCurve j (second_control m j) (end a m j) p → IsOnCurve a (control a m) (end a m j) p
    from (inl on) = absurd (on.bent d)
    from (inr on) = absurd (on.bent ((second_turns a m j).1.0 d))

-- an arc has halves as the reversed arc has
halved_back : (a b c m n j p : Place) → AreHalved c b a n m j p → AreHalved a b c m n j p
halved_back a b c m n j p h = record {
  on = by (back a b c) (back a m j) (back j n c) h.on;
  adds = λ off. adds_back a b c m n j p (h.adds (λ on. off (on_part_back c (Some b) a p on)));
}
  where
    back : (a b c : Place) → IsOnPart a (Some b) c p ↔ IsOnPart c (Some b) a p
    back a b c = (λ on. on_part_back a (Some b) c p on, λ on. on_part_back c (Some b) a p on)

    by : {X Y Z X' Y' Z' : Type 0} → X ↔ X' → Y ↔ Y' → Z ↔ Z' → X' ↔ (Z' ⊎ Y') → X ↔ (Y ⊎ Z)
    by x y z f = (λ k. grind arith, λ k. grind arith)

halved_right : (a m j p : Place) → area a m j <ℤ pos 0 → AreHalved a (control a m) (end a m j) m (second_control m j) j p
halved_right a m j p d = halved_back a b c m n j p (subst (λ (T : Type 0). T)
    (λ i. AreHalved c (mirror_b b n i) (mirror_a a m j i) n (mirror_b m j i) j p) (halved_left c n j p left))
  where
    b : Place
    b = control a m

    n : Place
    n = second_control m j

    c : Place
    c = end a m j

    turn : (x y z : ℤ) → x ≡ neg_ℤ y → ((pos 0 <ℤ z) ↔ (pos 0 <ℤ y)) → ((z ≡ pos 0) ↔ (y ≡ pos 0)) → z <ℤ pos 0 → pos 0 <ℤ x
    turn x y z h k l d = grind (arith, signed_linear)

    left : pos 0 <ℤ area c n j
    left = turn (area c n j) (area j n c) (area a m j) (area_back j n c) (second_turns a m j).0 (second_turns a m j).1 d

halved : (a m j p : Place) → AreHalved a (control a m) (end a m j) m (second_control m j) j p
halved a m j p = by_lt_z (pos 0) (area a m j) (halved_left a m j p) (λ h. by_lt_z (area a m j) (pos 0) (halved_right a m j p)
    (λ k. halved_flat a m j p (omega (arith, signed_linear, h, k))))

-- ---- the halves that the definition gives
-- what holds of the halves by their middles holds of them
by_middles : (a : Place) (b : Option Place) (c : Place) (f g : Span) → halves_of_part a b c ≡ Some (f, g) → (p : Place)
    → (IsOnPart a b c p ↔ (IsOn p f ⊎ IsOn p g)) × ((¬ (IsOnPart a b c p))
    → (crossing p f +ℤ region p f) +ℤ (crossing p g +ℤ region p g) ≡ chord_crossing a c p +ℤ region_part a b c p)
by_middles a None c f g e p = absurd (cc)
by_middles a (Some b) c f g e p = by (halves_are a b c f g e)
  where
    Fact : Span × Span → Type 0
    Fact h = (IsOnPart a (Some b) c p ↔ (IsOn p h.0 ⊎ IsOn p h.1)) × ((¬ (IsOnPart a (Some b) c p))
        → (crossing p h.0 +ℤ region p h.0) +ℤ (crossing p h.1 +ℤ region p h.1) ≡ chord_crossing a c p +ℤ region_part a (Some b) c p)

    by : (m : Place) × (n : Place) × (j : Place) × Cut a b c m n j × ((f, g) ≡ two_arcs a m j n c) → Fact (f, g)
    by (m, n, j, cut, is) =
        let ec : c ≡ end a m j = cut.c_is ∙ (λ i. beyond (cut.b_is i) (cut.n_is i)) in
        let h : AreHalved a b c m n j p =
        subst (λ (T : Type 0). T) (λ i. AreHalved a (sym cut.b_is i) (sym ec i) m (sym cut.n_is i) j p) (halved a m j p) in
        subst Fact (sym is) (h.on, h.adds)

pub halves_have_the_places : HalvesHaveThePlaces
halves_have_the_places s f g e p = (by_middles s.a s.b s.c f g e p).0

pub halves_add_up : HalvesAddUp
halves_add_up s f g e p off = (by_middles s.a s.b s.c f g e p).1 off

-- ---- a place is on an arc or not
known_on : (a : Place) (b : Option Place) (c : Place) (h : Span × Span) → halves_of_part a b c ≡ Some h → (p : Place)
    → Known (IsOnPart a b c p)
known_on a None c h e p = absurd (cc)
known_on a (Some b) c h e p = known_either (known_curve a b c p) (known_flat a b c p)

-- ---- the halves first in a list, and then anywhere
any_either : (P : Span → Type 0) (s : Span) (ss : List Span) → Any P (s ∷ ss) ↔ (P s ⊎ Any P ss)
any_either P s ss = grind (arith, signed_linear, any_cases, any_here, any_there)

-- f and g in the place of s, where s is known to hold or not, and if not, N and M are one fact
in_place : {S F G R A B C N M : Type 0} → Known S → S ↔ (F ⊎ G) → A ↔ (F ⊎ B) → B ↔ (G ⊎ R) → C ↔ (S ⊎ R) → (¬ S → N ↔ M)
    → (A ⊎ N) ↔ (C ⊎ M)
in_place k s a b c n = (λ h. grind arith, λ h. grind arith)

covered_first : (s f g : Span) → halves_of s ≡ Some (f, g) → (p : Place) (rest : List Span)
    → IsCovered p (f ∷ g ∷ rest) ↔ IsCovered p (s ∷ rest)
unfolding IsCovered
covered_first s f g e p rest =
    in_place (known_on s.a s.b s.c (f, g) e p) (halves_have_the_places s f g e p) (any_either (IsOn p) f (g ∷ rest))
    (any_either (IsOn p) g rest) (any_either (IsOn p) s rest)
    (λ off. (λ n z. n (same off ∙ z), λ n z. n (sym (same off) ∙ z)))
  where
    same : ¬ (IsOn p s) → winding p (f ∷ g ∷ rest) ≡ winding p (s ∷ rest)
    same off = sum (crossing p f +ℤ region p f) (crossing p g +ℤ region p g) (crossing p s +ℤ region p s) (winding p rest)
        (halves_add_up s f g e p off)
      where
        sum : (x y z w : ℤ) → x +ℤ y ≡ z → x +ℤ (y +ℤ w) ≡ z +ℤ w
        sum x y z w h = omega (arith, signed_linear)

pub halves_keep_cover : HalvesKeepCover
halves_keep_cover s f g e before after p =
    let two = covered_permutation p (before ++ (f ∷ g ∷ after)) (f ∷ g ∷ (before ++ after))
    (IsPermutation-trans (before ++ (f ∷ g ∷ after)) (f ∷ (before ++ (g ∷ after))) (f ∷ g ∷ (before ++ after))
    (IsPermutation-middle before f (g ∷ after))
    (IsPermutation-cons f (before ++ (g ∷ after)) (g ∷ (before ++ after)) (IsPermutation-middle before g after))) in
    let one = covered_permutation p (before ++ (s ∷ after)) (s ∷ (before ++ after)) (IsPermutation-middle before s after) in
    let first = covered_first s f g e p (before ++ after) in
    (λ k. one.0 (first.0 (two.1 k)), λ k. two.0 (first.1 (one.1 k)))

-- ---- the halves meet on the arc
chain_of : (a : Place) (b : Option Place) (c : Place) (f g : Span) → halves_of_part a b c ≡ Some (f, g)
    → (f.a ≡ a) × (f.c ≡ g.a) × (g.c ≡ c) × IsOn f.c f
chain_of a None c f g e = absurd (cc)
chain_of a (Some b) c f g e = by (halves_are a b c f g e)
  where
    Chain : Span × Span → Type 0
    Chain h = (h.0.a ≡ a) × (h.0.c ≡ h.1.a) × (h.1.c ≡ c) × IsOn h.0.c h.0

    by : (m : Place) × (n : Place) × (j : Place) × Cut a b c m n j × ((f, g) ≡ two_arcs a m j n c) → Chain (f, g)
    by (m, n, j, cut, is) = subst Chain (sym is) (refl, refl, refl, end_on a m j)

pub halves_meet : HalvesMeet
halves_meet s f g e =
    let chain = chain_of s.a s.b s.c f g e in
    (chain.0, chain.1, chain.2, (halves_have_the_places s f g e f.c).1 (inl chain.3))

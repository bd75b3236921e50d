-- Where tuples add nothing a glyph is as in the font, as `rests` says; one that counts 1 moves a point by its delta: `by_delta`.
-- For the laws of a font at a place.
use Rattle.std.proofs.Common.{◌≡◌, ℕ, suc, ◌+◌, ◌-◌, ◌*◌, ◌/◌, ◌^◌, ◌<◌, ◌≤◌, Bool, true, false, ℤ, pos, negsuc, neg_ℤ}
use Rattle.std.proofs.Common.{◌+ℤ◌, ◌-ℤ◌, ◌*ℤ◌, unsigned_abs, List, [], ◌∷◌, Option, Some, Ok, refl, ap, ◌∙◌}
use Rattle.std.proofs.Common.{arith}
use Rattle.std.specs.Prelude.{int_lt, option_map, if◌then◌else◌}
use Rattle.std.specs.List.{All}
use Rattle.std.specs.Int.{int_max}
use Rattle.std.proofs.lemmas.Int.{ints}
use Rattle.std.proofs.lemmas.Nat.{div-mul-add}
use Rattle.std.proofs.lemmas.Bool.{le-leb}
use Rattle.std.proofs.lemmas.List.Elements.{All-head, All-tail}
use Rattle.fx_fixed.specs.Numbers.{near_size}
use Rattle.fx_sfnt.specs.declared.records.Metrics.{Metrics}
use Rattle.fx_glyf.specs.declared.point.GlyphPoint.{GlyphPoint}
use Rattle.fx_glyf.specs.declared.component.Component.{Component}
use Rattle.fx_glyf.specs.declared.glyph.Glyph.{Glyph}
use Rattle.fx_glyf.specs.declared.glyph.Glyph.TheVariants.{Empty, Simple, Composite}
use Rattle.fx_glyf.specs.Components.{has_offsets}
use Rattle.fx_axes.specs.Rounding.{near_down_size, near_up_of}
use Rattle.fx_tuples.specs.Regions.{whole}
use Rattle.fx_moves.specs.declared.point.GivenPoint.{GivenPoint}
use Rattle.fx_moves.specs.Giving.{moved_by}
use Rattle.fx_moves.specs.Adding.{added}
use Rattle.fx_vary.specs.Settling.{whole_move, has_16_bits, settled}
use Rattle.fx_vary.specs.Metrics.{origin_of, advance_of, bearings_of, one_of_sums}
use Rattle.fx_vary.specs.Instance.{InstanceView}
use Rattle.fx_vary.specs.Shape.{points_before, sum_at, both_settled, point_moved, component_moved, all_moved, glyph_moved}
use Rattle.fx_vary.specs.Shape.{phantom_sum, summed, own_shape, shape_in, x_min_of}
use Rattle.fx_vary.specs.Laws.{IsPoint, IsComponent, IsInFont}
use Rattle.fx_vary.proofs.Listing.{still_before}

-- ---- rounding what is whole

near_exact : (n d : ℕ) → 0 < d → near_size (n * d) d ≡ n
near_exact n d h =
    let e : 2 * (n * d) + d ≡ n * (2 * d) + d = omega arith in
    ap (λ (m : ℕ). m / (2 * d)) e ∙ div-mul-add n (2 * d) d (omega arith)

down_exact : (n d : ℕ) → 0 < d → near_down_size (n * d) d ≡ n
down_exact n d h =
    let e : 2 * (n * d) + (d - 1) ≡ n * (2 * d) + (d - 1) = omega arith in
    ap (λ (m : ℕ). m / (2 * d)) e ∙ div-mul-add n (2 * d) (d - 1) (omega arith)

up_whole : (n : ℕ) → near_up_of (pos (n * 2 ^ 58)) (2 ^ 58) ≡ pos n
unfolding near_up_of
up_whole n = ap pos (near_exact n (2 ^ 58) (omega arith))

down_whole : (n m : ℕ) → suc m ≡ suc n * 2 ^ 58 → near_up_of (negsuc m) (2 ^ 58) ≡ negsuc n
unfolding near_up_of
down_whole n m e =
    ap (λ (k : ℕ). neg_ℤ (pos (near_down_size k (2 ^ 58)))) e
    ∙ ap (λ (k : ℕ). neg_ℤ (pos k)) (down_exact (suc n) (2 ^ 58) (omega arith))

rounded : (d s : ℤ) → s ≡ d *ℤ one_of_sums → near_up_of s (2 ^ 58) ≡ d
rounded (pos n) s e =
    let f : s ≡ pos (n * 2 ^ 58) = omega (arith, ints, e) in
    ap (λ (t : ℤ). near_up_of t (2 ^ 58)) f ∙ up_whole n
rounded (negsuc n) s e =
    let f : s ≡ negsuc (suc n * 2 ^ 58 - 1) = omega (arith, ints, e) in
    ap (λ (t : ℤ). near_up_of t (2 ^ 58)) f ∙ down_whole n (suc n * 2 ^ 58 - 1) (omega arith)

pub by_delta : (d : ℤ) (p : GivenPoint) → p.sum ≡ pos 0 → whole_move (added (pos whole) (moved_by d p)).sum ≡ d
by_delta d p e = rounded d (added (pos whole) (moved_by d p)).sum (omega (arith, ints, e))

-- ---- coordinates

stays : (at sum : ℤ) → sum ≡ pos 0 → has_16_bits at ≡ true → settled at sum ≡ Some at
unfolding settled
stays at sum e h =
    let f : at +ℤ whole_move sum ≡ at = omega (arith, ints, rounded (pos 0) sum (omega (arith, ints, e))) in
    rw (f, h) refl

both_stay : (at : ℤ × ℤ) (x y : ℤ) → x ≡ pos 0 → y ≡ pos 0 → has_16_bits at.0 ≡ true → has_16_bits at.1 ≡ true
    → both_settled at x y ≡ Some at
both_stay at x y ex ey h k = rw (stays at.0 x ex h, stays at.1 y ey k) refl

point_stays : (x y : ℤ) (p : GlyphPoint) → x ≡ pos 0 → y ≡ pos 0 → IsPoint p → point_moved x y p ≡ Some p
unfolding point_moved
point_stays x y p ex ey h = rw (both_stay (p.x, p.y) x y ex ey h.0 h.1) refl

component_stays : (x y : ℤ) (c : Component) → x ≡ pos 0 → y ≡ pos 0 → IsComponent c → component_moved x y c ≡ Some c
unfolding component_moved
component_stays x y c ex ey h = by (has_offsets c) h
  where
    by : (b : Bool) → (b ≡ true → (has_16_bits c.args.0 ≡ true) × (has_16_bits c.args.1 ≡ true))
        → (if b then option_map (λ at. record c { args = at }) (both_settled c.args x y) else Some c) ≡ Some c
    by true h = rw (both_stay c.args x y ex ey (h refl).0 (h refl).1) refl
    by false h = refl

-- all of a list stay
all_stay : {A : Type 0} (move : ℤ → ℤ → A → Option A) (P : A → Type 0) (xs ys : List GivenPoint) (k : ℕ) (ps : List A)
    → ((j : ℕ) → sum_at xs j ≡ pos 0) → ((j : ℕ) → sum_at ys j ≡ pos 0)
    → ((x y : ℤ) (p : A) → x ≡ pos 0 → y ≡ pos 0 → P p → move x y p ≡ Some p)
    → All P ps → all_moved move xs ys k ps ≡ Some ps
unfolding all_moved
all_stay move P xs ys k [] ex ey m h = refl
all_stay move P xs ys k (p ∷ ps) ex ey m h =
    rw (
      m (sum_at xs k) (sum_at ys k) p (ex k) (ey k) (All-head P p ps h),
      all_stay move P xs ys (suc k) ps ex ey m (All-tail P p ps h),
    ) refl

glyph_stays : (xs ys : List GivenPoint) (glyph : Glyph) → ((j : ℕ) → sum_at xs j ≡ pos 0) → ((j : ℕ) → sum_at ys j ≡ pos 0)
    → IsInFont glyph → glyph_moved xs ys glyph ≡ Some glyph
unfolding glyph_moved
glyph_stays xs ys Empty ex ey h = refl
glyph_stays xs ys (Simple s) ex ey h = rw (all_stay point_moved IsPoint xs ys 0 s.points ex ey point_stays h) refl
glyph_stays xs ys (Composite c) ex ey h =
    rw (all_stay component_moved IsComponent xs ys 0 c.components ex ey component_stays h) refl

-- ---- origin and advance

origin_stays : (at sum : ℤ) → sum ≡ pos 0 → origin_of at sum ≡ at
unfolding origin_of
origin_stays at sum e =
    let f : near_up_of (neg_ℤ (at *ℤ one_of_sums +ℤ sum)) (2 ^ 58) ≡ neg_ℤ at = rounded (neg_ℤ at) _ (omega (arith, ints, e)) in
    omega (arith, ints, f)

max_above : (w : ℕ) → int_max (pos 0) (pos w) ≡ pos w
max_above w = by (int_lt (pos w) (pos 0)) refl
  where
    by : (b : Bool) → int_lt (pos w) (pos 0) ≡ b → int_max (pos 0) (pos w) ≡ pos w
    by true e = absurd (omega (arith, ints, e))
    by false e = rw e refl

advance_stays : (w : ℕ) (x y : ℤ) → x ≡ pos 0 → y ≡ pos 0 → advance_of w x y ≡ pos w
unfolding advance_of
advance_stays w x y ex ey =
    let f : near_up_of (pos w *ℤ one_of_sums +ℤ (y -ℤ x)) (2 ^ 58) ≡ pos w = rounded (pos w) _ (omega (arith, ints, ex, ey)) in
    rw f (max_above w)

bearings_stay : (m : Metrics) (x_min x y : ℤ) → x ≡ pos 0 → y ≡ pos 0 → unsigned_abs (x_min -ℤ m.lsb) ≤ 65535
    → m.advance_width ≤ 65535
    → bearings_of m x_min x y ≡ Some (record { origin = x_min -ℤ m.lsb; advance = m.advance_width })
unfolding bearings_of
bearings_stay m x_min x y ex ey h k =
    rw (origin_stays (x_min -ℤ m.lsb) x ex, advance_stays m.advance_width x y ex ey)
    (rw (le-leb _ _ h, le-leb _ _ k) refl)

pub rests : (i : InstanceView) (g : ℕ) (m : Metrics) (glyph : Glyph) → IsInFont glyph
    → unsigned_abs (x_min_of glyph -ℤ m.lsb) ≤ 65535 → m.advance_width ≤ 65535
    → summed i g false glyph ≡ Ok (points_before false glyph) → summed i g true glyph ≡ Ok (points_before true glyph)
    → shape_in i g m glyph ≡ Ok (own_shape m glyph)
unfolding shape_in
rests i g m glyph h b w ex ey =
    let zx : (j : ℕ) → sum_at (points_before false glyph) j ≡ pos 0 = still_before false glyph in
    let zy : (j : ℕ) → sum_at (points_before true glyph) j ≡ pos 0 = still_before true glyph in
    rw (
      ex,
      ey,
      glyph_stays (points_before false glyph) (points_before true glyph) glyph zx zy h,
      bearings_stay m (x_min_of glyph) (phantom_sum glyph (points_before false glyph) 0)
          (phantom_sum glyph (points_before false glyph) 1) (zx _) (zx _) b w,
    ) refl

-- A simple glyph has as many points at a place as in the font, with the same contours, as `same_points` and `all_given` say.
-- For `bearings`, and for outlines of a font at a place.
use Rattle.std.proofs.Common.{◌≡◌, ℕ, suc, ℤ, false, true, List, [], ◌∷◌, length, Option, Some, None, Result, Ok, Err, refl, ap, ◌∙◌, subst, OnOk}
use Rattle.std.specs.Prelude.{option_map, option_and_then}
use Rattle.fx_fixed.specs.Chain.{GivesUnless}
use Rattle.fx_fixed.proofs.Chain.{bind_ok, wanted_ok, ok_injective}
use Rattle.fx_sfnt.specs.declared.records.Metrics.{Metrics}
use Rattle.fx_glyf.specs.declared.point.GlyphPoint.{GlyphPoint}
use Rattle.fx_glyf.specs.declared.component.Component.{Component}
use Rattle.fx_glyf.specs.declared.glyph.Glyph.{Glyph}
use Rattle.fx_glyf.specs.declared.glyph.Glyph.TheVariants.{Empty, Simple, Composite}
use Rattle.fx_glyf.specs.Shapes.{SimpleView}
use Rattle.fx_moves.specs.declared.point.GivenPoint.{GivenPoint}
use Rattle.fx_vary.specs.Instance.{InstanceView}
use Rattle.fx_vary.specs.Shape.{ShapeView, sum_at, point_moved, all_moved, glyph_moved, with_lists, summed, shape_in}
use Rattle.fx_vary.specs.Shape.{x_min_of, phantom_sum}
use Rattle.fx_vary.specs.Metrics.{bearings_of}
use Rattle.fx_vary.specs.declared.fault.ShapeFault.TheVariants.{BadVariations}
use Rattle.fx_vary.specs.FontAt.{HasAllPoints, glyph_by}
use Rattle.fx_vary.specs.Faults.{Fails}
use Rattle.fx_vary.specs.declared.fault.ShapeFault.{ShapeFault}
use Rattle.fx_vary.specs.declared.metrics.Bearings.{Bearings}

first_moved : {A : Type 0} (o : Option A) (r : Option (List A)) (qs : List A)
    → option_and_then (λ q. option_map (λ t. q ∷ t) r) o ≡ Some qs
    → (q : A) × (t : List A) × (r ≡ Some t) × (qs ≡ q ∷ t)
first_moved None r qs e = absurd (cc e)
first_moved (Some q) None qs e = absurd (cc e)
first_moved (Some q) (Some t) qs e = (q, t, refl, cc)

many : {A : Type 0} (move : ℤ → ℤ → A → Option A) (xs ys : List GivenPoint) (k : ℕ) (ps qs : List A)
    → all_moved move xs ys k ps ≡ Some qs → length qs ≡ length ps
unfolding all_moved
many move xs ys k [] qs e = let f : qs ≡ [] = cc in ap length f
many move xs ys k (p ∷ ps) qs e =
    let f = first_moved (move (sum_at xs k) (sum_at ys k) p) (all_moved move xs ys (suc k) ps) qs e in
    ap length f.3 ∙ ap suc (many move xs ys (suc k) ps f.1 f.2)

-- a glyph with the contours of a simple one, and as many points
pub record SamePoints (s : SimpleView) (glyph : Glyph) : Type 0 where
  pub points : List GlyphPoint
  pub is : glyph ≡ Simple (record s { points = points })
  pub long : length points ≡ length s.points

same_moved : (xs ys : List GivenPoint) (s : SimpleView) (o : Option (List GlyphPoint)) (glyph : Glyph)
    → all_moved point_moved xs ys 0 s.points ≡ o
    → option_map (λ ps. Simple (record s { points = ps })) o ≡ Some glyph → SamePoints s glyph
same_moved xs ys s None glyph e f = absurd (cc f)
same_moved xs ys s (Some ps) glyph e f = record { points = ps; is = cc; long = many point_moved xs ys 0 s.points ps e }

pub same_points : (i : InstanceView) (g : ℕ) (m : Metrics) (s : SimpleView) (x : ShapeView) → shape_in i g m (Simple s) ≡ Ok x
    → SamePoints s x.glyph
unfolding shape_in glyph_moved
same_points i g m s x e =
    let a = bind_ok (summed i g false (Simple s)) _ x e in
    let b = bind_ok (summed i g true (Simple s)) _ x a.2 in
    let c = wanted_ok (glyph_moved a.0 b.0 (Simple s)) _ _ x b.2 in
    let d = wanted_ok {A = Bearings} (bearings_of m (x_min_of (Simple s)) (phantom_sum (Simple s) a.0 0)
    (phantom_sum (Simple s) a.0 1)) (BadVariations g) (λ b. Ok (record { glyph = c.0; bearings = b })) x c.2 in
    let same : c.0 ≡ x.glyph = ap (λ (y : ShapeView). y.glyph) (ok_injective _ _ d.2) in
    let P : Glyph → Type 0 = λ glyph. SamePoints s glyph in
    subst P same (same_moved a.0 b.0 s (all_moved point_moved a.0 b.0 0 s.points) c.0 refl c.1)

given_points : (s : SimpleView) (ps : List GlyphPoint) (cs : List Component) → SamePoints s (with_lists (Simple s) ps cs)
    → length ps ≡ length s.points
unfolding with_lists
given_points s ps cs h = ap (λ (g : Glyph). points_in g) h.is ∙ h.long
  where
    points_in : Glyph → ℕ
    points_in (Simple t) = length t.points
    points_in _ = 0

-- the lists of a glyph that was made have all of its points
pub all_given : (i : InstanceView) (g : ℕ) (m : Metrics) (glyph : Glyph) (ps : List GlyphPoint) (cs : List Component)
    (r : Result Bearings ShapeFault)
    → GivesUnless Fails (λ b. record { glyph = with_lists glyph ps cs; bearings = b }) r (shape_in i g m glyph)
    → OnOk r (HasAllPoints (Some i) glyph ps)
all_given i g m glyph ps cs (Err f) e = tt
all_given i g m Empty ps cs (Ok b) e = tt
all_given i g m (Simple s) ps cs (Ok b) e =
    given_points s ps cs (same_points i g m s (record { glyph = with_lists (Simple s) ps cs; bearings = b }) e)
all_given i g m (Composite c) ps cs (Ok b) e = tt

-- a glyph at a place has its lists, and one of the font its own
pub by_lists : (i : InstanceView) (glyph : Glyph) (ps : List GlyphPoint) (cs : List Component)
    → glyph_by (Some i) glyph ps cs ≡ with_lists glyph ps cs
unfolding glyph_by with_lists
by_lists i Empty ps cs = refl
by_lists i (Simple s) ps cs = refl
by_lists i (Composite c) ps cs = refl

pub by_own : (glyph : Glyph) (ps : List GlyphPoint) (cs : List Component) → glyph_by None glyph ps cs ≡ glyph
unfolding glyph_by
by_own Empty ps cs = refl
by_own (Simple s) ps cs = refl
by_own (Composite c) ps cs = refl

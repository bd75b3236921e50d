-- An assembled glyph has the points that were counted, and its contours end with them: `root_sound`.
-- For `outline_with`, whose outline keeps its limits.
use Rattle.std.proofs.Common.{◌≡◌, ℕ, zero, suc, ◌+◌, ◌≤◌, List, [], ◌∷◌, ◌++◌, length, map, Bool, None, Ok, refl, sym, ap, ◌∙◌, subst}
use Rattle.std.proofs.Common.{arith, length-append}
use Rattle.std.specs.Prelude.{nat_lt, nat_le}
use Rattle.std.proofs.lemmas.Bool.{ltb-false}
use Rattle.std.proofs.lemmas.List.{length-map}
use Rattle.fx_fixed.specs.Chain.{map_fault}
use Rattle.fx_fixed.proofs.Chain.{bind_ok, refuse_ok, map_fault_ok, ok_injective}
use Rattle.fx_vary.specs.declared.metrics.Bearings.{Bearings}
use Rattle.fx_sfnt.specs.Tables.{Face}
use Rattle.fx_vary.specs.Shape.{ShapeView}
use Rattle.fx_hint.specs.Shapes.{Shapes, shapes_of}
use Rattle.fx_sfnt.specs.Glyphs.{metrics_of, glyph_bytes_of}
use Rattle.fx_glyf.specs.declared.component.Component.{Component}
use Rattle.fx_glyf.specs.declared.glyph.Glyph as glyf
use Rattle.fx_glyf.specs.declared.glyph.Glyph.TheVariants.{Empty, Simple, Composite}
use Rattle.fx_glyf.specs.Shapes.{SimpleView}
use Rattle.fx_glyf.specs.Glyphs.{glyph_of}
use Rattle.fx_glyf.proofs.Outlines.{outline_count}
use Rattle.fx_glyf.proofs.PointsDescribed.{only_points}
use Rattle.fx_glyf.proofs.Described.{found_glyph}
use Rattle.fx_zone.specs.Figures.{Figure, empty_figure, joined}
use Rattle.fx_scale.specs.declared.scale.Scale.{Scale}
use Rattle.fx_scale.specs.Phantoms.{phantoms_from}
use Rattle.fx_scale.specs.Zones.{scaled_point, zone_of_simple}
use Rattle.fx_hint.specs.declared.count.Count.{Count}
use Rattle.fx_hint.specs.declared.made.Made.{Made}
use Rattle.fx_hint.specs.declared.fault.HintFault.TheVariants.{Font, Glyph, TooManyComponents, TooManyPoints}
use Rattle.fx_outline.specs.Limits.{max_points}
use Rattle.fx_hint.specs.Limits.{max_components, max_depth}
use Rattle.fx_outline.specs.Ends.{AreEnds}
use Rattle.fx_machine.specs.declared.usage.Usage.{Usage}
use Rattle.fx_machine.specs.Usages.{usage_with}
use Rattle.fx_hint.specs.Hinting.{Hinting, KeepsShape}
use Rattle.fx_hint.specs.Placing.{laid, laid_figure, offset_of, with_component}
use Rattle.fx_hint.specs.Outlines.{Maker, one_component, more_points, simple_made, run_on, with_components, made_of, assembled}
use Rattle.fx_hint.specs.Outlines.{component, nothing_counted, root_made, IsSound}
use Rattle.fx_hint.proofs.Contours.{ends_joined}

-- the points of an assembled glyph were counted, and its contours end with them
record IsCounted (count : Count) (made : Made) (counted : Count) : Type 0 where
  points : count.points + length made.zone.points ≡ counted.points
  few : counted.points ≤ max_points
  contours : AreEnds 0 made.zone.ends (length made.zone.points)

abbrev AllCounted : Maker → Type 0
AllCounted make =
    (g : ℕ) (count : Count) (r : Made × Count) → count.points ≤ max_points → make g count ≡ Ok r → IsCounted count r.0 r.1

-- the contours of a simple glyph that was read end with its points
abbrev pub IsValid : glyf.Glyph → Type 0
IsValid Empty = Unit {0}
IsValid (Simple shape) = AreEnds 0 shape.ends (length shape.points)
IsValid (Composite assembly) = Unit {0}

read_valid : (bytes : List ℕ) (g : ℕ) (glyph : glyf.Glyph) → glyph_of bytes g ≡ Ok glyph → IsValid glyph
read_valid bytes g Empty h = tt
read_valid bytes g (Simple shape) h =
    let d = found_glyph bytes g (Simple shape) h in
    let n : length shape.points ≡ d.count =
    outline_count d.count d.rest shape.points (only_points d.count d.rest shape.points d.points_are) in
    let P : ℕ → Type 0 = λ k. AreEnds 0 shape.ends k in
    subst P (sym n) d.in_order
read_valid bytes g (Composite assembly) h = tt

-- those of all glyphs
abbrev pub AreValid : Shapes → Type 0
AreValid font = (g : ℕ) (x : ShapeView) → font g ≡ Ok x → IsValid x.glyph

pub font_valid : (face : Face) → AreValid (shapes_of face)
unfolding shapes_of
font_valid face g x e =
    let m = bind_ok (map_fault Font (metrics_of face g)) _ x e in
    let bytes = bind_ok (map_fault Font (glyph_bytes_of face g)) _ x m.2 in
    let glyph = bind_ok (map_fault Glyph (glyph_of bytes.0 g)) _ x bytes.2 in
    let P : glyf.Glyph → Type 0 = λ glyph. IsValid glyph in
    subst P (ap (λ (y : ShapeView). y.glyph) (ok_injective _ _ glyph.2))
    (read_valid bytes.0 g glyph.0 (map_fault_ok Glyph (glyph_of bytes.0 g) glyph.0 glyph.1))

component_kept : (root : ℕ) (count counted : Count) → one_component root count ≡ Ok counted → counted.points ≡ count.points
unfolding one_component
component_kept root count counted h =
    let r = refuse_ok (nat_le max_components count.records) (TooManyComponents root)
    (λ _. Ok (record count { records = count.records + 1 })) counted h in
    ap (λ (c : Count). c.points) (sym (ok_injective _ _ r.1))

points_counted : (root n : ℕ) (count counted : Count) → more_points root n count ≡ Ok counted
    → (count.points + n ≡ counted.points) × (counted.points ≤ max_points)
unfolding more_points
points_counted root n count counted h =
    let r = refuse_ok (nat_lt max_points (count.points + n)) (TooManyPoints root)
    (λ _. Ok (record count { points = count.points + n })) counted h in
    let low = ltb-false max_points (count.points + n) r.0 in
    let e : count.points + n ≡ counted.points = ap (λ (c : Count). c.points) (ok_injective _ _ r.1) in
    (e, omega arith)

simple_counted : (s : Scale) (hinted : Bool) (root : ℕ) (m : Bearings) (shape : SimpleView) (count : Count) (r : Made × Count)
    → AreEnds 0 shape.ends (length shape.points) → simple_made s hinted root m shape count ≡ Ok r → IsCounted count r.0 r.1
unfolding simple_made
simple_counted s hinted root m shape count r a h =
    let b = bind_ok (more_points root (length shape.points) count)
    (λ counted. Ok
    (record { zone = zone_of_simple s shape; phantoms = phantoms_from s hinted m.origin m.advance; wish = None }, counted)) r h in
    let c = points_counted root (length shape.points) count b.0 b.1 in
    let n : length (map (scaled_point s) shape.points) ≡ length shape.points = length-map shape.points (scaled_point s) in
    let P : Made × Count → Type 0 = λ q. IsCounted count q.0 q.1 in
    let Q : ℕ → Type 0 = λ k. AreEnds 0 shape.ends k in
    subst P (ok_injective _ _ b.2) (record {
      points = ap (λ k. count.points + k) n ∙ c.0;
      few = c.1;
      contours = subst Q (sym n) a;
    })

-- a program keeps what was counted
run_counted : (h : Hinting) (g : ℕ) (code : List ℕ) (count : Count) (made r : Made × Count) → KeepsShape h
    → IsCounted count made.0 made.1 → run_on h g code made ≡ Ok r → IsCounted count r.0 r.1
unfolding run_on
run_counted h g code count made r keeps k e =
    let b = bind_ok (h.run g code made.0) (λ ran. Ok (ran.0, record made.1 { usage = usage_with made.1.usage ran.1 })) r e in
    let same = keeps g code made.0 b.0 b.1 in
    let P : Made × Count → Type 0 = λ q. IsCounted count q.0 q.1 in
    let Q : List ℕ → Type 0 = λ es. AreEnds 0 es (length b.0.0.zone.points) in
    let R : ℕ → Type 0 = λ n. AreEnds 0 made.0.zone.ends n in
    subst P (ok_injective _ _ b.2) (record {
      points = ap (λ n. count.points + n) same.0 ∙ k.points;
      few = k.few;
      contours = subst Q (sym same.1) (subst R (sym same.0) k.contours);
    })

-- a component after the points so far
component_joined : (s : Scale) (hinted : Bool) (g : ℕ) (component : Component) (base made more : Made)
    → AreEnds 0 base.zone.ends (length base.zone.points) → AreEnds 0 made.zone.ends (length made.zone.points)
    → with_component s hinted g component base made ≡ Ok more
    → (length more.zone.points ≡ length base.zone.points + length made.zone.points)
    × AreEnds 0 more.zone.ends (length more.zone.points)
unfolding with_component
component_joined s hinted g component base made more a b h =
    let p = bind_ok (offset_of s hinted g component base.zone made.zone) _ more h in
    let zone : joined base.zone (laid_figure component p.0 made.zone) ≡ more.zone =
    ap (λ (m : Made). m.zone) (ok_injective _ _ p.2) in
    let n : length (map (laid component p.0) made.zone.points) ≡ length made.zone.points =
    length-map made.zone.points (laid component p.0) in
    let total : length (base.zone.points ++ map (laid component p.0) made.zone.points) ≡ length base.zone.points + length
    made.zone.points = length-append base.zone.points _ ∙ ap (λ k. length base.zone.points + k) n in
    let P : Figure → Type 0 =
    λ f. (length f.points ≡ length base.zone.points + length made.zone.points) × AreEnds 0 f.ends (length f.points) in
    let Q : ℕ → Type 0 = λ k. AreEnds 0 (base.zone.ends ++ map (λ e. length base.zone.points + e) made.zone.ends) k in
    subst P zone (
      total,
      subst Q (sym total)
          (ends_joined base.zone.ends (length base.zone.points) made.zone.ends (length made.zone.points) a b),
    )

-- components after the points so far
record AreJoined (base : Made) (count : Count) (made : Made) (counted : Count) : Type 0 where
  points : count.points + length made.zone.points ≡ length base.zone.points + counted.points
  few : counted.points ≤ max_points
  contours : AreEnds 0 made.zone.ends (length made.zone.points)

components_joined : (s : Scale) (hinted : Bool) (make : Maker) (g : ℕ) (components : List Component) (base : Made) (count : Count)
    (r : Made × Count)
    → AllCounted make → count.points ≤ max_points → AreEnds 0 base.zone.ends (length base.zone.points)
    → with_components s hinted make g components base count ≡ Ok r → AreJoined base count r.0 r.1
unfolding with_components
components_joined s hinted make g [] base count r all low a h =
    let P : Made × Count → Type 0 = λ q. AreJoined base count q.0 q.1 in
    subst P (ok_injective _ _ h) (record { points = omega arith; few = low; contours = a })
components_joined s hinted make g (component ∷ components) base count r all low a h =
    let b = bind_ok (make component.glyph count) _ r h in
    let made = all component.glyph count b.0 low b.1 in
    let p = bind_ok (with_component s hinted g component base b.0.0) _ r b.2 in
    let more = component_joined s hinted g component base b.0.0 p.0 a made.contours p.1 in
    let rest = components_joined s hinted make g components p.0 b.0.1 r all made.few more.1 p.2 in
    let n = more.0 in
    let one = made.points in
    let two = rest.points in
    record { points = omega arith; few = rest.few; contours = rest.contours }

made_counted : (h : Hinting) (s : Scale) (root : ℕ) (make : Maker) (g : ℕ) (m : Bearings) (glyph : glyf.Glyph) (count : Count)
    (r : Made × Count)
    → KeepsShape h → AllCounted make → count.points ≤ max_points → IsValid glyph → made_of h s root make g m glyph count ≡ Ok r
    → IsCounted count r.0 r.1
unfolding made_of
made_counted h s root make g m Empty count r keeps all low valid e =
    let P : Made × Count → Type 0 = λ q. IsCounted count q.0 q.1 in
    subst P (ok_injective _ _ e) (record { points = omega arith; few = low; contours = refl })
made_counted h s root make g m (Simple shape) count r keeps all low valid e =
    let b = bind_ok (simple_made s h.on root m shape count) (run_on h g shape.code) r e in
    run_counted h g shape.code count b.0 r keeps (simple_counted s h.on root m shape count b.0 valid b.1) b.2
made_counted h s root make g m (Composite assembly) count r keeps all low valid e =
    let b = bind_ok (with_components s h.on make g assembly.components
    (record { zone = empty_figure; phantoms = phantoms_from s h.on m.origin m.advance; wish = None }) count)
    (run_on h g assembly.code) r e in
    let j = components_joined s h.on make g assembly.components
    (record { zone = empty_figure; phantoms = phantoms_from s h.on m.origin m.advance; wish = None }) count b.0 all low refl b.1 in
    let n = j.points in
    run_counted h g assembly.code count b.0 r keeps (record { points = omega arith; few = j.few; contours = j.contours }) b.2

assembled_counted : (h : Hinting) (font : Shapes) (s : Scale) (root : ℕ) (make : Maker) (g : ℕ) (count : Count) (r : Made × Count)
    → KeepsShape h → AreValid font → AllCounted make → count.points ≤ max_points
    → assembled h font s root make g count ≡ Ok r → IsCounted count r.0 r.1
unfolding assembled
assembled_counted h font s root make g count r keeps valid all low e =
    let shape = bind_ok (font g) (λ shape. made_of h s root make g shape.bearings shape.glyph count) r e in
    made_counted h s root make g shape.0.bearings shape.0.glyph count r keeps all low (valid g shape.0 shape.1) shape.2

component_counted : (h : Hinting) (font : Shapes) (s : Scale) (root levels : ℕ) → KeepsShape h → AreValid font
    → AllCounted (component h font s root levels)
unfolding component
component_counted h font s root zero keeps valid g count r low e = absurd (cc)
component_counted h font s root (suc levels) keeps valid g count r low e =
    let b =
    bind_ok (one_component root count) (λ counted. assembled h font s root (component h font s root levels) g counted) r e in
    let same = component_kept root count b.0 b.1 in
    let w = assembled_counted h font s root (component h font s root levels) g b.0 r keeps valid
    (component_counted h font s root levels keeps valid) (omega arith) b.2 in
    let n = w.points in
    record { points = omega arith; few = w.few; contours = w.contours }

-- an assembled root is sound
pub root_sound : (h : Hinting) (font : Shapes) (s : Scale) (g : ℕ) (made : Made × Usage) → KeepsShape h → AreValid font
    → root_made h font s g ≡ Ok made → IsSound made.0
unfolding root_made
root_sound h font s g made keeps valid e =
    let b = bind_ok (assembled h font s g (component h font s g max_depth) g nothing_counted) (λ m. Ok (m.0, m.1.usage)) made e in
    let w = assembled_counted h font s g (component h font s g max_depth) g nothing_counted b.0 keeps valid
    (component_counted h font s g max_depth keeps valid) (omega arith) b.1 in
    let n = w.points in
    let f = w.few in
    let P : Made × Usage → Type 0 = λ m. IsSound m.0 in
    subst P (ok_injective _ _ b.2) (record { few = omega arith; contours = w.contours })

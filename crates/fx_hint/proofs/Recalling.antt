-- A component that is recalled is what it would become if it were made again: `begun_again`.
-- Serves the walk, which recalls components that were kept, and `keep`.
use Rattle.std.proofs.Common.{◌≡◌, ℕ, List, length, Option, Some, None, refl, ◌∙◌, Result, Ok, Err, OnOk, OnErr}
use Rattle.std.proofs.lemmas.List.{length-map}
use Rattle.fx_fixed.specs.Chain.{◌>>=◌}
use Rattle.fx_sfnt.specs.declared.records.Metrics.{Metrics}
use Rattle.fx_sfnt.specs.Tables.{Face}
use Rattle.fx_vary.specs.declared.metrics.Bearings.{Bearings}
use Rattle.fx_vary.specs.Shape.{own_bearings}
use Rattle.fx_hint.specs.Shapes.{shapes_of}
use Rattle.fx_sfnt.specs.Glyphs.{metrics_of, glyph_bytes_of}
use Rattle.fx_glyf.specs.declared.glyph.Glyph.TheVariants.{Simple}
use Rattle.fx_glyf.specs.Shapes.{SimpleView}
use Rattle.fx_scale.specs.declared.scale.Scale.{Scale}
use Rattle.fx_scale.specs.Zones.{scaled_point}
use Rattle.fx_hint.specs.declared.component.ComponentOf.{ComponentOf}
use Rattle.fx_hint.specs.declared.count.Count.{Count}
use Rattle.fx_machine.specs.declared.usage.Usage.{Usage}
use Rattle.fx_hint.specs.declared.made.Made.{Made}
use Rattle.fx_hint.specs.declared.fault.HintFault.{HintFault}
use Rattle.fx_machine.specs.Usages.{usage_with}
use Rattle.fx_hint.specs.Hinting.{Hinting, KeepsShape}
use Rattle.fx_hint.specs.Outlines.{more_points, scaled_simple, simple_made, run_on}
use Rattle.fx_hint.specs.Kept.{IsMadeAlone, IsTrueOf, KeptGlyphView}
use Rattle.fx_hint.specs.inner.Steps.{Step, Assembled, begun_by, begun, counted_made}

abbrev with_count : Made → Count → Result (Made × Count) HintFault
with_count made count = Ok (made, count)

abbrev as_step : Made × Count → Result (Step × Count) HintFault
as_step made = Ok (Assembled made.0, made.1)

abbrev with_usage : Made → Usage → Count → Result (Step × Count) HintFault
with_usage made usage count = Ok (Assembled made, record count { usage = usage_with count.usage usage })

-- points are counted, and then a program runs as it did
counted_after : (h : Hinting) (g : ℕ) (code : List ℕ) (start made : Made) (usage : Usage) (counted : Result Count HintFault)
    → h.run g code start ≡ Ok (made, usage)
    → (counted >>= with_usage made usage) ≡ ((counted >>= with_count start) >>= λ m. run_on h g code m >>= as_step)
unfolding run_on
counted_after h g code start made usage (Ok c) r = rw r refl
counted_after h g code start made usage (Err e) r = refl

counted_simple_is_begun : (h : Hinting) (s : Scale) (root : ℕ) (component : Option ComponentOf) (g : ℕ)
    (m : Bearings) (shape : SimpleView) (made : Made) (usage : Usage) (count : Count)
    → KeepsShape h → h.run g shape.code (scaled_simple s h.on m shape) ≡ Ok (made, usage)
    → counted_made root made usage count ≡ begun_by h s root component g m (Simple shape) count
unfolding counted_made begun_by simple_made
counted_simple_is_begun h s root component g m shape made usage count keeps r =
    let same : length made.zone.points ≡ length shape.points =
    (keeps g shape.code (scaled_simple s h.on m shape) (made, usage) r).0 ∙ length-map shape.points (scaled_point s) in
    rw same (counted_after h g shape.code (scaled_simple s h.on m shape) made usage
    (more_points root (length shape.points) count) r)

-- a component that is recalled is what it would become if it were made again
pub begun_again : (h : Hinting) (face : Face) (s : Scale) (root : ℕ) (component : Option ComponentOf) (g : ℕ) (m : Metrics)
    (bytes : List ℕ) (made : Made) (usage : Usage) (count : Count)
    → KeepsShape h → metrics_of face g ≡ Ok m → glyph_bytes_of face g ≡ Ok bytes → IsMadeAlone h s g m bytes made usage
    → counted_made root made usage count ≡ begun h (shapes_of face) s root component g count
unfolding begun shapes_of
begun_again h face s root component g m bytes made usage count keeps a b k =
    rw (a, b, k.read) (counted_simple_is_begun h s root component g (own_bearings m (Simple k.shape)) k.shape made usage count
    keeps k.ran)

-- what a place takes is true; out of memory it keeps nothing
pub taken_true : {E : Type 0} (h : Hinting) (glyph : KeptGlyphView) (r : Result (Unit {0}) E) (place : Option KeptGlyphView)
    → OnOk r (place ≡ Some glyph) → OnErr r (place ≡ None) → IsTrueOf h (Some glyph) → IsTrueOf h place
taken_true h glyph (Ok u) place done none t = rw done t
taken_true h glyph (Err e) place done none t = rw none tt

-- If a plan is due, there are glyphs of all its sketches, and so a strike exists: `strike_exists`.
-- Serves the law that a strike exists, `see_one` and `write_one`.
use Rattle.std.proofs.Common.{◌≡◌, ℕ, ◌≤◌, ℤ, negsuc, Bool, not, List, [], ◌∷◌, ◌++◌, Ok, arith}
use Rattle.std.specs.Prelude.{filter}
use Rattle.std.specs.List.{flat_map}
use Rattle.fx_fixed.specs.Chain.{map_chain}
use Rattle.fx_cmap.specs.Lookup.{glyph_for}
use Rattle.fx_raster.specs.Rules.{ShapeView}
use Rattle.fx_raster.specs.Laws.{IsOfOutline, IsPicture}
use Rattle.fx_raster.proofs.Existing.{picture_exists}
use Rattle.fx_strike.specs.Strike.{Sketch, Setting, IsGlyphOf, AreGlyphsOf, rule_in, sketch_from, glyph_sketch_of, is_missing}
use Rattle.fx_strike.specs.Strike.{Fate, sketches_in, machineless, glyph_fate_of, fate_of, Glyph, rising, max_code, OnRefused}
use Rattle.fx_strike.specs.declared.fate.Fate.TheVariants.{Drawn, Unhinted, LeftOut}
use Rattle.fx_strike.specs.inner.Drawing.{CanBeDrawn}
use Rattle.fx_strike.specs.Laws.{StrikeExists}
use Rattle.fx_strike.proofs.Sketching.{glyph_whole}
use Rattle.fx_strike.proofs.OnePart.{chain_parts, has_sketch, parts_of, sketch_code, sketch_made}
use Rattle.fx_strike.proofs.Trimming.{AreSmall, trimmed}

-- the bits of a picture lie near
are_small : (shape : ShapeView) (bit : ℤ → ℤ → Bool) → IsPicture shape bit → AreSmall bit (negsuc 32767) 65536
are_small shape bit p = grind (arith, p)

-- a sketch has a glyph
glyph_of_shape : (s : Sketch) → IsOfOutline s.shape → (g : Glyph) × IsGlyphOf s g
glyph_of_shape s outlined =
    let p = picture_exists s.shape outlined in
    let t = trimmed p.0 (negsuc 32767) 65536 s.code s.swidth s.dwidth (are_small s.shape p.0 p.1) in
    (t.0, glyph_whole s p.0 t.0 p.1.bits t.1)

-- the glyphs of sketches, and of more
pub glyphs_append : (ss ts : List Sketch) (gs hs : List Glyph) → AreGlyphsOf ss gs → AreGlyphsOf ts hs
    → AreGlyphsOf (ss ++ ts) (gs ++ hs)
glyphs_append [] ts [] hs h k = k
glyphs_append (s ∷ ss) ts (g ∷ gs) hs h k = (h.0, glyphs_append ss ts gs hs h.1 k)
glyphs_append [] ts (g ∷ gs) hs h k = absurd h
glyphs_append (s ∷ ss) ts [] hs h k = absurd h

glyph_of_sketch : (setting : Setting) (code glyph : ℕ) (s : Sketch)
    → glyph_sketch_of setting code glyph ≡ Ok s
    → (g : Glyph) × IsGlyphOf s g
glyph_of_sketch setting code glyph s h =
    let x = sketch_made setting code glyph s h in
    rw x.is (glyph_of_shape (sketch_from setting code x.drawing x.shape x.metrics)
    (rule_in setting x.drawing.wish, x.drawing.ends, x.drawing.points, x.shaped))

pub drawable : (setting : Setting) (code glyph : ℕ) (s : Sketch) → glyph_sketch_of setting code glyph ≡ Ok s → code ≤ max_code
    → CanBeDrawn s
drawable setting code glyph s h low = grind (arith, h, low, glyph_of_sketch, sketch_code)

-- a sketch that is due with hinting or without has a glyph
glyphs_of_fate : (setting : Setting) (refused : OnRefused) (code glyph : ℕ) (f : Fate)
    → glyph_fate_of setting refused code glyph ≡ Ok f → (gs : List Glyph) × AreGlyphsOf (sketches_in f) gs
glyphs_of_fate setting refused code glyph (Drawn s) h =
    let g = glyph_of_sketch setting code glyph s (has_sketch setting refused code glyph (Drawn s) h) in (g.0 ∷ [], (g.1, tt))
glyphs_of_fate setting refused code glyph (Unhinted notice s) h =
    let g = glyph_of_sketch (machineless setting) code glyph s (has_sketch setting refused code glyph (Unhinted notice s) h) in
    (g.0 ∷ [], (g.1, tt))
glyphs_of_fate setting refused code glyph (LeftOut notice) h = ([], tt)

glyphs_of_fates : (setting : Setting) (refused : OnRefused) (codes : List ℕ) (fs : List Fate)
    → map_chain (fate_of setting refused) codes ≡ Ok fs → (gs : List Glyph) × AreGlyphsOf (flat_map sketches_in fs) gs
glyphs_of_fates setting refused [] fs h = let none : fs ≡ [] = cc in rw none ([], tt)
glyphs_of_fates setting refused (c ∷ cs) fs h =
    let p = chain_parts (fate_of setting refused) c cs fs h in
    let g = glyphs_of_fate setting refused c (glyph_for setting.map c) p.0 p.2 in
    let gs = glyphs_of_fates setting refused cs p.1 p.3 in
    rw p.4 (g.0 ++ gs.0, glyphs_append (sketches_in p.0) (flat_map sketches_in p.1) g.0 gs.0 g.1 gs.1)

pub strike_exists : StrikeExists
strike_exists file ppem title chars mode refused plan h =
    let p = parts_of file ppem title chars mode refused plan h in
    let codes = filter (λ c. not (is_missing p.setting c)) (rising chars) in
    rw p.sketches (glyphs_of_fates (record p.setting { over = p.over }) refused codes p.fates p.planned)

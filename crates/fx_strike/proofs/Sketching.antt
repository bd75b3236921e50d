-- What the steps on the way to a glyph return is what is due of it: `fails_on`, `drawn_whole`.
-- Serves `sketch_by`, `draw` and `whole_pixels`, the first pass and the laws.
use Rattle.std.proofs.Common.{◌≡◌, ◌≤◌, ◌^◌, sym, ap, ◌∙◌, subst, arith, ℕ, ℤ, pos, negsuc, Bool, Result, Ok, Err}
use Rattle.std.proofs.Common.{FitsSigned, w32, w64, to_z, of_z}
use Rattle.std.specs.Prelude.{IfOk, IfErr, unsigned_abs}
use Rattle.std.proofs.lemmas.Int.{ints}
use Rattle.fx_fixed.specs.Numbers.{near_of}
use Rattle.fx_sfnt.specs.declared.fault.FontFault.{FontFault}
use Rattle.fx_sfnt.specs.declared.fault.FontFault.TheVariants.{NotTrueType}
use Rattle.fx_raster.specs.Laws.{AreBitsOf}
use Rattle.fx_raster.specs.Faults.{RasterFault}
use Rattle.fx_raster.specs.Faults as raster
use Rattle.fx_bdf.specs.Glyphs.{Box, Glyph, IsTight, IsTrimmed}
use Rattle.fx_request.specs.declared.refusal.Refusal.TheVariants.{OutOfMemory, WriteFailed, ReadFailed, BadHex, InputTooLarge}
use Rattle.fx_request.specs.Faults.{of_font}
use Rattle.fx_strike.specs.Faults.{Fails, of_raster}
use Rattle.fx_strike.specs.Strike.{Sketch, IsGlyphOf, Refusal}
use Rattle.fx_strike.specs.inner.Drawing.{Draws}

-- ---- whole pixels are few

pub near_64_small : (z : ℤ) → FitsSigned w32 z → unsigned_abs (near_of z (pos 64)) ≤ 2 ^ 25
unfolding near_of
near_64_small (pos n) h = omega (arith, ints)
near_64_small (negsuc n) h = omega (arith, ints)

-- ---- the glyph

pub tight_along : (box : Box) (a b : ℤ → ℤ → Bool) → ((col row : ℤ) → a col row ≡ b col row) → IsTight box a → IsTight box b
tight_along box a b e h = grind (arith, e, h)

-- out of memory is a refusal whatever was due
pub memory_fails : {Y : Type 0} (d : Refusal) (due : Result Y Refusal) → d ≡ OutOfMemory → Fails d due
memory_fails d due m = let P : Refusal → Type 0 = λ e. Fails e due in subst P (sym m) tt

-- the glyph of a sketch with its bits, if memory is not out
pub drawn_whole : (due : Result Sketch Refusal) (sketch : Sketch) (r : Result Glyph Refusal) → due ≡ Ok sketch
    → IfOk r (IsGlyphOf sketch) → IfErr r (λ e. e ≡ OutOfMemory) → Draws due r
drawn_whole due sketch (Ok g) h of m = (sketch, h, of)
drawn_whole due sketch (Err e) h of m = memory_fails e due m

-- the glyph of a sketch, by its bits
pub glyph_whole : (sketch : Sketch) (bit : ℤ → ℤ → Bool) (g : Glyph) → AreBitsOf sketch.shape bit
    → IsTrimmed sketch.code sketch.swidth sketch.dwidth bit g → IsGlyphOf sketch g
glyph_whole sketch bit g b t = grind (arith, b, t, tight_along)

-- ---- a step was refused

-- a refusal is passed on if it is one of the whole chain
pub fails_on : {Y Z : Type 0} (d : Refusal) (a : Result Y Refusal) (b : Result Z Refusal) → ((e : Refusal) → a ≡ Err e → b ≡ Err e)
    → Fails d a → Fails d b
fails_on OutOfMemory a b h f = tt
fails_on (WriteFailed n) a b h f = f
fails_on ReadFailed a b h f = f
fails_on BadHex a b h f = f
fails_on InputTooLarge a b h f = f
fails_on d a b h f = h d f

-- a shape's fault is one that is due
pub raster_fails : {Y : Type 0} (glyph : ℕ) (f : RasterFault) (due : Result Y Refusal) → due ≡ Err (of_raster glyph f)
    → Fails (of_raster glyph f) due
raster_fails glyph raster.OutOfMemory due h = tt
raster_fails glyph raster.TooFar due h = h
raster_fails glyph raster.TooLarge due h = h

pub font_fails : {Y : Type 0} (f : FontFault) (due : Result Y Refusal) → due ≡ Err (of_font f) → Fails (of_font f) due
font_fails NotTrueType due h = h
font_fails _ due h = h

-- ---- lemmas for answers

-- an advance in whole pixels, as the code casts it
pub whole_is : (a f r : ℤ) → FitsSigned w32 a → f ≡ to_z w32 (of_z w32 a) → r ≡ near_of (to_z w64 (of_z w64 f)) (pos 64)
    → FitsSigned w32 (to_z w64 (of_z w64 r)) × (to_z w32 (of_z w32 (to_z w64 (of_z w64 r))) ≡ near_of a (pos 64))
whole_is a f r h e q =
    let wide : to_z w64 (of_z w64 f) ≡ a = omega (arith, ints) in
    by (near_of a (pos 64)) (near_64_small a h) (q ∙ ap (λ (z : ℤ). near_of z (pos 64)) wide)
  where
    by : (z : ℤ) → unsigned_abs z ≤ 2 ^ 25 → r ≡ z
        → FitsSigned w32 (to_z w64 (of_z w64 r)) × (to_z w32 (of_z w32 (to_z w64 (of_z w64 r))) ≡ z)
    by z small near = (omega (arith, ints), omega (arith, ints))

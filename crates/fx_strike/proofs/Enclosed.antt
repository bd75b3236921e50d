-- A glyph whose shape lies in a box leaves that box as it is: `skipped`.
-- Serves `see_drawn`.
use Rattle.std.proofs.Common.{◌≡◌, refl, sym, subst, ℕ, ◌<◌, ℤ, pos, ◌+ℤ◌, ◌≤ℤ◌, ◌<ℤ◌, Bool, true}
use Rattle.std.proofs.Common.{false, ◌||◌, arith}
use Rattle.std.specs.Prelude.{IsTrue, ◌==◌, if◌then◌else◌}
use Rattle.std.specs.Int.{int_min, int_max}
use Rattle.std.proofs.lemmas.Bool.{eqb-true}
use Rattle.std.proofs.lemmas.Int.{int_min_is, int_max_is}
use Rattle.fx_fixed.proofs.Linear.{signed_linear}
use Rattle.fx_winding.specs.Frames.{steps}
use Rattle.fx_raster.specs.Rules.{IsInRegion, IsPixelSet}
use Rattle.fx_bdf.specs.Glyphs.{Box, HasSides, IsTight, IsPlaced, is_in_box, is_empty, around, joined, last_of}
use Rattle.fx_bdf.specs.Glyphs.{glyph_bit}
use Rattle.fx_bdf.proofs.Boxes.{steps_above, parts_of_place, lies_in_box}
use Rattle.fx_strike.specs.Strike.{Sketch}
use Rattle.fx_bdf.specs.Text.{glyph_text}
use Rattle.fx_strike.specs.inner.Drawing.{CanBeDrawn}
use Rattle.fx_strike.specs.inner.Keeping.{Keeps, KeptBytes}
use Rattle.fx_strike.specs.inner.Surveying.{AddsSketch, Joins, Has, region_of, Seen}

-- ---- a box that holds the bits of another

-- the sides of a box against those of one that lies in it
record Encloses (big small : Box) : Type 0 where
  left : big.left ≤ℤ small.left
  right : last_of small.left small.width <ℤ (big.left +ℤ pos big.width)
  bottom : big.bottom ≤ℤ small.bottom
  top : last_of small.bottom small.height <ℤ (big.bottom +ℤ pos big.height)
  wide : 0 < big.width
  high : 0 < big.height

encloses : (big small : Box) (bit : ℤ → ℤ → Bool) → HasSides small bit
    → ((col row : ℤ) → IsTrue (bit col row) → IsTrue (is_in_box big col row)) → Encloses big small
encloses big small bit s h = grind (arith, signed_linear, s, h, parts_of_place)

-- a run of numbers within another, together with it
start_kept : (a b : ℤ) → a ≤ℤ b → int_min a b ≡ a
start_kept a b h = let m = int_min_is a b in omega (arith, signed_linear, h, m)

count_kept : (a b : ℤ) (m n : ℕ) → a ≤ℤ b → last_of b n <ℤ (a +ℤ pos m)
    → steps (int_min a b) (int_max (a +ℤ pos m) (b +ℤ pos n)) ≡ m
count_kept a b m n h k = grind (arith, signed_linear, h, k, start_kept, int_max_is, steps_above)

around_kept : (big small : Box) → Encloses big small → around big small ≡ big
unfolding around
around_kept big small e = λ i. record {
  width = count_kept big.left small.left big.width small.width e.left e.right i;
  height = count_kept big.bottom small.bottom big.height small.height e.bottom e.top i;
  left = start_kept big.left small.left e.left i;
  bottom = start_kept big.bottom small.bottom e.bottom i;
}

not_empty : (w h : ℕ) → 0 < w → 0 < h → (w == 0 || h == 0) ≡ true → ⊥
not_empty w h p q e = grind (arith, eqb-true)

joined_kept_by : (big small : Box) (t u : Bool) → is_empty small ≡ t → is_empty big ≡ u → Encloses big small
    → (if t then big else (if u then small else around big small)) ≡ big
joined_kept_by big small true u e f h = refl
joined_kept_by big small false true e f h = absurd (not_empty big.width big.height h.wide h.high f)
joined_kept_by big small false false e f h = around_kept big small h

-- a tight box all whose bits lie in another leaves that one as it is
joined_kept : (big box : Box) (bit : ℤ → ℤ → Bool) → IsTight box bit
    → ((col row : ℤ) → IsTrue (bit col row) → IsTrue (is_in_box big col row)) → joined big box ≡ big
joined_kept big box bit t h = grind (arith, signed_linear, t, h, joined_kept_by, encloses)

-- ---- a shape in a box

-- a glyph whose shape lies in a box leaves the box as it is
pub skipped : (sketch : Sketch) (box : Box)
    → ((col row : ℤ) → IsPixelSet sketch.shape.rule sketch.shape.spans col row → IsInRegion (region_of box) col row)
    → IsPlaced box → CanBeDrawn sketch → Joins sketch box box
skipped sketch box inside placed h =
    let bits : (col row : ℤ) → IsTrue (glyph_bit h.glyph col row) → IsTrue (is_in_box box col row) =
    λ col row t. let r = inside col row ((h.is.bits col row).0 t) in lies_in_box box col row r.0 r.1 in
    (h.glyph, h.is, sym (joined_kept box h.glyph.box (glyph_bit h.glyph) h.is.tight bits), placed)

-- a character was added
pub has_added : {sketch : Sketch} {old new : Seen} {box : Box} {before after : KeptBytes} (joins : Joins sketch old.bounds box)
    → AddsSketch sketch box old new → Keeps (glyph_text joins.0) before after → Has sketch old new before after
has_added {sketch} {old} {new} {box} j a k =
    let P : Box → Type 0 = λ b. AddsSketch sketch b old new in
    let Q : Box → Type 0 = λ b. IsPlaced b in
    record { glyph = j.0; drawn = j.1; placed = subst Q (sym a.bounds_are) j.3; adds = subst P j.2 a; lines = k }

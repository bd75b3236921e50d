-- Rows of a band that are added, and then the next one, are the rows up to that one: `band_next`.
-- Serves the loops over a piece's rows.
use Rattle.std.proofs.Common.{◌≡◌, ◌∙◌, ap, subst, ◌+◌, ◌*◌, ◌^◌, ◌<◌, ◌≤◌, ℕ, ℤ, pos, ◌+ℤ◌, ◌-ℤ◌, ◌*ℤ◌, sym, arith}
use Rattle.std.proofs.Common.{w32, to_z, of_z}
use Rattle.fx_fixed.proofs.Linear.{signed_linear}
use Rattle.fx_winding.specs.Limits.{IsPixelNumber}
use Rattle.fx_winding.specs.Area.{Place}
use Rattle.fx_winding.specs.Winding.{Span, centre}
use Rattle.fx_winding.specs.declared.frame.Frame.{Frame}
use Rattle.fx_rows.specs.declared.band.Band.{Band}
use Rattle.fx_rows.specs.declared.bounded.Bounded.{Bounded}
use Rattle.fx_rows.specs.declared.strip.Strip.{Strip}
use Rattle.fx_rows.specs.declared.cells.Cut.{Cut}
use Rattle.fx_rows.specs.inner.Points.{IsInner}
use Rattle.fx_rows.specs.inner.Strips.{base_place, end_of, edge_place, edge_of}
use Rattle.fx_rows.specs.inner.Sides.{end_at, IsWhole}
use Rattle.fx_rows.specs.inner.Inside.{IsOnInside}
use Rattle.fx_rows.specs.inner.Cuts.{IsCut}
use Rattle.fx_rows.specs.inner.Sums.{AreWithin}
use Rattle.fx_rows.specs.inner.Bands.{stride, AreInner, IsRowAdded, IsBandAdded}
use Rattle.fx_rows.proofs.Banding.{band_more}
use Rattle.fx_rows.proofs.Counted.{on_inside}
use Rattle.fx_rows.proofs.Parts.{formed_frame}

-- the number of a row of pixels, as a strip holds it
pub strip_row : (strip : Strip) (n row : ℤ) → IsPixelNumber n → strip.row ≡ to_z w32 (of_z w32 n) → n ≡ row → strip.row ≡ row
strip_row strip n row near h e =
    let same : to_z w32 (of_z w32 n) ≡ n = omega (arith, signed_linear, near) in h ∙ same ∙ e

-- a row before the last is one of the frame
pub row_in : (f g : Frame) (up end : ℕ) → g ≡ f → end ≤ f.height → up < end → up < g.height
row_in f g up end e r l = let h = ap (λ (x : Frame). x.height) e in omega (arith, h, r, l)

-- the value of a rise, as a call is handed it
pub rise_value : (b : Bounded) (z : ℤ) → b.rise.value ≡ z → to_z w32 (of_z w32 b.rise.value) ≡ z
rise_value b z e =
    let v : to_z w32 (of_z w32 b.rise.value) ≡ b.rise.value = omega (arith, signed_linear, b.rise.small) in v ∙ e

pub inner_row : (b : Bounded) (f g : Frame) (from to up : ℕ) (row : ℤ) → g ≡ f → row ≡ g.bottom +ℤ pos up → AreInner b f from to
    → from ≤ up → up < to → IsInner b.piece.a.y b.piece.c.y (pos 128 *ℤ row +ℤ pos 64)
inner_row b f g from to up row e h inner l m = grind (arith, signed_linear, e, h, inner, l, m)

-- what the rows before have is small enough for one more
pub band_small : (s : Span) (f : Frame) (from up : ℕ) (old now : Band) → IsBandAdded s f from up old now
    → AreWithin (2 ^ 25 + 4 * from) old.diff.items → up ≤ 128 → AreWithin (2 ^ 26) now.diff.items
band_small s f from up old now h small l = λ k. let e = h.grown (2 ^ 25) small k in omega (arith, signed_linear, e, l)

pub cut_inside : (s : Span) (strip : Strip) (frame : Frame) (cut : Cut) → IsWhole frame strip → IsCut s strip cut
    → IsOnInside frame cut.on
cut_inside s strip frame cut whole h = on_inside s frame cut.on (formed_frame s strip frame cut.on whole h.on)

-- rows of one frame, and then one more of the same frame
pub band_next : (s : Span) (f g : Frame) (row : ℤ) (from up : ℕ) (old now new : Band) → from ≤ up → g ≡ f
    → row ≡ g.bottom +ℤ pos up → IsBandAdded s f from up old now → IsRowAdded s g row (up * stride g.width) now new
    → IsBandAdded s f from (up + 1) old new
band_next s f g row from up old now new l e at h r = grind (arith, signed_linear, l, e, at, h, r, band_more)

-- all rows
pub band_end : (s : Span) (f : Frame) (from up end : ℕ) (old new : Band) → up ≡ end → IsBandAdded s f from up old new
    → IsBandAdded s f from end old new
band_end s f from up end old new e h = subst (λ (n : ℕ). IsBandAdded s f from n old new) e h

pub whole : (f : Frame) (strip : Strip) → strip.base ≡ f.left → strip.stop ≡ f.width → IsWhole f strip
whole f strip base stop = record { base = base; stop = stop }

-- the column after a frame's last
pub whole_end : (f : Frame) (strip : Strip) → IsWhole f strip → end_at strip ≡ end_of f
whole_end f strip h = λ i. h.base i +ℤ pos (h.stop i)

-- what holds at the base and the end of a row holds at those of its strip
pub at_base : (P : Place → ℤ → Type 0) (f g : Frame) (strip : Strip) (up : ℕ) → g ≡ f → strip.row ≡ g.bottom +ℤ pos up
    → IsWhole g strip → P (base_place f up) (end_of f)
    → P (centre (strip.base +ℤ pos 0) strip.row) (end_at strip)
at_base P f g strip up e at whole h =
    let end = whole_end g strip whole in grind (arith, signed_linear, e, at, whole, end, h)

-- what holds at the base above a strip, and at its end, holds at those of the next row
pub at_base_above : (P : Place → ℤ → Type 0) (f g : Frame) (strip : Strip) (up : ℕ) → g ≡ f → strip.row ≡ g.bottom +ℤ pos up
    → IsWhole g strip → P (centre (strip.base +ℤ pos 0) (strip.row +ℤ pos 1)) (end_at strip)
    → P (base_place f (up + 1)) (end_of f)
at_base_above P f g strip up e at whole h =
    let row = at ∙ ap (λ (x : Frame). x.bottom +ℤ pos up) e in
    let column = whole.base ∙ ap (λ (x : Frame). x.left) e in
    let next : strip.row +ℤ pos 1 ≡ f.bottom +ℤ pos (up + 1) = omega (arith, signed_linear, row) in
    let last = whole_end g strip whole ∙ ap end_of e in
    subst (λ z. z) (λ i. P (centre (column i +ℤ pos 0) (next i)) (last i)) h

-- the same of a strip with one column more on each side
pub at_edge : (P : Place → ℤ → Type 0) (f : Frame) (strip : Strip) (up : ℕ) → strip.row ≡ f.bottom +ℤ pos up
    → strip.base ≡ f.left -ℤ pos 1 → strip.stop ≡ f.width + 2 → P (edge_place f up) (edge_of f)
    → P (centre (strip.base +ℤ pos 0) strip.row) (end_at strip)
at_edge P f strip up row base stop h =
    subst (λ z. z) (λ i. P (centre (sym base i +ℤ pos 0) (sym row i)) (sym base i +ℤ pos (sym stop i))) h

pub at_edge_above : (P : Place → ℤ → Type 0) (f : Frame) (strip : Strip) (up : ℕ) → strip.row ≡ f.bottom +ℤ pos up
    → strip.base ≡ f.left -ℤ pos 1 → strip.stop ≡ f.width + 2
    → P (centre (strip.base +ℤ pos 0) (strip.row +ℤ pos 1)) (end_at strip) → P (edge_place f (up + 1)) (edge_of f)
at_edge_above P f strip up row base stop h =
    let next : strip.row +ℤ pos 1 ≡ f.bottom +ℤ pos (up + 1) = omega (arith, signed_linear, row) in
    subst (λ z. z) (λ i. P (centre (base i +ℤ pos 0) (next i)) (base i +ℤ pos (stop i))) h

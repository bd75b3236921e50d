use Rattle.std.proofs.Common.{◌≡◌, ◌∙◌, refl, ap, sym, subst, arith, w32, to_z, of_z, ◌+◌, ◌*◌, ◌<◌, ◌≤◌, ℕ, ℤ, pos, ◌+ℤ◌, ◌-ℤ◌, ◌*ℤ◌}
use Rattle.std.proofs.Common.{List, length}
use Rattle.std.proofs.lemmas.List.{with_items_is}
use Rattle.fx_fixed.proofs.Linear.{signed_linear}
use Rattle.fx_winding.specs.Bitmaps.{words_for}
use Rattle.fx_winding.specs.Limits.{IsPixelNumber}
use Rattle.fx_winding.specs.Notes.{IsNotedAcross}
use Rattle.fx_winding.specs.declared.frame.Frame.{Frame}
use Rattle.fx_rows.specs.Parts.{IsRowPart}
use Rattle.fx_rows.specs.inner.Bands.{bounded_span}
use Rattle.fx_rows.specs.inner.Lines.{GainOnly, IsAcrossBit, IsLineBit, IsSetTo}
use Rattle.fx_rows.specs.inner.Points.{IsInner}
use Rattle.fx_rows.specs.inner.Telling.{IsPartOf}
use Rattle.fx_rows.proofs.Bulges.{across_set, set_in}
use Rattle.fx_rows.proofs.Kept.{gain_more, gain_none}
use Rattle.fx_rows.proofs.NotedSegments.{row_room, says_more}
use Rattle.fx_rows.proofs.Parts.{part_in}
use Rattle.fx_rows.proofs.noter.NoterNoting.note_row.Goals as goal

-- a row of a band is one of the frame
record IsRowAt (f : Frame) (row : ℤ) (n : ℕ) : Type 0 where
  is : to_z w32 (of_z w32 row) ≡ f.bottom +ℤ pos n
  above : to_z w32 (of_z w32 (to_z w32 (of_z w32 row) -ℤ to_z w32 (of_z w32 f.bottom))) ≡ pos n
  within : n < f.height

row_at : (f h g : Frame) (from to up : ℕ) (row : ℤ) → f ≡ h → IsPartOf h from to g → up < g.height
    → record { value : row ≡ g.bottom +ℤ pos up; near : IsPixelNumber row } → IsRowAt f row (from + up)
row_at f h g from to up row e part l of =
    let at = of.value in
    let near = of.near in
    let bottom = part.bottom in
    let low = ap (λ (x : Frame). x.bottom) e in
    let high = ap (λ (x : Frame). x.height) e in
    record {
      is = omega (arith, signed_linear, bottom, low, near, at);
      above = omega (arith, signed_linear, bottom, low, near, at);
      within = omega (arith, high, part.height, part.within, l);
    }

pub overflow_sub-row : goal.overflow_sub-row
overflow_sub-row c =
    let near = c.row_of-row.ensures.near in
    let low = c.args.self.now.notes.frame.rows in
    omega (arith, signed_linear, near, low)

pub overflow_cast-row : goal.overflow_cast-row
overflow_cast-row c =
    let of = c.requires.of in
    let is = row_at _ _ _ of.from of.to c.args.up _ of.of of.part c.requires.up c.row_of-row.ensures in
    rw is.above (tt, omega (arith, is.within))

pub first_of-requires : goal.first_of-requires
first_of-requires c =
    let of = c.requires.of in
    let is = row_at _ _ _ of.from of.to c.args.up _ of.of of.part c.requires.up c.row_of-row.ensures in
    rw is.above (omega (arith, is.within))

pub note_part-requires : goal.note_part-requires
note_part-requires c =
    let self = c.args.self.now in
    let f = self.notes.frame in
    let s = bounded_span c.args.bounded.now in
    let of = c.requires.of in
    let is = row_at _ _ _ of.from of.to c.args.up _ of.of of.part c.requires.up c.row_of-row.ensures in
    let near = c.row_of-row.ensures.near in
    let row : to_z w32 (of_z w32 c.row_of-row.result) ≡ c.args.band.bottom +ℤ pos c.args.up =
    (omega (arith, signed_linear, near)) ∙ c.row_of-row.ensures.value in
    let first = rw is.above at c.first_of.ensures.value in
    let room = row_room (of.from + c.args.up) f.height f.width (32 * words_for f.width) (length c.deref_mut.result.now) is.within
    refl (ap length c.deref_mut.ensures.value ∙ self.notes.across_room) in
    record {
      part = part_in s _ c.args.band f c.args.part.now (of.part.left ∙ sym (ap (λ (x : Frame). x.left) of.of))
          (of.part.width ∙ sym (ap (λ (x : Frame). x.width) of.of))
          (subst (λ (z : ℤ). IsRowPart s z c.args.band c.args.part.now) (sym row) c.requires.part);
      outside = subst (λ (z : ℤ). ¬ (IsInner s.a.y s.c.y (pos 128 *ℤ z +ℤ pos 64))) (sym row) c.requires.outside;
      room = omega (arith, first, room);
    }

pub returns : goal.returns
returns c =
    let self = c.args.self.now in
    let f = self.notes.frame in
    let s = bounded_span c.args.bounded.now in
    let of = c.requires.of in
    let n = of.from + c.args.up in
    let now = c.note_part.new.bits in
    let is = row_at _ _ _ of.from of.to c.args.up _ of.of of.part c.requires.up c.row_of-row.ensures in
    let near = c.row_of-row.ensures.near in
    let row : to_z w32 (of_z w32 c.row_of-row.result) ≡ c.args.band.bottom +ℤ pos c.args.up =
    (omega (arith, signed_linear, near)) ∙ c.row_of-row.ensures.value in
    let first : c.first_of.result ≡ n * (32 * words_for f.width) = rw is.above at c.first_of.ensures.value in
    let gained = gain_more (IsLineBit s f (f.bottom +ℤ pos n) (n * (32 * words_for f.width)) 1) (IsAcrossBit s f) _ _
    (λ m h. record { r = n; row = is.within; line = h }) (subst (λ z. z)
    (λ i. GainOnly (IsLineBit s f (is.is i) (first i) 1) c.deref_mut.result.now now) c.note_part.ensures.notes.gained) in
    let set = across_set s f n now (set_in s f n _ 1 now (subst (λ z. z)
    (λ i. (k : ℕ) → k ≤ f.width → IsSetTo s f (is.is i) (first i) 1 now k) (λ k l. c.note_part.ensures.notes.noted k l tt))) in
    record {
      kept = λ x lasts old. grind (arith, says_more, gain_none, lasts, old, gained, c.deref_mut.ensures.value, with_items_is);
      told = λ r n t. t;
      noted = λ r l e.
          let at = is.is in
          let same : n ≡ r = omega (arith, signed_linear, e, row, at) in
          subst (λ (xs : List ℕ). IsNotedAcross s f xs r) (sym (with_items_is self.notes.across now (omega arith)))
          (subst (IsNotedAcross s f now) same set);
      count = omega (arith, c.note_part.ensures.count);
    }

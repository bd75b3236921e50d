-- Bits of the plane that all lie in a square, less than the greatest side apart, have a glyph: `trimmed`.
-- Serves the law that a strike exists, with Existing.
use Rattle.std.proofs.Common.{◌≡◌, refl, sym, ap, ap₂, ◌∙◌, subst, inl, inr, ◌⊎◌, ℕ, zero, suc, ◌+◌, ◌-◌, ◌<◌, ◌≤◌, ℤ, pos, negsuc}
use Rattle.std.proofs.Common.{◌+ℤ◌, ◌≤ℤ◌, ◌<ℤ◌, Bool, true, false, ◌||◌, Decides, true≢false, arith}
use Rattle.std.proofs.lemmas.Bool.Decides.{Decides-below_or}
use Rattle.fx_fixed.proofs.Linear.{signed_linear}
use Rattle.fx_winding.specs.Limits.{greatest_side}
use Rattle.fx_winding.specs.Frames.{steps}
use Rattle.fx_bdf.specs.Glyphs.{Box, Glyph, HasSides, IsBoxed, IsTrimmed, is_in_box, no_box, last_of, rows_in}
use Rattle.fx_bdf.proofs.Cases.{split, not_set}
use Rattle.fx_bdf.proofs.Boxes.{steps_above, lies_in_box}
use Rattle.fx_bdf.proofs.Trimmed.{formed_of, shows_bits}
use Rattle.fx_bdf.proofs.Trims.{none_boxed}

not_both : (b : Bool) → b ≡ false → b ≡ true → ⊥
not_both b h k = true≢false (sym k ∙ h)

-- ---- the first and the last number that passes a test

record Reach (p : ℕ → Bool) (n : ℕ) : Type 0 where
  first : ℕ
  last : ℕ
  order : first ≤ last
  below : last < n
  at_first : p first ≡ true
  at_last : p last ≡ true
  holds : (k : ℕ) → k < n → p k ≡ true → (first ≤ k) × (k ≤ last)

one_more : (P : ℕ → Type 0) (n k : ℕ) → k < suc n → (k < n → P k) → P n → P k
one_more P n k l low here = split {P = P k} k n low (λ high. let same : n ≡ k = omega arith in subst P same here)

reach_more : (p : ℕ → Bool) (n : ℕ) (b : Bool) → p n ≡ b → ((k : ℕ) → k < n → p k ≡ false) ⊎ Reach p n
    → ((k : ℕ) → k < suc n → p k ≡ false) ⊎ Reach p (suc n)
reach_more p n false e (inl none) = inl (λ k l. one_more (λ i. p i ≡ false) n k l (none k) e)
reach_more p n true e (inl none) = grind (arith, signed_linear, e, split, not_both)
reach_more p n false e (inr r) = grind (arith, signed_linear, e, one_more, not_both)
reach_more p n true e (inr r) = grind (arith, signed_linear, e, split)

reach : (p : ℕ → Bool) (n : ℕ) → ((k : ℕ) → k < n → p k ≡ false) ⊎ Reach p n
reach p zero = inl (λ k l. absurd (omega arith))
reach p (suc n) = reach_more p n (p n) refl (reach p n)

-- some number below n passes
unfoldable some : (ℕ → Bool) → ℕ → Bool
some p zero = false
some p (suc n) = p n || some p n

some_decides : (p : ℕ → Bool) (n : ℕ) → Decides (some p n) ((k : ℕ) × (k < n) × (p k ≡ true))
unfolding some
some_decides p n = Decides-below_or p (λ k. p k ≡ true) (some p) (λ k. (λ e. e, λ e. e)) refl (λ n. refl) n

-- ---- the glyph of bits

record Offset (base : ℤ) (n : ℕ) (z : ℤ) : Type 0 where
  at : ℕ
  below : at < n
  is : z ≡ base +ℤ pos at

offset : (base z : ℤ) (n : ℕ) → base ≤ℤ z → z <ℤ (base +ℤ pos n) → Offset base n z
offset base z n h k =
    let e = steps_above base z h in record { at = steps base z; below = omega (arith, signed_linear, e, k); is = e }

-- what is asked of the bits
pub record AreSmall (bit : ℤ → ℤ → Bool) (base : ℤ) (n : ℕ) : Type 0 where
  pub from : negsuc 32767 ≤ℤ base
  pub to : (base +ℤ pos n) ≤ℤ pos 32768
  pub columns : (col row : ℤ) → bit col row ≡ true → (base ≤ℤ col) × (col <ℤ (base +ℤ pos n))
  pub rows : (col row : ℤ) → bit col row ≡ true → (base ≤ℤ row) × (row <ℤ (base +ℤ pos n))
  pub narrow : (col row col2 row2 : ℤ) → bit col row ≡ true → bit col2 row2 ≡ true → col2 <ℤ (col +ℤ pos greatest_side)
  pub low : (col row col2 row2 : ℤ) → bit col row ≡ true → bit col2 row2 ≡ true → row2 <ℤ (row +ℤ pos greatest_side)

-- in their tight box
trimmed_in : (code : ℕ) (swidth dwidth : ℤ) (bit : ℤ → ℤ → Bool) (box : Box) → IsBoxed box bit
    → (g : Glyph) × IsTrimmed code swidth dwidth bit g
trimmed_in code swidth dwidth bit box h =
    let g : Glyph = record { code = code; swidth = swidth; dwidth = dwidth; box = box; rows = rows_in box bit } in (
      g,
      record {
        code_is = refl;
        swidth_is = refl;
        dwidth_is = refl;
        bits = shows_bits bit g refl h.tight;
        tight = h.tight;
        formed = formed_of bit g refl h.high h.wide h.placed;
      },
    )

module _ (bit : ℤ → ℤ → Bool) (base : ℤ) (n : ℕ) where
  -- the bit at these steps from the base
  abbrev at_steps : ℕ → ℕ → Bool
  at_steps i j = bit (base +ℤ pos i) (base +ℤ pos j)

  abbrev has_column : ℕ → Bool
  has_column i = some (λ j. at_steps i j) n

  abbrev has_row : ℕ → Bool
  has_row j = some (λ i. at_steps i j) n

  column_of : (i : ℕ) → has_column i ≡ true → (j : ℕ) × (j < n) × (at_steps i j ≡ true)
  column_of i h = (some_decides (λ j. at_steps i j) n).0 h

  row_of : (j : ℕ) → has_row j ≡ true → (i : ℕ) × (i < n) × (at_steps i j ≡ true)
  row_of j h = (some_decides (λ i. at_steps i j) n).0 h

  in_column : (i j : ℕ) → j < n → at_steps i j ≡ true → has_column i ≡ true
  in_column i j l h = (some_decides (λ k. at_steps i k) n).1 (j, l, h)

  in_row : (i j : ℕ) → i < n → at_steps i j ≡ true → has_row j ≡ true
  in_row i j l h = (some_decides (λ k. at_steps k j) n).1 (i, l, h)

  abbrev box_of : Reach has_column n → Reach has_row n → Box
  box_of c r = record {
    width = c.last - c.first + 1;
    height = r.last - r.first + 1;
    left = base +ℤ pos c.first;
    bottom = base +ℤ pos r.first;
  }

  last_is : (first last : ℕ) → first ≤ last → last_of (base +ℤ pos first) (last - first + 1) ≡ base +ℤ pos last
  last_is first last h = omega (arith, signed_linear)

  -- a set bit by its steps
  record Steps (col row : ℤ) : Type 0 where
    across : Offset base n col
    up : Offset base n row
    here : at_steps across.at up.at ≡ true

  steps_of : AreSmall bit base n → (col row : ℤ) → bit col row ≡ true → Steps col row
  steps_of s col row h =
      let x = s.columns col row h in
      let y = s.rows col row h in
      let a = offset base col n x.0 x.1 in
      let u = offset base row n y.0 y.1 in
      record { across = a; up = u; here = sym (ap₂ bit a.is u.is) ∙ h }

  holds_of : (c : Reach has_column n) (r : Reach has_row n) → AreSmall bit base n → (col row : ℤ) → bit col row ≡ true
      → is_in_box (box_of c r) col row ≡ true
  holds_of c r s col row h =
      let f = steps_of s col row h in
      let x = c.holds f.across.at f.across.below (in_column f.across.at f.up.at f.up.below f.here) in
      let y = r.holds f.up.at f.up.below (in_row f.across.at f.up.at f.across.below f.here) in
      let e = f.across.is in
      let g = f.up.is in
      lies_in_box (box_of c r) col row (omega (arith, signed_linear), omega (arith, signed_linear, c.order))
      (omega (arith, signed_linear), omega (arith, signed_linear, r.order))

  sides_of : (c : Reach has_column n) (r : Reach has_row n) → HasSides (box_of c r) bit
  sides_of c r =
      let left = column_of c.first c.at_first in
      let right = column_of c.last c.at_last in
      let bottom = row_of r.first r.at_first in
      let top = row_of r.last r.at_last in
      record {
        left = (base +ℤ pos left.0, left.2);
        right = (base +ℤ pos right.0, ap (λ (z : ℤ). bit z (base +ℤ pos right.0)) (last_is c.first c.last c.order) ∙ right.2);
        bottom = (base +ℤ pos bottom.0, bottom.2);
        top = (base +ℤ pos top.0, ap (λ (z : ℤ). bit (base +ℤ pos top.0) z) (last_is r.first r.last r.order) ∙ top.2);
      }

  boxed_of : (c : Reach has_column n) (r : Reach has_row n) → AreSmall bit base n → IsBoxed (box_of c r) bit
  boxed_of c r s =
      let left = column_of c.first c.at_first in
      let right = column_of c.last c.at_last in
      let bottom = row_of r.first r.at_first in
      let top = row_of r.last r.at_last in
      let wide = s.narrow (base +ℤ pos c.first) (base +ℤ pos left.0) (base +ℤ pos c.last) (base +ℤ pos right.0) left.2 right.2 in
      let high = s.low (base +ℤ pos bottom.0) (base +ℤ pos r.first) (base +ℤ pos top.0) (base +ℤ pos r.last) bottom.2 top.2 in
      record {
        tight = record { holds = holds_of c r s; sides = inr (sides_of c r) };
        high = omega (arith, signed_linear, high);
        wide = omega (arith, signed_linear, wide);
        placed = record {
          left = omega (arith, signed_linear, s.from);
          right = omega (arith, signed_linear, s.to, c.order, c.below);
          bottom = omega (arith, signed_linear, s.from);
          top = omega (arith, signed_linear, s.to, r.order, r.below);
        };
      }

  pub trimmed : (code : ℕ) (swidth dwidth : ℤ) → AreSmall bit base n → (g : Glyph) × IsTrimmed code swidth dwidth bit g
  trimmed code swidth dwidth s = elim (reach has_column n) [
    | inl none ↦ trimmed_in code swidth dwidth bit no_box (none_boxed bit (λ col row. not_set (bit col row) (λ h.
        let f = steps_of s col row h in not_both (has_column f.across.at) (none f.across.at f.across.below)
        (in_column f.across.at f.up.at f.up.below f.here))))
    | inr c ↦ elim (reach has_row n) [
      | inl none ↦ let j = column_of c.first c.at_first in
          absurd (not_both (has_row j.0) (none j.0 j.1) (in_row c.first j.0 (omega (arith, c.order, c.below)) j.2))
      | inr r ↦ trimmed_in code swidth dwidth bit (box_of c r) (boxed_of c r s)
    ]
  ]

-- Rows between the ends of a slanted chord: one value before a column, and 0 from it on, but for the columns on the piece.
use Rattle.std.specs.Prelude.{◌≡◌, ◌⊎◌, ◌↔◌, IsTrue, ℕ, ◌+◌, ◌≤◌, ◌<◌, ℤ, pos, ◌+ℤ◌, ◌-ℤ◌, ◌≤ℤ◌, ◌<ℤ◌, Bool, true, false}
use Rattle.fx_fixed.specs.Ranges.{IsWithin}
use Rattle.fx_winding.specs.Area.{Place}
use Rattle.fx_winding.specs.Meets.{turn}
use Rattle.fx_winding.specs.Winding.{Span, IsOn, crossing, region}
use Rattle.fx_rows.specs.declared.strip.Strip.{Strip}
use Rattle.fx_rows.specs.declared.cells.Cut.{Cut}
use Rattle.fx_rows.specs.inner.Arcs.{gap}
use Rattle.fx_rows.specs.inner.Sides.{place_at, side}
use Rattle.fx_rows.specs.inner.Candidates.{IsOnStrip}
use Rattle.fx_rows.specs.inner.Sums.{Marks}
use Rattle.fx_rows.specs.inner.Told.{rise_value}

-- a column counts of an arc that is right of its chord, or of one left of it, by its side of the chord and its gap
abbrev pub Counts : Bool → ℤ → ℤ → Type 0
Counts true side gap = (side <ℤ pos 0) ⊎ (pos 0 ≤ℤ gap)
Counts false side gap = (side <ℤ pos 0) × (gap <ℤ pos 0)

-- a column of a row between a bent arc's ends counts
abbrev pub CountsAt : Span → Bool → Strip → ℕ → Type 0
CountsAt s right strip k = Counts right (side s.a s.c (place_at strip k)) (gap s (place_at strip k))

-- if a column counts, those before it do
abbrev pub CountsFirst : Span → Bool → Strip → Type 0
CountsFirst s right strip = (i j : ℕ) → i ≤ j → CountsAt s right strip j → CountsAt s right strip i

-- the columns before the end count, and those from it on do not
pub record IsEndOfCount (s : Span) (right : Bool) (strip : Strip) (end : ℕ) : Type 0 where
  pub inside : (k : ℕ) → k < end → CountsAt s right strip k
  pub outside : (k : ℕ) → end ≤ k → k < strip.stop → ¬ (CountsAt s right strip k)

-- the column beside the end that an arc can meet
abbrev pub IsLast : Bool → ℕ → ℕ → Type 0
IsLast true end k = k + 1 ≡ end
IsLast false end k = k ≡ end

-- a piece adds the value of its rise to the columns of a strip before the end, and nothing to the others, but for those on it
pub record IsStripEnd (s : Span) (strip : Strip) (end : ℕ) : Type 0 where
  pub inside : (k : ℕ) → k < strip.stop → k < end → ¬ (IsOn (place_at strip k) s)
      → turn (place_at strip k) s ≡ rise_value s
  pub outside : (k : ℕ) → k < strip.stop → end ≤ k → ¬ (IsOn (place_at strip k) s)
      → turn (place_at strip k) s ≡ pos 0
  pub within : end ≤ strip.stop

-- what a piece adds to the columns of a strip: they end there, and those on it are named
pub record IsCut (s : Span) (strip : Strip) (cut : Cut) : Type 0 where
  pub end : IsStripEnd s strip cut.end
  pub on : IsOnStrip s strip cut.on

-- what a piece adds at a place: a mark if the place is on it, and else its crossing and its region
pub record IsAdded (s : Span) (p : Place) (old new : Bool) (turns turns' : ℤ) : Type 0 where
  pub here : Bool
  pub told : IsTrue here ↔ IsOn p s
  pub marks : Marks here old new
  pub sum : here ≡ false → turns' ≡ turns +ℤ (crossing p s +ℤ region p s)
  pub small : IsWithin 2 (turns' -ℤ turns)

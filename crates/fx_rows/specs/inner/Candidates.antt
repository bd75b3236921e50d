-- The columns of a strip that are on a piece.
use Rattle.std.specs.Prelude.{◌≡◌, ◌⊎◌, ◌↔◌, ℕ, ◌<◌, pos, ◌+ℤ◌, Bool, IsTrue}
use Rattle.fx_winding.specs.Winding.{Span, IsOn}
use Rattle.fx_rows.specs.declared.part.OnRow.{OnRow}
use Rattle.fx_rows.specs.declared.strip.Strip.{Strip}
use Rattle.fx_rows.specs.declared.along.Columns.{Columns}
use Rattle.fx_rows.specs.Parts.{IsBent, IsMarked, IsFormed}
use Rattle.fx_rows.specs.inner.Sides.{place_at}

-- the columns of a strip that are on a piece
pub record IsOnStrip (s : Span) (strip : Strip) (on : OnRow) : Type 0 where
  pub marks : (k : ℕ) → k < strip.stop → IsMarked on (strip.base +ℤ pos k) ↔ IsOn (place_at strip k) s
  pub formed : IsFormed s strip.base strip.stop on

-- of the columns of a strip only the first and the last of these can be on a bent arc, and are as told
pub record AreEnds (s : Span) (strip : Strip) (r : Columns) (on_first on_last : Bool) : Type 0 where
  pub bent : IsBent s
  pub only : (k : ℕ) → k < strip.stop → IsOn (place_at strip k) s → (k ≡ r.first) ⊎ (k ≡ r.last)
  pub first : IsTrue on_first ↔ IsOn (place_at strip r.first) s
  pub last : IsTrue on_last ↔ IsOn (place_at strip r.last) s

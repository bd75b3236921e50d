-- What pieces add at the places from the centre of a pixel to that of its right neighbour.
use Rattle.std.specs.Prelude.{◌≡◌, ◌≢◌, ◌⊎◌, ℕ, ◌<◌, ℤ, pos, ◌≤ℤ◌, ◌<ℤ◌, int_lt, if◌then◌else◌, Bool, false}
use Rattle.std.specs.Prelude.{IsTrue, get_or, Option, Some, None}
use Rattle.fx_fixed.specs.Ranges.{IsWithin}
use Rattle.fx_fixed.specs.declared.places.Axis.{Axis}
use Rattle.fx_fixed.specs.declared.places.Axis.TheVariants.{X, Y}
use Rattle.fx_rows.specs.declared.part.OnRow.{OnRow}
use Rattle.fx_rows.specs.declared.part.OnRow.TheVariants.{None as Nowhere, One, Two, Range}
use Rattle.fx_rows.specs.declared.part.RowPart.{RowPart}
use Rattle.fx_rows.specs.declared.part.Run.{Run}
use Rattle.fx_rows.specs.inner.Cuts.{IsAdded}
use Rattle.fx_winding.specs.Area.{Place}
use Rattle.fx_winding.specs.Outside.{HasAll}
use Rattle.fx_winding.specs.Winding.{Span}
use Rattle.fx_dropout.specs.declared.pair.Pair.{Pair}
use Rattle.fx_dropout.specs.declared.places.Places.{Places}
use Rattle.fx_dropout.specs.Dropout.{place_on}

-- the place n steps from the centre of a pair's first pixel
abbrev pub place_in : Pair → ℕ → Place
place_in p n = place_on p.col p.row n

-- a place's coordinate along an axis
abbrev pub coordinate_of : Axis → Place → ℤ
coordinate_of X p = p.x
coordinate_of Y p = p.y

-- a piece is above the row of p, below it, or left of p
abbrev pub IsMissed : Place → Span → Type 0
IsMissed p s = HasAll (λ e. p.y <ℤ e.y) s ⊎ (HasAll (λ e. e.y <ℤ p.y) s ⊎ HasAll (λ e. e.x <ℤ p.x) s)

-- 1 for a height above y, else 0
abbrev pub above : ℤ → ℤ → ℤ
above y height = if int_lt y height then pos 1 else pos 0

-- the numbers of two places, in their order
pub record ArePlaces (first last : ℤ) : Type 0 where
  pub from : pos 0 ≤ℤ first
  pub order : first ≤ℤ last
  pub to : last <ℤ pos 128

-- a run of places, if there is one
abbrev pub IsRunOfPlaces : Option Run → Type 0
IsRunOfPlaces None = Unit {0}
IsRunOfPlaces (Some r) = ArePlaces r.first r.last × IsWithin 1 r.value

-- the named ones are places
abbrev pub ArePlacesNamed : OnRow → Type 0
ArePlacesNamed Nowhere = Unit {0}
ArePlacesNamed (One i) = ArePlaces i i
ArePlacesNamed (Two i j) = ArePlaces i i × ArePlaces j j
ArePlacesNamed (Range i j) = ArePlaces i j

-- the columns of a part of a row are places
abbrev pub IsOfPlaces : RowPart → Type 0
IsOfPlaces part = IsRunOfPlaces part.crossing × IsRunOfPlaces part.region × ArePlacesNamed part.on

-- whether the place n is marked, and its count
abbrev pub mark_at : Places → ℕ → Bool
mark_at p n = get_or p.marks n false

abbrev pub count_at : Places → ℕ → ℤ
count_at p n = get_or p.counts n (pos 0)

-- all counts are within a size
abbrev pub AreCountsWithin : ℕ → Places → Type 0
AreCountsWithin size p = (n : ℕ) → n < 128 → IsWithin size (count_at p n)

-- nothing was added to the places
abbrev pub AreClear : Places → Type 0
AreClear p = (n : ℕ) → n < 128 → (count_at p n ≡ pos 0) × (mark_at p n ≡ false)

-- the place n counts as covered
abbrev pub IsCoveredIn : Places → ℕ → Type 0
IsCoveredIn p n = IsTrue (mark_at p n) ⊎ (count_at p n ≢ pos 0)

-- what a piece adds at the places of a pair is added
abbrev pub IsPieceAdded : Pair → Span → Places → Places → Type 0
IsPieceAdded pair s old new =
    (n : ℕ) → n < 128 → IsAdded s (place_in pair n) (mark_at old n) (mark_at new n) (count_at old n) (count_at new n)

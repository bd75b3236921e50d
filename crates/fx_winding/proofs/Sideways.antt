-- Off a piece, on a row strictly between its ends, the piece and the exchanged one add up to what its ends count: `turned_within`.
-- Serves `Turning`.
use Rattle.std.proofs.Common.{◌≡◌, ap, ◌∙◌, inl, inr, ℤ, pos, ◌-ℤ◌, neg_ℤ, ◌<ℤ◌, int_lt, ◌&&◌, if◌then◌else◌, Option, Some, None}
use Rattle.std.proofs.Common.{arith}
use Rattle.std.proofs.lemmas.Int.{ints}
use Rattle.fx_fixed.proofs.Linear.{signed_linear}
use Rattle.fx_winding.specs.Area.{Place}
use Rattle.fx_winding.specs.Turned.{turned_place, turned_span}
use Rattle.fx_winding.specs.Meets.{turn, IsBetweenEnds}
use Rattle.fx_winding.specs.Moves.{reversed}
use Rattle.fx_winding.specs.Winding.{Span, IsOnPart, IsOn}
use Rattle.fx_winding.proofs.ChordSides.{regions_on}
use Rattle.fx_winding.proofs.Columns.{crossings_sum, flat_on, line_on}
use Rattle.fx_winding.proofs.Crossings.{above}
use Rattle.fx_winding.proofs.Meeting.{added_back}
use Rattle.fx_winding.proofs.Reflected.{AddUp, add_up_line, add_up_arc}
use Rattle.fx_winding.proofs.Reversal.{reversal_negates}
use Rattle.fx_winding.proofs.TurnedAreas.{turning}

-- both pieces add 1 in all where the place is left of the upper end, else nothing
rising_part : (a : Place) (b : Option Place) (c p : Place) → a.y <ℤ p.y → p.y <ℤ c.y → ¬ (IsOnPart a b c p)
    → AddUp turned_place (above p.x c.x) a b c p
rising_part a None c p low high off = add_up_line turned_place turning (above p.x c.x) a c p (crossings_sum a c p low high)
    (λ z. absurd (off (line_on a c p (record { low = low; high = high; none = z }))))
rising_part a (Some b) c p low high off = add_up_arc turned_place turning (above p.x c.x) a b c p (crossings_sum a c p low high)
    (λ y z. absurd (off (inr (flat_on a b c p (record { low = low; high = high; none = z }) y))))
    (λ n z. regions_on a b c p (record { low = low; high = high; none = z }) n)

-- 1 if an end is above a place and right of it
abbrev pub corner : ℤ → ℤ → ℤ → ℤ → ℤ
corner px py ex ey = if int_lt py ey && int_lt px ex then pos 1 else pos 0

-- what a piece's end counts so, less what its start counts
abbrev pub corners : Place → Place → Place → ℤ
corners p a c = corner p.x p.y c.x c.y -ℤ corner p.x p.y a.x a.y

turned_rising : (p : Place) (s : Span) → s.a.y <ℤ p.y → p.y <ℤ s.c.y → ¬ (IsOn p s)
    → turn (turned_place p) (turned_span s) ≡ corners p s.a s.c -ℤ turn p s
turned_rising p s low high off =
    rising_part s.a s.b s.c p low high off ∙ ap (λ z. z -ℤ turn p s) (by p.x p.y s.a.x s.a.y s.c.x s.c.y low high)
  where
    by : (px py ax ay cx cy : ℤ) → ay <ℤ py → py <ℤ cy → above px cx ≡ corner px py cx cy -ℤ corner px py ax ay
    by px py ax ay cx cy h k = grind (arith, ints)

-- a piece and the exchanged one add this in all
pub turned_within : (p : Place) (s : Span) → IsBetweenEnds p s → ¬ (IsOn p s)
    → turn (turned_place p) (turned_span s) ≡ corners p s.a s.c -ℤ turn p s
turned_within p s (inl (low, high)) off = turned_rising p s low high off
turned_within p s (inr (low, high)) off =
    back (corner p.x p.y s.a.x s.a.y) (corner p.x p.y s.c.x s.c.y) (turn (turned_place p) (turned_span s)) (turn p s)
    (turn (turned_place p) (turned_span (reversed s))) (turn p (reversed s))
    (turned_rising p (reversed s) low high (λ h. off ((reversal_negates p s).0.0 h)))
    (added_back (turned_place p) (turned_span s)) (added_back p s)
  where
    back : (k l t r t' r' : ℤ) → t' ≡ (k -ℤ l) -ℤ r' → t' ≡ neg_ℤ t → r' ≡ neg_ℤ r → t ≡ (l -ℤ k) -ℤ r
    back k l t r t' r' e f g = omega (arith, signed_linear, e, f, g)

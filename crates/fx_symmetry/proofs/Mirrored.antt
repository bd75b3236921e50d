-- What a mirrored piece adds at the mirrored place, by what the piece adds: `mirrored_turn`.
-- Serves the law `pieces`.
use Rattle.std.proofs.Common.{◌≡◌, ◌≢◌, sym, ap, ◌∙◌, ◌⊎◌, inl, inr, ℤ, pos, ◌+ℤ◌, ◌-ℤ◌, ◌*ℤ◌, neg_ℤ}
use Rattle.std.proofs.Common.{◌≤ℤ◌, ◌<ℤ◌, int_lt, ◌&&◌, ◌||◌, Option, Some, None, arith}
use Rattle.std.specs.Ordering.{int_eq}
use Rattle.std.proofs.lemmas.Int.{ints, by_lt_z}
use Rattle.fx_fixed.proofs.Linear.{signed_linear}
use Rattle.fx_winding.specs.Area.{Place, area, area_of}
use Rattle.fx_winding.specs.Meets.{turn}
use Rattle.fx_winding.specs.Moves.{reversed}
use Rattle.fx_winding.specs.Winding.{Span, IsOnPart, IsOn, is_right_of_chord, chord_crossing, region_part}
use Rattle.fx_winding.proofs.ChordSides.{has_ends, chord_region, region_at, regions_right, regions_left}
use Rattle.fx_winding.proofs.Columns.{IsOnRising, none_factor, times_none, flat_on, line_on}
use Rattle.fx_winding.proofs.Crossings.{above, crossing_number}
use Rattle.fx_winding.proofs.EndsOn.{off_no_end}
use Rattle.fx_winding.proofs.Meeting.{added_back}
use Rattle.fx_winding.proofs.Reflected.{Reflects, regions_cancel, regions_alike, AddUp, CrossingsAddUp, add_up_line, add_up_arc}
use Rattle.fx_winding.proofs.Reversal.{reversal_negates}
use Rattle.fx_symmetry.specs.Symmetries.{Mirror, place_in, span_in}
use Rattle.fx_symmetry.specs.Pieces.{end_in}
use Rattle.fx_symmetry.proofs.ChordLine.{area_start, between_rising}
use Rattle.fx_symmetry.proofs.OnPieces.{reflects}

-- a place and its mirrored one
abbrev mirrored_place : Place → Place
mirrored_place = place_in Mirror

mirror_reflects : Reflects mirrored_place
mirror_reflects = reflects Mirror

-- ---- one piece
-- off the chord's line one of the two chords is right of its place
both_sides : (ay cy py s : ℤ) → s ≢ pos 0
    → crossing_number ay cy py (neg_ℤ s) +ℤ crossing_number ay cy py s ≡ above py cy -ℤ above py ay
both_sides ay cy py s n = grind (arith, ints)

mirror_crossings : (a c p : Place) → CrossingsAddUp mirrored_place (above p.y c.y -ℤ above p.y a.y) a c p
mirror_crossings a c p n = ap (λ z. crossing_number a.y c.y p.y z +ℤ chord_crossing a c p) (mirror_reflects.area_is a c p)
    ∙ both_sides a.y c.y p.y (area a c p) n

-- on its line and in the row of an end the place is that end
start_at : (a c p : Place) → a.y <ℤ c.y → area a c p ≡ pos 0 → p.y ≡ a.y → p ≡ a
start_at a c p l z e = λ i. record { x = same i; y = e i }
  where
    none : (c.y -ℤ a.y) *ℤ (a.x -ℤ p.x) ≡ pos 0
    none = sym (area_start a.x a.y c.x c.y p.x) ∙ ap (area_of a.x a.y c.x c.y p.x) (sym e) ∙ z

    same : p.x ≡ a.x
    same =
        let n = none_factor (c.y -ℤ a.y) (a.x -ℤ p.x) (omega (arith, signed_linear, l)) none in omega (arith, signed_linear, n)

-- a place on the chord's line, neither on the chord nor its lower end, is in no row that the chord passes
no_rise : (a c p : Place) → a.y ≤ℤ c.y → area a c p ≡ pos 0 → ¬ (IsOnRising a c p) → ¬ (p ≡ a)
    → above p.y c.y -ℤ above p.y a.y ≡ pos 0
no_rise a c p l z off first = by_lt_z a.y c.y
    (λ k. rising a.y c.y p.y k (λ h m. off (record { low = h; high = m; none = z })) (λ e. first (start_at a c p k z e)))
    (level a.y c.y p.y l)
  where
    rising : (a c y : ℤ) → a <ℤ c → (a <ℤ y → y <ℤ c → ⊥) → (y ≡ a → ⊥) → above y c -ℤ above y a ≡ pos 0
    rising a c y l off first = grind (arith, ints)

    level : (a c y : ℤ) → a ≤ℤ c → c ≤ℤ a → above y c -ℤ above y a ≡ pos 0
    level a c y l k = grind (arith, ints)

-- on a level chord's line the regions cancel
level_alike : (a b c : Place) → a.y ≤ℤ c.y → c.y ≤ℤ a.y
    → is_right_of_chord (mirrored_place a) (mirrored_place b) (mirrored_place c) ≡ is_right_of_chord a b c
level_alike a b c l k = ap (λ z. int_lt (pos 0) z || (int_eq a.y c.y && int_lt a.y b.y))
    (times_none (area (mirrored_place a) (mirrored_place b) (mirrored_place c)) (c.y -ℤ a.y) none
    ∙ sym (times_none (area a b c) (c.y -ℤ a.y) none))
  where
    none : c.y -ℤ a.y ≡ pos 0
    none = omega (arith, signed_linear, l, k)

-- the regions at a place on the chord of an arc
abbrev RegionsAdd : ℤ → Place → Place → Place → Place → Type 0
RegionsAdd k a b c p =
    region_part (mirrored_place a) (Some (mirrored_place b)) (mirrored_place c) (mirrored_place p) +ℤ region_part a (Some b) c p ≡ k

-- on a chord that rises one of the arcs is right of it
on_rising_chord : (a b c p : Place) → IsOnRising a c p → area a b c ≢ pos 0 → RegionsAdd (pos 1) a b c p
on_rising_chord a b c p h n = (λ i. region_at (mirrored_place a) (mirrored_place b) (mirrored_place c) (mirrored_place p)
    (has_ends (mirrored_place a) (mirrored_place b) (mirrored_place c) (mirrored_place p) other apart) i
    +ℤ region_at a b c p (has_ends a b c p h n) i)
    ∙ by_lt_z (pos 0) (area a b c) right (λ l. left (strictly (area a b c) n l))
  where
    other : IsOnRising (mirrored_place a) (mirrored_place c) (mirrored_place p)
    other = record { low = h.low; high = h.high; none = mirror_reflects.area_is a c p ∙ ap neg_ℤ h.none }

    apart : area (mirrored_place a) (mirrored_place b) (mirrored_place c) ≢ pos 0
    apart e = n (back (area a b c) (sym (mirror_reflects.area_is a b c) ∙ e))
      where
        back : (z : ℤ) → neg_ℤ z ≡ pos 0 → z ≡ pos 0
        back z h = omega (arith, signed_linear, h)

    rises : a.y <ℤ c.y
    rises = let low = h.low in let high = h.high in omega (arith, signed_linear, low, high)

    turned : area (mirrored_place a) (mirrored_place b) (mirrored_place c) ≡ neg_ℤ (area a b c)
    turned = mirror_reflects.area_is a b c

    right : pos 0 <ℤ area a b c
        → chord_region (mirrored_place a) (mirrored_place b) (mirrored_place c) +ℤ chord_region a b c ≡ pos 1
    right d =
        let m : area (mirrored_place a) (mirrored_place b) (mirrored_place c) <ℤ pos 0 =
        rw turned (omega (arith, signed_linear, d)) in
        λ i. (regions_left (mirrored_place a) (mirrored_place b) (mirrored_place c) rises m).1 i
        +ℤ (regions_right a b c rises d).1 i

    left : area a b c <ℤ pos 0 → chord_region (mirrored_place a) (mirrored_place b) (mirrored_place c) +ℤ chord_region a b c ≡ pos 1
    left d =
        let m : pos 0 <ℤ area (mirrored_place a) (mirrored_place b) (mirrored_place c) =
        rw turned (omega (arith, signed_linear, d)) in
        λ i. (regions_right (mirrored_place a) (mirrored_place b) (mirrored_place c) rises m).1 i
        +ℤ (regions_left a b c rises d).1 i

    strictly : (z : ℤ) → z ≢ pos 0 → z ≤ℤ pos 0 → z <ℤ pos 0
    strictly z n h = grind (arith, ints)

-- beside it neither counts
off_chord : (a b c p : Place) → a.y <ℤ c.y → area a c p ≡ pos 0 → ¬ (IsOnRising a c p) → RegionsAdd (pos 0) a b c p
off_chord a b c p l z off = regions_cancel mirrored_place mirror_reflects a b c p (λ h. absurd (off (between_rising a b c p l z h)))
    (λ h. absurd (off (back (between_rising (mirrored_place a) (mirrored_place b) (mirrored_place c) (mirrored_place p) l none h))))
  where
    none : area (mirrored_place a) (mirrored_place c) (mirrored_place p) ≡ pos 0
    none = mirror_reflects.area_is a c p ∙ ap neg_ℤ z

    back : IsOnRising (mirrored_place a) (mirrored_place c) (mirrored_place p) → IsOnRising a c p
    back h = record { low = h.low; high = h.high; none = z }

-- in all, on the chord's line
mirror_regions : (a b c p : Place) → a.y ≤ℤ c.y → ¬ (p ≡ a) → area a b c ≢ pos 0 → area a c p ≡ pos 0
    → RegionsAdd (above p.y c.y -ℤ above p.y a.y) a b c p
mirror_regions a b c p l first n z = by_lt_z a.y c.y rising level
  where
    level : c.y ≤ℤ a.y → RegionsAdd (above p.y c.y -ℤ above p.y a.y) a b c p
    level k = regions_alike mirrored_place mirror_reflects a b c p (inr (level_alike a b c l k)) ∙ sym (none a.y c.y p.y k l)
      where
        none : (a c y : ℤ) → c ≤ℤ a → a ≤ℤ c → above y c -ℤ above y a ≡ pos 0
        none a c y k l = grind (arith, ints)

    rising : a.y <ℤ c.y → RegionsAdd (above p.y c.y -ℤ above p.y a.y) a b c p
    rising k = by (known a.y c.y p.y)
      where
        known : (a c y : ℤ) → ((a <ℤ y) × (y <ℤ c)) ⊎ ((a <ℤ y → y <ℤ c → ⊥))
        known a c y = grind (arith, ints)

        one : (a c y : ℤ) → a <ℤ y → y <ℤ c → pos 1 ≡ above y c -ℤ above y a
        one a c y h m = grind (arith, ints)

        by : ((a.y <ℤ p.y) × (p.y <ℤ c.y)) ⊎ ((a.y <ℤ p.y → p.y <ℤ c.y → ⊥)) → RegionsAdd (above p.y c.y -ℤ above p.y a.y) a b c p
        by (inl (h, m)) = on_rising_chord a b c p (record { low = h; high = m; none = z }) n ∙ one a.y c.y p.y h m
        by (inr o) = let off : ¬ (IsOnRising a c p) = λ h. o h.low h.high in
            off_chord a b c p k z off ∙ sym (no_rise a c p l z off first)

-- where the chord does not fall
mirror_part : (a : Place) (b : Option Place) (c p : Place) → a.y ≤ℤ c.y → ¬ (p ≡ a) → ¬ (IsOnPart a b c p)
    → AddUp mirrored_place (above p.y c.y -ℤ above p.y a.y) a b c p
mirror_part a None c p l first off =
    add_up_line mirrored_place mirror_reflects (above p.y c.y -ℤ above p.y a.y) a c p (mirror_crossings a c p)
    (λ z. no_rise a c p l z (λ h. off (line_on a c p h)) first)
mirror_part a (Some b) c p l first off =
    add_up_arc mirrored_place mirror_reflects (above p.y c.y -ℤ above p.y a.y) a b c p (mirror_crossings a c p)
    (λ y z. no_rise a c p l z (λ h. off (inr (flat_on a b c p h y))) first) (mirror_regions a b c p l first)

mirror_rising : (p : Place) (s : Span) → s.a.y ≤ℤ s.c.y → ¬ (IsOn p s)
    → turn (mirrored_place p) (span_in Mirror s) ≡ (end_in Mirror p s.c -ℤ end_in Mirror p s.a) -ℤ turn p s
mirror_rising p s l off = mirror_part s.a s.b s.c p l (off_no_end p s off).first off

pub mirrored_turn : (p : Place) (s : Span) → ¬ (IsOn p s)
    → turn (mirrored_place p) (span_in Mirror s) ≡ (end_in Mirror p s.c -ℤ end_in Mirror p s.a) -ℤ turn p s
mirrored_turn p s off = by_lt_z s.c.y s.a.y (λ l. falling (strictly s.c.y s.a.y l)) (λ l. mirror_rising p s l off)
  where
    strictly : (x y : ℤ) → x <ℤ y → x ≤ℤ y
    strictly x y h = omega (arith, signed_linear, h)

    back : (x y t r t' r' : ℤ) → t' ≡ (x -ℤ y) -ℤ r' → t' ≡ neg_ℤ t → r' ≡ neg_ℤ r → t ≡ (y -ℤ x) -ℤ r
    back x y t r t' r' e f g = omega (arith, signed_linear, e, f, g)

    falling : s.c.y ≤ℤ s.a.y → turn (mirrored_place p) (span_in Mirror s) ≡ (end_in Mirror p s.c -ℤ end_in Mirror p s.a) -ℤ turn p s
    falling l = back (end_in Mirror p s.a) (end_in Mirror p s.c) (turn (mirrored_place p) (span_in Mirror s)) (turn p s)
        (turn (mirrored_place p) (span_in Mirror (reversed s))) (turn p (reversed s))
        (mirror_rising p (reversed s) l (λ h. off ((reversal_negates p s).0.0 h)))
        (added_back (mirrored_place p) (span_in Mirror s)) (added_back p s)

-- What is added at the places of a pair is what the piece adds there: `off_added`, `missed_added`, `part_added`.
-- Serves `nearer`.
use Rattle.std.proofs.Common.{◌≡◌, ◌≢◌, ◌⊎◌, ◌↔◌, inl, inr, refl, sym, ap, ◌∙◌, subst, IsTrue, ℕ, ◌<◌, ℤ, pos, ◌+ℤ◌}
use Rattle.std.proofs.Common.{◌<ℤ◌, Bool, true, false, List, Any, Option, map, length, get_or, arith}
use Rattle.std.proofs.Math.ListN.{get_or-map}
use Rattle.std.proofs.lemmas.List.{length-map}
use Rattle.fx_fixed.specs.Ranges.{IsWithin}
use Rattle.fx_fixed.proofs.Linear.{signed_linear}
use Rattle.fx_rows.specs.declared.part.OnRow.{OnRow}
use Rattle.fx_rows.specs.declared.part.RowPart.{RowPart}
use Rattle.fx_rows.specs.declared.part.Run.{Run}
use Rattle.fx_rows.specs.Parts.{IsRowPart}
use Rattle.fx_rows.specs.inner.Cuts.{IsAdded}
use Rattle.fx_rows.specs.inner.Inside.{IsOnInside}
use Rattle.fx_rows.specs.inner.Sums.{is_named, value_at, IsInside, Marks}
use Rattle.fx_rows.proofs.Counted.{on_inside, part_crosses, part_regions, told, turn_at, turn_small}
use Rattle.fx_winding.specs.Area.{Place}
use Rattle.fx_winding.specs.declared.frame.Frame.{Frame}
use Rattle.fx_winding.specs.declared.point.Piece.{Piece}
use Rattle.fx_winding.specs.Frames.{IsFrom}
use Rattle.fx_winding.specs.Meets.{turn}
use Rattle.fx_winding.specs.Turned.{turned_span}
use Rattle.fx_winding.specs.Winding.{Span, IsOn, IsCovered, centre, span_of, winding}
use Rattle.fx_winding.proofs.Beside.{HasAll-weaker, right_off, under_off, over_off}
use Rattle.fx_winding.proofs.Turning.{right_of_all}
use Rattle.fx_dropout.specs.declared.pair.Pair.{Pair}
use Rattle.fx_dropout.specs.Dropout.{place_on}
use Rattle.fx_dropout.specs.inner.Pairs.{seen_span, seen_spans}
use Rattle.fx_dropout.specs.inner.Places.{IsMissed, IsOfPlaces, IsRunOfPlaces, ArePlacesNamed}
use Rattle.fx_dropout.specs.inner.Stretched.{stretched_span}
use Rattle.fx_dropout.proofs.Stretching.{held, centre_stretched, crossing_stretched, region_stretched, on_stretched}

-- ---- a piece beside the places
-- a place off a piece
pub off_added : (s : Span) (p : Place) (old new : Bool) (a b : ℤ) → ¬ (IsOn p s) → new ≡ old → b ≡ a +ℤ turn p s
    → IsAdded s p old new a b
off_added s p old new a b off same sum = record {
  here = false;
  told = (λ t. absurd (cc), λ o. absurd (off o));
  marks = inr (refl, same);
  sum = λ _. sum;
  small = let t = turn_small p s in omega (arith, signed_linear, sum, t);
}

-- nothing is added to the places that a piece misses
pub missed_added : (s : Span) (col row : ℤ) (n : ℕ) (on : Bool) (a : ℤ) → IsMissed (centre col row) s
    → IsAdded s (place_on col row n) on on a a
missed_added s col row n on a (inl h) =
    let none = under_off (place_on col row n) s h in
    off_added s (place_on col row n) on on a a none.2 refl (omega (arith, signed_linear, none.0, none.1))
missed_added s col row n on a (inr (inl h)) =
    let none = over_off (place_on col row n) s h in
    off_added s (place_on col row n) on on a a none.2 refl (omega (arith, signed_linear, none.0, none.1))
missed_added s col row n on a (inr (inr h)) =
    let p = place_on col row n in
    let left = HasAll-weaker (λ e. e.x <ℤ (centre col row).x) (λ e. e.x <ℤ p.x) (λ e l. omega (arith, signed_linear, l)) s h in
    let none = right_of_all p s left in
    off_added s p on on a a (right_off p s left).1 refl (omega (arith, signed_linear, none))

-- ---- a piece by its stretched row
-- the column and the row of a pair, as the code holds them
pub pair_held : (pair : Pair) → (held pair.col ≡ pair.col) × (held pair.row ≡ pair.row)
pair_held pair =
    let a = pair.col_number in
    let b = pair.row_number in
    (omega (arith, signed_linear, a), omega (arith, signed_linear, b))

pub centre_held : (pair : Pair) → centre (held pair.col) (held pair.row) ≡ centre pair.col pair.row
centre_held pair = λ i. centre ((pair_held pair).0 i) ((pair_held pair).1 i)

pub part_places : (s : Span) (row : ℤ) (f : Frame) (part : RowPart) → f.left ≡ pos 0 → f.width ≡ 128 → IsRowPart s row f part
    → IsOfPlaces part
part_places s row f part left wide h = (
  run part.crossing (part_crosses s row f part h),
  run part.region (part_regions s row f part h),
  named part.on (on_inside s f part.on h.formed),
)
  where
    run : (r : Option Run) → IsInside f r → IsRunOfPlaces r
    run r h = grind (arith, signed_linear, left, wide, h)

    named : (on : OnRow) → IsOnInside f on → ArePlacesNamed on
    named on h = grind (arith, signed_linear, left, wide, h)

pub part_added : (s : Span) (col row : ℤ) (f : Frame) (part : RowPart) (n : ℕ) (old new : Bool) (a b : ℤ) → n < 128
    → f.left ≡ pos 0 → f.width ≡ 128 → IsRowPart (stretched_span col s) row f part
    → Marks (is_named part.on (pos n)) old new → b ≡ a +ℤ (value_at part.crossing (pos n) +ℤ value_at part.region (pos n))
    → IsAdded s (place_on col row n) old new a b
part_added s col row f part n old new a b l left wide h marks sum = record {
  here = is_named part.on (pos n);
  told = (λ t. on.0 ((h.on (pos n) i).0 ((told part.on (pos n)).0 t)), λ o. (told part.on (pos n)).1 ((h.on (pos n) i).1 (on.1 o)));
  marks = marks;
  sum = λ _. omega (arith, signed_linear, sum, turns);
  small = omega (arith, signed_linear, sum, turns, small);
}
  where
    i : IsFrom f.left f.width (pos n)
    i = (omega (arith, signed_linear, l, left, wide), omega (arith, signed_linear, l, left, wide))

    on : IsOn (centre (pos n) row) (stretched_span col s) ↔ IsOn (place_on col row n) s
    on = subst (λ q. IsOn q (stretched_span col s) ↔ IsOn (place_on col row n) s) (centre_stretched col row n)
        (on_stretched col (place_on col row n) s)

    turns : value_at part.crossing (pos n) +ℤ value_at part.region (pos n) ≡ turn (place_on col row n) s
    turns = turn_at (stretched_span col s) row f part (pos n) h i
        ∙ ap (λ q. turn q (stretched_span col s)) (sym (centre_stretched col row n))
        ∙ (λ j. crossing_stretched col (place_on col row n) s j +ℤ region_stretched col (place_on col row n) s j)

    small : IsWithin 2 (turn (place_on col row n) s)
    small = turn_small (place_on col row n) s

-- ---- all pieces
pub seen_length : (up : Bool) (ps : List Piece) → length (seen_spans up (map span_of ps)) ≡ length ps
seen_length false ps = length-map ps span_of
seen_length true ps = length-map (map span_of ps) turned_span ∙ length-map ps span_of

pub seen_at : (up : Bool) (ps : List Piece) (k : ℕ) (p : Piece) → p ≡ get_or ps k p
    → seen_span up (span_of p) ≡ get_or (seen_spans up (map span_of ps)) k (seen_span up (span_of p))
seen_at false ps k p is = ap span_of is ∙ sym (get_or-map span_of ps k p)
seen_at true ps k p is = ap (λ q. turned_span (span_of q)) is ∙ ap turned_span (sym (get_or-map span_of ps k p))
    ∙ sym (get_or-map turned_span (map span_of ps) k (span_of p))

-- a place is covered if it is marked or its count is not 0
pub covered_by : (p : Place) (ss : List Span) (on : Bool) (turns : ℤ)
    → (on ≡ false → turns ≡ winding p ss) × (IsTrue on ↔ Any (IsOn p) ss) → (IsTrue on ⊎ (turns ≢ pos 0)) ↔ IsCovered p ss
unfolding IsCovered
covered_by p ss true turns h = (λ _. inl (h.1.0 refl), λ _. inl refl)
covered_by p ss false turns h = (from, to)
  where
    from : IsTrue false ⊎ (turns ≢ pos 0) → Any (IsOn p) ss ⊎ (winding p ss ≢ pos 0)
    from (inl t) = inl (h.1.0 t)
    from (inr n) = inr (λ w. n (h.0 refl ∙ w))

    to : Any (IsOn p) ss ⊎ (winding p ss ≢ pos 0) → IsTrue false ⊎ (turns ≢ pos 0)
    to (inl a) = inl (h.1.1 a)
    to (inr n) = inr (λ w. n (sym (h.0 refl) ∙ w))

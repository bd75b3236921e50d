-- Drop-out control by the nearer pixel sets the moved pixels of moved pieces, if there is no tie: `near_set_moved`.
-- Serves the law `dropout`, and the pictures of moved outlines.
use Rattle.std.proofs.Common.{◌≡◌, refl, sym, ap, ◌∙◌, subst, ◌↔◌, ◌⊎◌, inl, inr, ℕ, ℤ, pos, ◌+ℤ◌, ◌*ℤ◌, ◌≤ℤ◌}
use Rattle.std.proofs.Common.{List, [], ◌∷◌, ◌++◌, map, arith}
use Rattle.std.proofs.lemmas.List.{map-append}
use Rattle.fx_fixed.specs.Polynomial.{var, num, ◌⊞◌, ◌⊠◌}
use Rattle.fx_fixed.proofs.Ring.{ring}
use Rattle.fx_fixed.proofs.Linear.{signed_linear}
use Rattle.fx_winding.specs.Area.{Place, place}
use Rattle.fx_winding.specs.Turned.{turned_span}
use Rattle.fx_winding.specs.Frames.{IsInFrame}
use Rattle.fx_winding.specs.Meets.{IsMet}
use Rattle.fx_winding.specs.Outside.{AreOfOutline, IsOutline, Leads, joined}
use Rattle.fx_winding.specs.Winding.{Span, IsOn, IsCovered, centre}
use Rattle.fx_dropout.specs.declared.chooser.Closing.TheVariants.{Nearer}
use Rattle.fx_dropout.specs.Dropout.{IsGap, IsNextNearer, IsRowSetIn, IsSetIn, place_on}
use Rattle.fx_symmetry.specs.Symmetries.{Symmetry, Mirror, Flip, Exchange, place_in, span_in, col_in, row_in}
use Rattle.fx_symmetry.specs.Dropout.{IsHereNearer, HasNoTieIn, MovesNearSet}
use Rattle.fx_symmetry.proofs.Covering.{mirror, axis_mirrored, centre_in, moves_cover, moves_bits}
use Rattle.fx_symmetry.proofs.Meeting.{mirror_meets, flip_meets}
use Rattle.fx_symmetry.proofs.Moved.{AreMet, IsMoved, closed_moved, nearer_along, turned_map}
use Rattle.fx_symmetry.proofs.OnPieces.{turned_mirrored, turned_flipped}
use Rattle.fx_symmetry.proofs.Reversed.{mirror_next, any_moved, back_along, nearer_reversed, one_nearer, bridged_mirrored}

-- ---- gaps of a line
-- what is set so far, in the line and in the moved one
record AreSet (ss : List Span) (So At : ℤ → ℤ → Type 0) (m n : ℤ → ℤ) : Type 0 where
  covered : (i j : ℤ) → IsCovered (centre i j) ss → So i j
  moved : (i j : ℤ) → At (m i) (n j) ↔ So i j

-- the segment to the right neighbour, mirrored, is that from the mirrored neighbour
strokes_mirrored : (ss : List Span) (i j : ℤ) → ¬ (IsCovered (centre i j) ss) → ¬ (IsCovered (centre (i +ℤ pos 1) j) ss)
    → AreMet (map (span_in Mirror) ss) (mirror (i +ℤ pos 1)) j ↔ AreMet ss i j
strokes_mirrored ss i j np nq =
    any_moved (span_in Mirror) (centre i j) (centre (i +ℤ pos 1) j) ss (IsMet (centre i j) (centre (i +ℤ pos 1) j))
    (IsMet (centre (mirror (i +ℤ pos 1)) j) (centre (mirror (i +ℤ pos 1) +ℤ pos 1) j)) np nq one
  where
    one : (s : Span) → ¬ (IsOn (centre i j) s) → ¬ (IsOn (centre (i +ℤ pos 1) j) s)
        → IsMet (centre (mirror (i +ℤ pos 1)) j) (centre (mirror (i +ℤ pos 1) +ℤ pos 1) j) (span_in Mirror s)
        ↔ IsMet (centre i j) (centre (i +ℤ pos 1) j) s
    one s n m = subst (λ (z : Place × Place). IsMet z.0 z.1 (span_in Mirror s) ↔ IsMet (centre i j) (centre (i +ℤ pos 1) j) s)
        (λ t. (centre_in Mirror (i +ℤ pos 1) j t, (centre_in Mirror i j ∙ ap (λ z. centre z j) (sym (mirror_next i))) t))
        (mirror_meets (centre i j) (centre (i +ℤ pos 1) j) s refl n m)

gap_mirrored : (ss : List Span) (So At : ℤ → ℤ → Type 0) → AreSet ss So At mirror (λ j. j) → (i j : ℤ)
    → IsGap (map (span_in Mirror) ss) At (mirror (i +ℤ pos 1)) j ↔ IsGap ss So i j
gap_mirrored ss So At set i j =
    grind (arith, mirror_next i, set.moved i j, set.moved (i +ℤ pos 1) j, strokes_mirrored ss i j)

-- upside down a line keeps its order
strokes_flipped : (ss : List Span) (i j : ℤ) → ¬ (IsCovered (centre i j) ss) → ¬ (IsCovered (centre (i +ℤ pos 1) j) ss)
    → AreMet (map (span_in Flip) ss) i (mirror j) ↔ AreMet ss i j
strokes_flipped ss i j np nq =
    any_moved (span_in Flip) (centre i j) (centre (i +ℤ pos 1) j) ss (IsMet (centre i j) (centre (i +ℤ pos 1) j))
    (IsMet (centre i (mirror j)) (centre (i +ℤ pos 1) (mirror j))) np nq one
  where
    -- the centre of a pixel comes before that of the next one
    below : (pos 128 *ℤ i +ℤ pos 64) ≤ℤ (pos 128 *ℤ (i +ℤ pos 1) +ℤ pos 64)
    below =
        let e : pos 128 *ℤ (i +ℤ pos 1) ≡ pos 128 *ℤ i +ℤ pos 128 =
        ring (i ∷ []) (num (pos 128) ⊠ (var 0 ⊞ num (pos 1))) (num (pos 128) ⊠ var 0 ⊞ num (pos 128)) tt in
        omega (arith, signed_linear, e)

    one : (s : Span) → ¬ (IsOn (centre i j) s) → ¬ (IsOn (centre (i +ℤ pos 1) j) s)
        → IsMet (centre i (mirror j)) (centre (i +ℤ pos 1) (mirror j)) (span_in Flip s)
        ↔ IsMet (centre i j) (centre (i +ℤ pos 1) j) s
    one s n m = subst (λ (z : Place × Place). IsMet z.0 z.1 (span_in Flip s) ↔ IsMet (centre i j) (centre (i +ℤ pos 1) j) s)
        (λ t. (centre_in Flip i j t, centre_in Flip (i +ℤ pos 1) j t))
        (flip_meets (centre i j) (centre (i +ℤ pos 1) j) s refl below n m)

gap_flipped : (ss : List Span) (So At : ℤ → ℤ → Type 0) → AreSet ss So At (λ i. i) mirror
    → IsMoved (λ i. i) mirror (IsGap ss So) (IsGap (map (span_in Flip) ss) At)
gap_flipped ss So At set i j =
    grind (arith, set.covered i j, set.covered (i +ℤ pos 1) j, set.moved i j, set.moved (i +ℤ pos 1) j, strokes_flipped ss i j)

-- ---- a column is a row of the exchanged pieces
leads_moved : (m : Symmetry) (p q : Place) (ss : List Span) → Leads p ss q
    → Leads (place_in m p) (map (span_in m) ss) (place_in m q)
leads_moved m p q [] h = ap (place_in m) h
leads_moved m p q (s ∷ ss) h = (ap (place_in m) h.0, leads_moved m s.c q ss h.1)

outlines_moved : (m : Symmetry) (contours : List (List Span)) → IsOutline contours → IsOutline (map (map (span_in m)) contours)
outlines_moved m [] h = tt
outlines_moved m (ss ∷ contours) h =
    let c = h.0 in ((place_in m c.0, leads_moved m c.0 c.0 ss c.1), outlines_moved m contours h.1)

joined_moved : (m : Symmetry) (contours : List (List Span))
    → joined (map (map (span_in m)) contours) ≡ map (span_in m) (joined contours)
joined_moved m [] = refl
joined_moved m (ss ∷ contours) =
    ap (λ ts. map (span_in m) ss ++ ts) (joined_moved m contours) ∙ sym (map-append (span_in m) ss (joined contours))

outline_moved : (m : Symmetry) (ss : List Span) → AreOfOutline ss → AreOfOutline (map (span_in m) ss)
outline_moved m ss o =
    (map (map (span_in m)) o.0, outlines_moved m o.0 o.1, joined_moved m o.0 ∙ ap (map (span_in m)) o.2)

-- ---- the nearer one
-- along a line that keeps its order
near_kept : (m : Symmetry) (ss : List Span) → AreOfOutline ss → (i j k l : ℤ)
    → ((n : ℕ) → place_in m (place_on i j n) ≡ place_on k l n) → IsNextNearer (map (span_in m) ss) k l ↔ IsNextNearer ss i j
near_kept m ss o i j k l e = (
  nearer_along (map (span_in m) ss) ss k l i j covered,
  nearer_along ss (map (span_in m) ss) i j k l (λ n. let c = covered n in (c.1, c.0)),
)
  where
    covered : (n : ℕ) → IsCovered (place_on k l n) (map (span_in m) ss) ↔ IsCovered (place_on i j n) ss
    covered n = subst (λ p. IsCovered p (map (span_in m) ss) ↔ IsCovered (place_on i j n) ss) (e n)
        (moves_cover m (place_on i j n) ss o)

-- so a line upside down, and one in reverse order
near_flipped : (ss : List Span) → AreOfOutline ss → (i j : ℤ)
    → IsNextNearer (map (span_in Flip) ss) i (mirror j) ↔ IsNextNearer ss i j
near_flipped ss o i j =
    near_kept Flip ss o i j i (mirror j) (λ n t. place ((pos 128 *ℤ i +ℤ pos 64) +ℤ pos n) (axis_mirrored j t))

near_mirrored : (ss : List Span) → AreOfOutline ss → (i j : ℤ)
    → IsNextNearer (map (span_in Mirror) ss) (mirror (i +ℤ pos 1)) j ↔ IsHereNearer ss i j
near_mirrored ss o i j = nearer_reversed ss (map (span_in Mirror) ss) i j (mirror (i +ℤ pos 1)) j
    (λ a b h. subst (λ p. IsCovered p (map (span_in Mirror) ss) ↔ IsCovered (place_on i j b) ss)
    (λ t. place (back_along i a b h t) (pos 128 *ℤ j +ℤ pos 64)) (moves_cover Mirror (place_on i j b) ss o))

-- so a gap without a tie has one nearer pixel, mirrored or not
one_of_both : (ss ts : List Span) (i j k l : ℤ) → IsNextNearer ts k l ↔ IsHereNearer ss i j
    → IsNextNearer ss i j ⊎ IsHereNearer ss i j → IsNextNearer ss i j ⊎ IsNextNearer ts k l
one_of_both ss ts i j k l e (inl n) = inl n
one_of_both ss ts i j k l e (inr h) = inr (e.1 h)

-- ---- the whole
pub near_set_moved : (m : Symmetry) (ss : List Span) (In To : ℤ → ℤ → Type 0) → AreOfOutline ss → HasNoTieIn m ss In
    → ((i j : ℤ) → To (col_in m i j) (row_in m i j) ↔ In i j) → (i j : ℤ)
    → IsSetIn Nearer (map (span_in m) ss) To (col_in m i j) (row_in m i j) ↔ IsSetIn Nearer ss In i j
near_set_moved Exchange ss In To o tie inside i j = absurd tie
near_set_moved Mirror ss In To o tie inside i j =
    closed_moved (λ j. j) mirror (λ j. refl) (map turned_span ss) (map turned_span ts)
    (λ j i. In i j) (λ j i. To i j) (IsNextNearer (map turned_span ss)) (IsNextNearer (map turned_span ts))
    (λ j i. IsRowSetIn Nearer ss In i j) (λ j i. IsRowSetIn Nearer ts To i j) (λ j i. inside i j) upper (λ j i. row i j) gaps j i
  where
    ts : List Span
    ts = map (span_in Mirror) ss

    row : (i j : ℤ) → IsRowSetIn Nearer ts To (mirror i) j ↔ IsRowSetIn Nearer ss In i j
    row = bridged_mirrored ss ts In To (IsNextNearer ss) (IsNextNearer ts) (λ i j. IsCovered (centre i j) ss)
        (λ i j. IsCovered (centre i j) ts) (record {
          inside = inside;
          set = λ i j. moves_bits Mirror i j ss o;
          gap = gap_mirrored ss (λ i j. IsCovered (centre i j) ss) (λ i j. IsCovered (centre i j) ts)
              (record { covered = λ i j c. c; moved = λ i j. moves_bits Mirror i j ss o });
          one = λ i j g. one_of_both ss ts i j (mirror (i +ℤ pos 1)) j (near_mirrored ss o i j) (tie i j g);
          not_both = λ i j n f. one_nearer ss i j n ((near_mirrored ss o i j).0 f);
        })

    upper : (j i : ℤ) → IsNextNearer (map turned_span ts) j (mirror i) ↔ IsNextNearer (map turned_span ss) j i
    upper j i = subst (λ us. IsNextNearer us j (mirror i) ↔ IsNextNearer (map turned_span ss) j i)
        (sym (turned_map (span_in Mirror) (span_in Flip) turned_mirrored ss))
        (near_flipped (map turned_span ss) (outline_moved Exchange ss o) j i)

    gaps : IsMoved (λ j. j) mirror (IsGap (map turned_span ss) (λ j i. IsRowSetIn Nearer ss In i j))
        (IsGap (map turned_span ts) (λ j i. IsRowSetIn Nearer ts To i j))
    gaps = subst (λ (us : List Span). IsMoved (λ j. j) mirror (IsGap (map turned_span ss)
        (λ j i. IsRowSetIn Nearer ss In i j)) (IsGap us (λ j i. IsRowSetIn Nearer ts To i j)))
        (sym (turned_map (span_in Mirror) (span_in Flip) turned_mirrored ss))
        (gap_flipped (map turned_span ss) (λ j i. IsRowSetIn Nearer ss In i j) (λ j i. IsRowSetIn Nearer ts To i j) (record {
          covered = λ j i c. inl ((moves_bits Exchange i j ss o).0 c);
          moved = λ j i. row i j;
        }))
near_set_moved Flip ss In To o tie inside i j =
    bridged_mirrored (map turned_span ss) (map turned_span ts) (λ j i. In i j) (λ j i. To i j)
    (IsNextNearer (map turned_span ss)) (IsNextNearer (map turned_span ts)) (λ j i. IsRowSetIn Nearer ss In i j)
    (λ j i. IsRowSetIn Nearer ts To i j) (record {
      inside = λ j i. inside i j;
      set = λ j i. rows i j;
      gap = gaps;
      one = λ j i g. one_of_both (map turned_span ss) (map turned_span ts) j i (mirror (j +ℤ pos 1)) i (upper j i) (tie i j g);
      not_both = λ j i n f. one_nearer (map turned_span ss) j i n ((upper j i).0 f);
    }) j i
  where
    ts : List Span
    ts = map (span_in Flip) ss

    rows : IsMoved (λ i. i) mirror (IsRowSetIn Nearer ss In) (IsRowSetIn Nearer ts To)
    rows = closed_moved (λ i. i) mirror (λ i. refl) ss ts In To (IsNextNearer ss) (IsNextNearer ts)
        (λ i j. IsCovered (centre i j) ss) (λ i j. IsCovered (centre i j) ts) inside (near_flipped ss o)
        (λ i j. moves_bits Flip i j ss o) (gap_flipped ss (λ i j. IsCovered (centre i j) ss) (λ i j. IsCovered (centre i j) ts)
        (record { covered = λ i j c. c; moved = λ i j. moves_bits Flip i j ss o }))

    upper : (j i : ℤ) → IsNextNearer (map turned_span ts) (mirror (j +ℤ pos 1)) i ↔ IsHereNearer (map turned_span ss) j i
    upper j i = subst (λ us. IsNextNearer us (mirror (j +ℤ pos 1)) i ↔ IsHereNearer (map turned_span ss) j i)
        (sym (turned_map (span_in Flip) (span_in Mirror) turned_flipped ss))
        (near_mirrored (map turned_span ss) (outline_moved Exchange ss o) j i)

    gaps : (j i : ℤ) → IsGap (map turned_span ts) (λ j i. IsRowSetIn Nearer ts To i j) (mirror (j +ℤ pos 1)) i
        ↔ IsGap (map turned_span ss) (λ j i. IsRowSetIn Nearer ss In i j) j i
    gaps j i = subst (λ (us : List Span). IsGap us (λ j i. IsRowSetIn Nearer ts To i j) (mirror (j +ℤ pos 1)) i
        ↔ IsGap (map turned_span ss) (λ j i. IsRowSetIn Nearer ss In i j) j i)
        (sym (turned_map (span_in Flip) (span_in Mirror) turned_flipped ss))
        (gap_mirrored (map turned_span ss) (λ j i. IsRowSetIn Nearer ss In i j) (λ j i. IsRowSetIn Nearer ts To i j) (record {
          covered = λ j i c. inl ((moves_bits Exchange i j ss o).0 c);
          moved = λ j i. rows i j;
        }) j i)

pub moves_near_set : MovesNearSet
moves_near_set m ss f g o tie inside = near_set_moved m ss (IsInFrame f) (IsInFrame g) o tie inside

-- The pieces of moved outlines are the pieces moved, and so are their bits: `moves_spans`, `moves_drawn`.
-- Serves the law `outlines`, and the pictures of moved outlines.
use Rattle.std.proofs.Common.{◌≡◌, refl, subst, ◌↔◌, ℤ, pos, ◌+ℤ◌, ◌*ℤ◌, neg_ℤ, ℕ, List, [], ◌∷◌, map, get_or, Ok, arith}
use Rattle.std.proofs.lemmas.List.Elements.{All-map}
use Rattle.fx_fixed.specs.Polynomial.{var, num, ◌⊠◌, minus}
use Rattle.fx_fixed.specs.Ranges.{IsWithin}
use Rattle.fx_fixed.proofs.Linear.{signed_linear}
use Rattle.fx_fixed.proofs.Ring.{ring}
use Rattle.fx_winding.specs.Outside.{AreOfOutline}
use Rattle.fx_winding.specs.Winding.{Span, IsCovered, centre}
use Rattle.fx_outline.specs.declared.points.OutlinePoint.{OutlinePoint}
use Rattle.fx_contour.specs.Contours.{farthest, IsInReach, contours_from, spans_of, drawn_of}
use Rattle.fx_contour.specs.Curve.{curve_of}
use Rattle.fx_contour.proofs.Closed.{all_closed}
use Rattle.fx_contour.proofs.Decided.{reach_is_tested}
use Rattle.fx_contour.proofs.DrawnSpans.{drawn_spans, drawn_from}
use Rattle.fx_contour.proofs.Moving.{Follows, moved_spans, drawn_moved}
use Rattle.fx_symmetry.specs.Symmetries.{Symmetry, Mirror, Flip, Exchange, place_in, col_in, row_in}
use Rattle.fx_symmetry.specs.Outlines.{point_in, points_in, MovesSpans, MovesDrawn}
use Rattle.fx_symmetry.proofs.Covering.{moves_bits}

twice_minus : (x : ℤ) → pos 2 *ℤ neg_ℤ x ≡ neg_ℤ (pos 2 *ℤ x)
twice_minus x = ring (x ∷ []) (num (pos 2) ⊠ minus (var 0)) (minus (num (pos 2) ⊠ var 0)) tt

sum_minus : (x y : ℤ) → neg_ℤ x +ℤ neg_ℤ y ≡ neg_ℤ (x +ℤ y)
sum_minus x y = omega (arith, signed_linear)

within_minus : (n : ℕ) (z : ℤ) → IsWithin n z → IsWithin n (neg_ℤ z)
within_minus n z (h, k) = (omega (arith, signed_linear, k), omega (arith, signed_linear, h))

pub follows : (m : Symmetry) → Follows (point_in m) (place_in m)
follows Mirror = record {
  kept = λ p. refl;
  twice = λ p i. record { x = twice_minus p.x i; y = pos 2 *ℤ p.y };
  middle = λ p q i. record { x = sum_minus p.x q.x i; y = p.y +ℤ q.y };
}
follows Flip = record {
  kept = λ p. refl;
  twice = λ p i. record { x = pos 2 *ℤ p.x; y = twice_minus p.y i };
  middle = λ p q i. record { x = p.x +ℤ q.x; y = sum_minus p.y q.y i };
}
follows Exchange = record { kept = λ p. refl; twice = λ p. refl; middle = λ p q. refl }

in_reach : (m : Symmetry) (p : OutlinePoint) → IsInReach p → IsInReach (point_in m p)
in_reach Mirror p h = (within_minus farthest p.x h.0, h.1)
in_reach Flip p h = (h.0, within_minus farthest p.y h.1)
in_reach Exchange p h = (h.1, h.0)

-- what an outline draws is closed
pub drawn_closed : (ends : List ℕ) (points : List OutlinePoint) (ss : List Span) → drawn_of ends points ≡ Ok ss → AreOfOutline ss
drawn_closed ends points ss d = subst AreOfOutline (drawn_spans ends points ss d).1 closed
  where
    closed : AreOfOutline (spans_of ends points)
    closed = (map curve_of (contours_from 0 ends points), all_closed (contours_from 0 ends points), refl)

-- where each point stays within the limit, it draws
still_drawn : (f : OutlinePoint → OutlinePoint) → ((p : OutlinePoint) → IsInReach p → IsInReach (f p)) → (ends : List ℕ)
    (points : List OutlinePoint) (ss : List Span) → drawn_of ends points ≡ Ok ss
    → drawn_of ends (map f points) ≡ Ok (spans_of ends (map f points))
still_drawn f near ends points ss d =
    let h = (reach_is_tested points).0 (drawn_spans ends points ss d).0 in
    drawn_from ends (map f points) ((reach_is_tested (map f points)).1
    (All-map IsInReach f points (λ k p l. near (get_or points k p) (h k p l))))

pub moves_spans : MovesSpans
moves_spans m = moved_spans (point_in m) (place_in m) (follows m)

pub moves_drawn : MovesDrawn
moves_drawn m ends points ss d =
    let e = still_drawn (point_in m) (in_reach m) ends points ss d in (
      spans_of ends (points_in m points),
      e,
      λ i j. subst (λ xs. IsCovered (centre (col_in m i j) (row_in m i j)) xs ↔ IsCovered (centre i j) ss)
          (drawn_moved (point_in m) (place_in m) (follows m) ends points ss (spans_of ends (points_in m points)) d e)
          (moves_bits m i j ss (drawn_closed ends points ss d)),
    )

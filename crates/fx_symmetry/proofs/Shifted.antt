-- Drop-out control sets, for pieces moved by whole pixels, the pixels that it sets for the pieces, moved: `shift_moves_set`.
-- Serves the law `dropout`.
use Rattle.std.proofs.Common.{◌≡◌, ◌↔◌, sym, ap, ◌∙◌, subst, ℕ, ℤ, pos, ◌+ℤ◌, ◌*ℤ◌}
use Rattle.std.proofs.Common.{List, map, arith}
use Rattle.fx_fixed.proofs.Linear.{signed_linear}
use Rattle.fx_winding.specs.Area.{Place, place}
use Rattle.fx_winding.specs.Turned.{turned_span}
use Rattle.fx_winding.specs.Frames.{IsInFrame}
use Rattle.fx_winding.specs.Meets.{IsMet}
use Rattle.fx_winding.specs.Moves.{shifted_place, shifted}
use Rattle.fx_winding.specs.Winding.{Span, IsCovered, centre}
use Rattle.fx_winding.proofs.Covers.{any_map, any_unmap}
use Rattle.fx_winding.proofs.Meeting.{shift_meets}
use Rattle.fx_winding.proofs.Shifts.{centre_shift, shift_moves_cover, shift_moves_bits}
use Rattle.fx_dropout.specs.declared.chooser.Closing.{Closing}
use Rattle.fx_dropout.specs.Dropout.{place_on}
use Rattle.fx_symmetry.specs.Dropout.{ShiftMovesSet}
use Rattle.fx_symmetry.proofs.Moved.{AreMet, AreRowsMoved, KeepsNext, chosen_along, set_moved, turned_map}

place_shift : (k l i j : ℤ) (n : ℕ)
    → shifted_place (pos 128 *ℤ k) (pos 128 *ℤ l) (place_on i j n) ≡ place_on (i +ℤ k) (j +ℤ l) n
place_shift k l i j n =
    let at = centre_shift k l i j in
    let x = ap (λ (q : Place). q.x) at in
    let across : ((pos 128 *ℤ i +ℤ pos 64) +ℤ pos n) +ℤ pos 128 *ℤ k ≡ (pos 128 *ℤ (i +ℤ k) +ℤ pos 64) +ℤ pos n =
    omega (arith, signed_linear, x) in λ t. place (across t) ((at t).y)

next_shift : (k : ℤ) → KeepsNext (λ i. i +ℤ k)
next_shift k i = omega (arith, signed_linear)

-- the places that pieces cover, and the segments that they meet
covered_shift : (k l : ℤ) (ss : List Span) (i j : ℤ) (n : ℕ)
    → IsCovered (place_on (i +ℤ k) (j +ℤ l) n) (map (shifted (pos 128 *ℤ k) (pos 128 *ℤ l)) ss) ↔ IsCovered (place_on i j n) ss
covered_shift k l ss i j n =
    subst (λ p. IsCovered p (map (shifted (pos 128 *ℤ k) (pos 128 *ℤ l)) ss) ↔ IsCovered (place_on i j n) ss)
    (place_shift k l i j n) (shift_moves_cover (pos 128 *ℤ k) (pos 128 *ℤ l) (place_on i j n) ss)

met_shift : (k l : ℤ) (s : Span) (i j : ℤ)
    → IsMet (centre (i +ℤ k) (j +ℤ l)) (centre ((i +ℤ k) +ℤ pos 1) (j +ℤ l)) (shifted (pos 128 *ℤ k) (pos 128 *ℤ l) s) ↔
    IsMet (centre i j) (centre (i +ℤ pos 1) j) s
met_shift k l s i j =
    subst (λ (z : Place × Place). IsMet z.0 z.1 (shifted (pos 128 *ℤ k) (pos 128 *ℤ l) s) ↔
    IsMet (centre i j) (centre (i +ℤ pos 1) j) s) (λ t. (
      centre_shift k l i j t,
      (centre_shift k l (i +ℤ pos 1) j ∙ ap (λ m. centre m (j +ℤ l)) (next_shift k i)) t,
    )) (shift_meets (pos 128 *ℤ k) (pos 128 *ℤ l) (centre i j) (centre (i +ℤ pos 1) j) s)

any_met_shift : (k l : ℤ) (ss : List Span) (i j : ℤ)
    → AreMet (map (shifted (pos 128 *ℤ k) (pos 128 *ℤ l)) ss) (i +ℤ k) (j +ℤ l) ↔ AreMet ss i j
any_met_shift k l ss i j =
    let move = shifted (pos 128 *ℤ k) (pos 128 *ℤ l) in
    let Here : Span → Type 0 = IsMet (centre i j) (centre (i +ℤ pos 1) j) in
    let There : Span → Type 0 = IsMet (centre (i +ℤ k) (j +ℤ l)) (centre ((i +ℤ k) +ℤ pos 1) (j +ℤ l)) in
    (any_unmap move Here There (λ s. (met_shift k l s i j).0) ss, any_map move Here There (λ s. (met_shift k l s i j).1) ss)

turned_shift : (x y : ℤ) (s : Span) → turned_span (shifted x y s) ≡ shifted y x (turned_span s)
turned_shift x y s = grind (arith, signed_linear)

rows_shift : (closing : Closing) (k l : ℤ) (ss : List Span)
    → AreRowsMoved closing (λ i. i +ℤ k) (λ j. j +ℤ l) ss (map (shifted (pos 128 *ℤ k) (pos 128 *ℤ l)) ss)
rows_shift closing k l ss = record {
  chosen = λ i j. chosen_along closing (map (shifted (pos 128 *ℤ k) (pos 128 *ℤ l)) ss) ss (i +ℤ k) (j +ℤ l) i j
      (covered_shift k l ss i j);
  met = any_met_shift k l ss;
}

pub shift_moves_set : ShiftMovesSet
shift_moves_set closing k l ss f g e =
    set_moved closing (λ i. i +ℤ k) (λ j. j +ℤ l) (next_shift k) (next_shift l) ss
    (map (shifted (pos 128 *ℤ k) (pos 128 *ℤ l)) ss) (IsInFrame f) (IsInFrame g) e (λ i j. shift_moves_bits k l i j ss)
    (rows_shift closing k l ss)
    (subst (AreRowsMoved closing (λ j. j +ℤ l) (λ i. i +ℤ k) (map turned_span ss))
    (sym (turned_map _ _ (turned_shift (pos 128 *ℤ k) (pos 128 *ℤ l)) ss)) (rows_shift closing l k (map turned_span ss)))

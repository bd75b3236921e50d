-- The pieces of an outline that is moved are its pieces moved: `shift_moves_spans`.
-- For the law `shift`.
use Rattle.std.proofs.Common.{◌≡◌, subst, ◌↔◌, ℤ, pos, ◌+ℤ◌, ◌*ℤ◌, [], ◌∷◌, arith}
use Rattle.fx_fixed.specs.Polynomial.{var, num, ◌⊞◌, ◌⊠◌}
use Rattle.fx_fixed.proofs.Ring.{ring}
use Rattle.fx_winding.specs.Area.{Place}
use Rattle.fx_winding.specs.Winding.{IsCovered, centre}
use Rattle.fx_winding.specs.Moves.{shifted_place}
use Rattle.fx_winding.proofs.Shifts.{shift_moves_bits}
use Rattle.fx_outline.specs.declared.points.OutlinePoint.{OutlinePoint}
use Rattle.fx_contour.specs.Moves.{shifted_point, ShiftMovesSpans, ShiftMovesBits}
use Rattle.fx_contour.proofs.Moving.{Follows, moved_spans, drawn_moved}

-- a point, and a place, moved by k pixels to the right and l up
abbrev moved_point : ℤ → ℤ → OutlinePoint → OutlinePoint
moved_point k l = shifted_point (pos 64 *ℤ k) (pos 64 *ℤ l)

abbrev moved_place : ℤ → ℤ → Place → Place
moved_place k l = shifted_place (pos 128 *ℤ k) (pos 128 *ℤ l)

twice_moved : (x k : ℤ) → pos 2 *ℤ (x +ℤ pos 64 *ℤ k) ≡ pos 2 *ℤ x +ℤ pos 128 *ℤ k
twice_moved x k = ring (x ∷ k ∷ []) (num (pos 2) ⊠ (var 0 ⊞ num (pos 64) ⊠ var 1)) (num (pos 2) ⊠ var 0 ⊞ num (pos 128) ⊠ var 1) tt

sum_moved : (x y k : ℤ) → (x +ℤ pos 64 *ℤ k) +ℤ (y +ℤ pos 64 *ℤ k) ≡ (x +ℤ y) +ℤ pos 128 *ℤ k
sum_moved x y k = ring (x ∷ y ∷ k ∷ []) ((var 0 ⊞ num (pos 64) ⊠ var 2) ⊞ (var 1 ⊞ num (pos 64) ⊠ var 2))
    ((var 0 ⊞ var 1) ⊞ num (pos 128) ⊠ var 2)
    tt

follows : (k l : ℤ) → Follows (moved_point k l) (moved_place k l)
follows k l = grind (arith, twice_moved, sum_moved)

pub shift_moves_spans : ShiftMovesSpans
shift_moves_spans k l = moved_spans (moved_point k l) (moved_place k l) (follows k l)

pub shift_moves_bits_of : ShiftMovesBits
shift_moves_bits_of k l i j ends points ss ts h m =
    subst (λ xs. IsCovered (centre (i +ℤ k) (j +ℤ l)) xs ↔ IsCovered (centre i j) ss)
    (drawn_moved (moved_point k l) (moved_place k l) (follows k l) ends points ss ts h m) (shift_moves_bits k l i j ss)

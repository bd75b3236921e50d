-- What a tuple gives to points, and infers of them, leaves their sums as they are, as `moved_kept` says.
-- For `add_tuple`.
use Rattle.std.proofs.Common.{◌≡◌, ℕ, zero, suc, ◌==◌, Bool, true, false, cond, ℤ, List, [], ◌∷◌, length}
use Rattle.std.proofs.Common.{map}
use Rattle.std.proofs.Common.{Option, Some, None, refl, ap, ◌∙◌}
use Rattle.std.specs.Prelude.{option_map, slice_get}
use Rattle.fx_moves.specs.declared.point.GivenPoint.{GivenPoint}
use Rattle.fx_moves.specs.Giving.{cleared, moved_by, with_point, one_given, all_given}
use Rattle.fx_between.specs.Contours.{contours_filled}
use Rattle.fx_between.proofs.Contouring.{contours_kept}
use Rattle.fx_moves.specs.Inferred.{is_named, between}
use Rattle.fx_moves.specs.Adding.{sums}
use Rattle.fx_tuples.specs.Tuples.{PointNumbersView}
use Rattle.fx_moves.specs.Moves.{count_up, points_moved}

clear_kept : (ps : List GivenPoint) → sums (map cleared ps) ≡ sums ps
clear_kept [] = refl
clear_kept (p ∷ ps) = ap (λ (l : List ℤ). p.sum ∷ l) (clear_kept ps)

one_kept : (d : ℤ) (n : ℕ) (ps : List GivenPoint) → sums (one_given n d ps) ≡ sums ps
unfolding one_given
one_kept d n [] = refl
one_kept d zero (p ∷ ps) = refl
one_kept d (suc n) (p ∷ ps) = lift (slice_get ps n) (one_kept d n ps)
  where
    lift : (o : Option GivenPoint) → sums (with_point n ps (option_map (moved_by d) o)) ≡ sums ps
        → sums (with_point (suc n) (p ∷ ps) (option_map (moved_by d) o)) ≡ sums (p ∷ ps)
    lift None e = refl
    lift (Some q) e = ap (λ (l : List ℤ). p.sum ∷ l) e

all_kept : (ns : List ℕ) (ds : List ℤ) (ps : List GivenPoint) → sums (all_given ns ds ps) ≡ sums ps
unfolding all_given
all_kept [] ds ps = refl
all_kept (n ∷ ns) [] ps = refl
all_kept (n ∷ ns) (d ∷ ds) ps = all_kept ns ds (one_given n d ps) ∙ one_kept d n ps

between_kept : (a b p : GivenPoint) → (between a b p).sum ≡ p.sum
unfolding between
between_kept a b p = refl

pub moved_kept : (ends : List ℕ) (n : PointNumbersView) (ds : List ℤ) (ps : List GivenPoint)
    → sums (points_moved ends n ds ps) ≡ sums ps
unfolding points_moved
moved_kept ends n ds ps = by (n.count == 0)
  where
    by : (b : Bool) → sums (cond b (all_given (count_up 0 (length ps)) ds (map cleared ps))
        (contours_filled is_named between ends (length ends) (all_given n.list ds (map cleared ps)))) ≡ sums ps
    by true = all_kept (count_up 0 (length ps)) ds (map cleared ps) ∙ clear_kept ps
    by false =
        contours_kept is_named between (λ (p : GivenPoint). p.sum) between_kept ends (length ends)
        (all_given n.list ds (map cleared ps)) ∙ all_kept n.list ds (map cleared ps) ∙ clear_kept ps

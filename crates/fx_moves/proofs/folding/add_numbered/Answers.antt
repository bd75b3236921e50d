use Rattle.std.proofs.Common.{ℤ, List, length, sym, ap, ◌∙◌, subst, arith}
use Rattle.std.proofs.lemmas.List.{length-map}
use Rattle.fx_moves.specs.Adding.{AreWithin, sums}
use Rattle.fx_moves.proofs.Kept.{moved_kept}
use Rattle.fx_moves.proofs.Sums.{grown, within_more}
use Rattle.fx_moves.proofs.folding.add_numbered.Goals as goal

pub add-requires-clause-room : goal.add-requires-clause-room
add-requires-clause-room c =
    let P : List ℤ → Type 0 = AreWithin 32767 in
    subst P (sym (ap sums c.move_points.ensures ∙ moved_kept _ _ _ _)) c.requires.room

pub returns-clause-grown : goal.returns-clause-grown
returns-clause-grown c = λ n w.
    let P : List ℤ → Type 0 = AreWithin n in
    grown n _ _ (ap length c.add.ensures.value ∙ length-map _ _) c.add.ensures.near
    (subst P (sym (ap sums c.move_points.ensures ∙ moved_kept _ _ _ _)) w)

pub returns-in_err-deltas-clause-grown : goal.returns-in_err-deltas-clause-grown
returns-in_err-deltas-clause-grown c = λ n w. within_more _ _ _ (omega arith) w

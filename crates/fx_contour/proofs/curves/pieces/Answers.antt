use Rattle.std.proofs.Common.{arith}
use Rattle.fx_contour.proofs.Decided.{drawn_near, drawn_far}
use Rattle.fx_contour.proofs.curves.pieces.Goals as goal

pub returns-then-not-are_in_reach-clause-exact : goal.returns-then-not-are_in_reach-clause-exact
returns-then-not-are_in_reach-clause-exact c =
    grind (arith, c.deref.ensures.value, c.are_in_reach.ensures, c.if-not-are_in_reach.true, drawn_far)

pub returns-clause-exact : goal.returns-clause-exact
returns-clause-exact c =
    let a = c.deref.ensures.value in let b = c.are_in_reach.ensures in let d = c.if-not-are_in_reach.false in
    let e = c.in_ok-pieces_in_reach.ensures.ok in grind (arith, drawn_near)

use Rattle.std.proofs.Common.{◌∙◌, subst}
use Rattle.fx_winding.specs.Area.{Place}
use Rattle.fx_winding.specs.Winding.{span_of}
use Rattle.fx_dropout.specs.inner.Pairs.{seen_span}
use Rattle.fx_dropout.specs.inner.Places.{IsMissed, IsPieceAdded}
use Rattle.fx_dropout.proofs.Adding.{centre_held, missed_added}
use Rattle.fx_dropout.proofs.nearer.add_piece.Goals as goal

pub returns-then-is_missed-clause-added : goal.returns-then-is_missed-clause-added
returns-then-is_missed-clause-added c = λ n l.
    let s = seen_span c.args.is_turned (span_of c.args.piece.now) in
    let at = c.centre_of-first.ensures ∙ centre_held c.args.pair in
    missed_added s c.args.pair.col c.args.pair.row n _ _
    (subst (λ (p : Place). IsMissed p s) at (c.is_missed.ensures.0 c.if-is_missed.true))

pub returns-clause-added : goal.returns-clause-added
returns-clause-added c =
    subst (λ s. IsPieceAdded c.args.pair s c.args.places.now c.add_near.new.places) c.seen.ensures.value c.add_near.ensures.added

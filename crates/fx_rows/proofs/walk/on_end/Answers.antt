use Rattle.std.proofs.Common.{◌≡◌, ℕ, Bool, true, false, not, arith}
use Rattle.fx_winding.specs.Winding.{span_of}
use Rattle.fx_rows.specs.inner.Cuts.{IsLast}
use Rattle.fx_rows.proofs.Contacts.{none_on}
use Rattle.fx_rows.proofs.Walks.{step_before, spot_within}
use Rattle.fx_rows.proofs.walk.on_end.Goals as goal

-- the column beside the end
column_at : (r : Bool) (end k : ℕ) → not r ≡ true → IsLast r end k → k ≡ end
column_at false end k e l = l
column_at true end k e l = absurd (cc)

pub on_column-requires-clause-only : goal.on_column-requires-clause-only
on_column-requires-clause-only c = λ k m on.
    let h = c.requires.only k m on in (column_at c.args.cuts.arc.right c.args.cuts.spot.k k c.if-not-arc-2.true h.0, h.1)

pub returns-then-end-eq0-clause-on : goal.returns-then-end-eq0-clause-on
returns-then-end-eq0-clause-on c = grind (arith, c.if-not-arc-2.false, c.requires.only, c.if-end-eq0.true, none_on)

pub on_column-requires-2-clause-only : goal.on_column-requires-2-clause-only
on_column-requires-2-clause-only c = grind (arith, c.requires.only, c.if-not-arc-2.false, c.beside-last.ensures.column)

pub beside-last-requires-clause-step : goal.beside-last-requires-clause-step
beside-last-requires-clause-step c =
    step_before (span_of c.args.piece.now) _ c.args.cuts.spot.k c.args.cuts.arc.next c.reversed.result (omega arith)
    c.requires.at.arc.next c.reversed.ensures

pub beside-last-requires-clause-within : goal.beside-last-requires-clause-within
beside-last-requires-clause-within c =
    let within = spot_within c.args.piece.now c.args.strip c.args.cuts.spot c.requires.at.spot in omega (arith, within)

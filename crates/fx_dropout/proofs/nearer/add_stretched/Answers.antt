use Rattle.std.proofs.Common.{◌≡◌, ◌∙◌, refl, subst, ℤ}
use Rattle.fx_rows.specs.Parts.{IsRowPart}
use Rattle.fx_rows.specs.declared.part.RowPart.{RowPart}
use Rattle.fx_winding.specs.declared.frame.Frame.{Frame}
use Rattle.fx_winding.specs.Winding.{Span, span_of}
use Rattle.fx_dropout.specs.inner.Stretched.{stretched_span}
use Rattle.fx_dropout.proofs.Adding.{pair_held, part_added, part_places}
use Rattle.fx_dropout.proofs.nearer.add_stretched.Goals as goal

same_part : (s t : Span) (row r : ℤ) (f : Frame) (part : RowPart) → t ≡ s → r ≡ row → IsRowPart t r f part → IsRowPart s row f part
same_part s t row r f part e d h = subst (λ (z : Span × ℤ). IsRowPart z.0 z.1 f part) (λ i. (e i, d i)) h

pub add_part-requires-clause-places : goal.add_part-requires-clause-places
add_part-requires-clause-places c = part_places _ _ _ c.interval.result refl refl c.interval.ensures.part

pub returns-clause-added : goal.returns-clause-added
returns-clause-added c = λ n l.
    let s = span_of c.args.piece in
    let at = pair_held c.args.pair in
    part_added s c.args.pair.col c.args.pair.row _ c.interval.result n _ _ _ _ l refl refl
    (same_part _ _ _ _ _ _ (c.stretched-wide.ensures ∙ (λ i. stretched_span (at.0 i) s)) at.1 c.interval.ensures.part)
    (c.add_part.ensures.marks n l) (c.add_part.ensures.counts n l)

use Rattle.std.proofs.Common.{◌≡◌, refl, ℕ, ◌+◌}
use Rattle.fx_winding.specs.Winding.{Span, span_of}
use Rattle.fx_dropout.specs.declared.chooser.Closing.{Closing}
use Rattle.fx_raster.specs.declared.rule.Rule.{Rule}
use Rattle.fx_raster.specs.declared.rule.Rule.TheVariants.{Bridged}
use Rattle.fx_raster.specs.Work.{rows_of, columns_of, piece_work}
use Rattle.fx_raster.proofs.work.piece_work.Goals as goal

bridged_work : (rule : Rule) (closing : Closing) (s : Span) (rows columns : ℕ) → rule ≡ Bridged closing → rows ≡ rows_of s
    → columns ≡ columns_of s → 1 + rows + columns ≡ piece_work rule s
bridged_work rule closing s rows columns e r c = rw (e, r, c) refl

pub returns-in-Bridged : goal.returns-in-Bridged
returns-in-Bridged c = bridged_work c.args.rule c.in-Bridged.field-0 (span_of c.args.piece.now) c.rows_of-in-Bridged.result
    c.columns_of.result c.in-Bridged.is c.rows_of-in-Bridged.ensures.value c.columns_of.ensures.value

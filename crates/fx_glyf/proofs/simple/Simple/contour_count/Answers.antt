use Rattle.std.proofs.Common.{length, sym, ap, ◌∙◌}
use Rattle.fx_glyf.specs.Shapes.{SimpleView}
use Rattle.fx_glyf.proofs.Sizes.{length-words}
use Rattle.fx_glyf.proofs.simple.Simple.contour_count.Goals as goal

pub returns : goal.returns
returns c =
    sym (ap (λ (s : SimpleView). length s.ends) (sym c.self.view_is) ∙ length-words _ _)

use Rattle.std.proofs.Common.{refl, sym, ap, ◌∙◌, arith, append-nil}
use Rattle.fx_fixed.specs.Texts.{TextView}
use Rattle.fx_fixed.proofs.Texts.{sent}
use Rattle.fx_fixed.proofs.text.TextWriter.end.Goals as goal

pub returns-in-Ok-clause-adds : goal.returns-in-Ok-clause-adds
returns-in-Ok-clause-adds g c =
    sent c.self.view_is c.in-Ok.ensures (ap (λ (v : TextView). v.waiting) c.self.view_is ∙ sym (append-nil _)) refl
    (omega (arith, c.saturating_add-self-inside.ensures, c.self.ranges))

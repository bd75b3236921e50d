use Rattle.std.proofs.Common.{sym, ap, ◌∙◌, ◌++◌, arith, List, ℕ}
use Rattle.fx_fixed.specs.Texts.{TextView}
use Rattle.fx_fixed.proofs.Texts.{sent}
use Rattle.fx_fixed.proofs.text.TextWriter.put.Goals as goal

pub returns-in-Ok : goal.returns-in-Ok
returns-in-Ok g c =
    sent c.self.view_is c.in-Ok.ensures (ap (λ (t : List ℕ). t ++ c.args.piece.now) (sym c.requires.none))
    (ap (λ (v : TextView). v.waiting) c.self.view_is ∙ c.requires.none)
    (omega (arith, c.saturating_add-self-inside.ensures, c.self.ranges))

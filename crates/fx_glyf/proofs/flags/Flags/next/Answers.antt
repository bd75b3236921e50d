use Rattle.std.proofs.Common.{◌≡◌, ◌-◌, suc, sym, ◌∙◌, arith}
use Rattle.fx_glyf.proofs.Steps.{flags_at, stepped}
use Rattle.fx_glyf.proofs.flags.Flags.next.Goals as goal

pub invariant_of-self : goal.invariant_of-self
invariant_of-self c =
    let more : c.self.inside.left ≡ suc (c.self.inside.left - 1) = omega arith in
    (stepped _ _ _ (flags_at _ _ _ _ more c.next_flag-again.ensures) c.self.invariant).some

pub returns : goal.returns
returns c =
    let more : c.self.inside.left ≡ suc (c.self.inside.left - 1) = omega arith in
    sym c.self.view_is ∙ (stepped _ _ _ (flags_at _ _ _ _ more c.next_flag-again.ensures) c.self.invariant).list

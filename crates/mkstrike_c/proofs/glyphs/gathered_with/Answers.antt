use Rattle.std.proofs.Common.{subst, IfOk}
use Rattle.fx_request.specs.declared.request.OnRefused.TheVariants.{Stop}
use Rattle.fx_strike.specs.Strike.{Setting, bounded_for}
use Rattle.mkstrike_c.specs.declared.gathered.Wanted.{Wanted}
use Rattle.mkstrike_c.specs.inner.Gathering.{AreGathered}
use Rattle.mkstrike_c.proofs.glyphs.gathered_with.Goals as goal

pub returns-clause-gathered : goal.returns-clause-gathered
returns-clause-gathered c =
    let due = bounded_for c.args.striker.now Stop c.args.chars.now in
    let S : Setting → Type 0 = λ s. IfOk c.gather.result (AreGathered s c.args.chars.now c.in_ok-none.none.wanted) in
    let P : Wanted → Type 0 = λ w. IfOk c.gather.result (AreGathered due c.args.chars.now w) in
    subst P c.in_ok-none.ensures.holds.wanted_is (subst S c.in_ok-bound_for.ensures.bounds c.gather.ensures.gathered)

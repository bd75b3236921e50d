use Rattle.std.proofs.Common.{◌∙◌, sym, ap}
use Rattle.fx_request.proofs.Rising.{rising_are_risen}
use Rattle.fx_strike.specs.Strike.{Setting}
use Rattle.fx_strike.proofs.Mapping.{mapped_within}
use Rattle.fx_strike.proofs.Weighing.{mapped_rise, unbounded}
use Rattle.fx_strike.proofs.striker.Striker.bound_chars.Goals as goal

pub bound-requires-clause-few : goal.bound-requires-clause-few
bound-requires-clause-few g c =
    (mapped_within _ c.requires (c.deref.ensures.value ∙ (c.in_ok-characters.ensures).characters.mapped)).few

pub bound-requires-clause-rise : goal.bound-requires-clause-rise
bound-requires-clause-rise g c =
    rw (c.deref.ensures.value ∙ (c.in_ok-characters.ensures).characters.mapped)
    (mapped_rise _ _ (rising_are_risen c.args.chars.now).rise)

pub returns-clause-bounds : goal.returns-clause-bounds
returns-clause-bounds g c =
    let b = (c.in_ok-bound-2.ensures).bounds in
    let free = ap (λ (s : Setting). s.careful) (sym c.self.view_is) ∙ c.if-self.false in
    (b.0 ∙ unbounded c.args.self.now c.args.refused _ _ free, b.1)

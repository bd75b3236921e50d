use Rattle.std.proofs.Common.{◌∙◌, ap, rules, pos}
use Rattle.fx_strike.proofs.Making.{most, pixels_are}
use Rattle.fx_strike.proofs.opened.pixels.Goals as goal

pub returns : goal.returns
returns c =
    pixels_are c.args.units c.args.ppem c.args.em c.from.result c.from-2.result c.from-3.result c.near.result c.ranges.units
    c.requires.units (most c.pixels.ensures.value c.pixels.ensures.valid) (search rules)
    c.from.ensures (c.from-2.ensures ∙ ap pos c.pixels.ensures.value) c.from-3.ensures
    c.near.ensures.value c.near.ensures.bound

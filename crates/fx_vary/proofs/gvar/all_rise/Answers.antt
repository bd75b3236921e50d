use Rattle.std.proofs.Common.{◌∙◌, sym, ap}
use Rattle.fx_axes.proofs.Sweeps.{all_on, all_miss, all_end}
use Rattle.fx_vary.specs.Gvar.{rises}
use Rattle.fx_vary.proofs.Offsets.{offsets_inside}
use Rattle.fx_vary.proofs.gvar.all_rise.Goals as goal

pub rises-requires-clause-inside : goal.rises-requires-clause-inside
rises-requires-clause-inside c =
    offsets_inside c.args.gvar.now _ _ c.args.glyphs c.requires.offsets c.from.ensures c.glyphs-test.true

pub returns-then-not-rises : goal.returns-then-not-rises
returns-then-not-rises c =
    all_miss (rises c.args.gvar.now) c.glyphs.g c.args.glyphs c.glyphs-test.true
    (ap (rises c.args.gvar.now) (sym c.from.ensures) ∙ sym c.rises.ensures ∙ c.if-not-rises.true) c.glyphs.invariant

pub glyphs-preserved : goal.glyphs-preserved
glyphs-preserved c =
    all_on (rises c.args.gvar.now) c.glyphs.g c.args.glyphs c.glyphs-test.true
    (ap (rises c.args.gvar.now) (sym c.from.ensures) ∙ sym c.rises.ensures ∙ c.if-not-rises.false) c.glyphs.invariant

pub returns : goal.returns
returns c = all_end (rises c.args.gvar.now) c.glyphs.g c.args.glyphs c.glyphs-test.false c.glyphs.invariant

use Rattle.std.proofs.Common.{sym, ◌∙◌}
use Rattle.fx_strike.proofs.Mapping.{mapped_run}
use Rattle.fx_strike.proofs.characters.look_up.Goals as goal

pub codes-preserved-then-glyph-eq0 : goal.codes-preserved-then-glyph-eq0
codes-preserved-then-glyph-eq0 c =
    let map = c.glyph-glyph.ensures.kept ∙ c.codes.invariant.map in
    let first = sym (rw c.codes.invariant.map at c.glyph-glyph.ensures.value) ∙ c.if-glyph-eq0.true in
    let gap = rw map at c.gap_end-end.ensures in
    record {
      map = map;
      within = c.run_below-k.ensures.within;
      found = c.codes.invariant.found ∙ sym (mapped_run c.args.map.now c.args.codes.now c.codes.k c.run_below-k.result
          c.gap_end-end.result c.requires.rise c.run_below-k.ensures.further c.run_below-k.ensures.within first gap
          c.run_below-k.ensures.below);
    }

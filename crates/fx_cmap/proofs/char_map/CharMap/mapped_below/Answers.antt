use Rattle.std.proofs.Common.{◌≡◌, ◌∙◌, refl, ap, sym, subst, arith, ℕ, List, length}
use Rattle.fx_cmap.specs.Lookup.{glyph_for}
use Rattle.fx_cmap.specs.Mapped.{mapped_below}
use Rattle.fx_cmap.specs.declared.mapping.Mapping.{Mapping}
use Rattle.fx_cmap.proofs.AllMapped.{Fills, fills_none, filled_all, filled_some, mapped_after}
use Rattle.fx_cmap.proofs.char_map.CharMap.mapped_below.Goals as goal

pub codes-init : goal.codes-init
unfolding mapped_below
codes-init c = record {
  same = c.cursor-cursor.ensures;
  within = omega arith;
  counted = refl;
  few = omega arith;
  filled = fills_none c.args.codes.now;
}

pub codes-preserved-then-glyph-ne0 : goal.codes-preserved-then-glyph-ne0
codes-preserved-then-glyph-ne0 c =
    let at : c.glyph.result ≡ glyph_for c.args.self.now c.codes.code =
    c.glyph.ensures.value ∙ ap (λ (m : Mapping). glyph_for m c.codes.code) c.codes.invariant.same in
    let more = filled_some c.args.self.now c.codes.code c.codes.count c.args.codes.now c.codes.codes c.put.new.codes
    (λ z. c.if-glyph-ne0.true (at ∙ z)) c.codes.invariant.counted c.codes.invariant.filled c.put.ensures in
    record {
      same = c.glyph.ensures.kept ∙ c.codes.invariant.same;
      within = omega (arith, c.codes-test.true);
      counted = more.0;
      few = omega (arith, c.codes.invariant.few);
      filled = more.1;
    }

pub codes-preserved : goal.codes-preserved
codes-preserved c =
    let at : glyph_for c.args.self.now c.codes.code ≡ c.glyph.result =
    sym (c.glyph.ensures.value ∙ ap (λ (m : Mapping). glyph_for m c.codes.code) c.codes.invariant.same) in
    let same = c.glyph.ensures.kept ∙ c.codes.invariant.same in
    let more = sym (mapped_after c.args.self.now c.codes.code c.gap_end.result c.next_after-code.result
    (at ∙ c.if-glyph-ne0.false) (λ k low high. ap (λ (m : Mapping). glyph_for m k) (sym same) ∙ c.gap_end.ensures k low high)
    c.next_after-code.ensures.above c.next_after-code.ensures.gap) in
    let above = c.next_after-code.ensures.above in
    record {
      same = same;
      within = c.next_after-code.ensures.within;
      counted = c.codes.invariant.counted ∙ ap length more;
      few = omega (arith, c.codes.invariant.few, above);
      filled = subst (λ (xs : List ℕ). Fills xs c.args.codes.now c.codes.codes) more c.codes.invariant.filled;
    }

pub returns : goal.returns
returns c =
    let end : c.codes.code ≡ c.args.end = omega (arith, c.codes-test.false, c.codes.invariant.within) in
    let all = filled_all c.args.self.now c.codes.code c.args.end c.codes.count c.args.codes.now c.codes.codes end
    c.codes.invariant.counted c.codes.invariant.filled in
    record { count = all.0; front = all.1; rest = all.2 }

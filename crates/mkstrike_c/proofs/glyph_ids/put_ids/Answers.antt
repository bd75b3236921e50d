use Rattle.std.proofs.Common.{◌≡◌, ◌∙◌, ◌<◌, arith, length, min}
use Rattle.std.proofs.lemmas.List.{length-set}
use Rattle.fx_cmap.specs.Lookup.{glyph_for}
use Rattle.mkstrike_c.proofs.Ids.{front_more, rest_more, ids_front}
use Rattle.mkstrike_c.proofs.glyph_ids.put_ids.Goals as goal

pub chars-preserved : goal.chars-preserved
chars-preserved c =
    let room : c.chars.i < length c.chars.glyphs = omega (arith, c.chars.invariant.same, c.chars-test.true) in
    record {
      same = length-set c.chars.glyphs c.chars.i c.glyph.result ∙ c.chars.invariant.same;
      front = front_more (glyph_for c.args.char_map.now) c.args.chars.now c.chars.glyphs c.chars.i 0 c.glyph.result
          (omega (arith, c.chars-test.true)) room c.glyph.ensures c.chars.invariant.front;
      rest = rest_more c.chars.glyphs c.args.glyphs.now c.chars.i c.glyph.result room c.chars.invariant.rest;
    }

pub returns : goal.returns
returns c =
    let end : c.chars.i ≡ min (length c.args.chars.now) (length c.args.glyphs.now) = omega (arith, c.chars-test.false) in
    ids_front (glyph_for c.args.char_map.now) c.args.chars.now c.args.glyphs.now c.chars.glyphs c.chars.i
    c.chars.invariant.same end c.chars.invariant.front c.chars.invariant.rest

use Rattle.std.proofs.Common.{◌≡◌, length, map, take, drop}
use Rattle.fx_cmap.specs.Lookup.{glyph_for}
use Rattle.mkstrike_c.proofs.glyph_ids.put_ids.Given as goal

-- the numbers so far are at the front
abbrev pub invariant-chars : goal.invariant-chars
invariant-chars l = record {
  same : length l.glyphs ≡ length l.initial.glyphs;
  front : take l.i l.glyphs ≡ map (glyph_for l.char_map) (take l.i l.chars);
  rest : drop l.i l.glyphs ≡ drop l.i l.initial.glyphs;
}

-- The offsets of a glyph's data lie in the table, as `offsets_inside` says.
-- For `all_rise`, `ends_inside` and `glyph_data`.
use Rattle.std.proofs.Common.{◌≡◌, ℕ, ◌+◌, ◌*◌, ◌<◌, ◌≤◌, true, List, length, sym, arith, mul-le-mul_left}
use Rattle.std.specs.Prelude.{nat_le, ◌&&◌, ◌==◌}
use Rattle.std.proofs.lemmas.Bool.{leb-true, eqb-true, and_parts}
use Rattle.fx_sfnt.specs.Fields.{field}
use Rattle.fx_axes.specs.Sweeps.{all_from}
use Rattle.fx_vary.specs.Gvar.{offset_size, holds_offsets, shared_size, data_start, glyph_count, is_header, is_gvar, rises}

pub offsets_inside : (gvar : List ℕ) (k g glyphs : ℕ) → holds_offsets glyphs gvar ≡ true → k ≡ g → g < glyphs
    → 20 + offset_size gvar * (k + 2) ≤ length gvar
offsets_inside gvar k g glyphs e i h =
    let a : 20 + offset_size gvar * (glyphs + 1) ≤ length gvar = leb-true _ _ e in
    let few : k + 2 ≤ glyphs + 1 = omega (arith, i, h) in
    omega (arith, a, mul-le-mul_left (offset_size gvar) few)

pub last_inside : (gvar : List ℕ) (k glyphs : ℕ) → holds_offsets glyphs gvar ≡ true → k ≡ glyphs
    → 20 + offset_size gvar * (k + 1) ≤ length gvar
last_inside gvar k glyphs e i =
    let a : 20 + offset_size gvar * (glyphs + 1) ≤ length gvar = leb-true _ _ e in
    let few : k + 1 ≤ glyphs + 1 = omega (arith, i) in
    omega (arith, a, mul-le-mul_left (offset_size gvar) few)

-- a table that is read has as many glyphs as the font
pub counted : (axes glyphs : ℕ) (gvar : List ℕ) → is_gvar axes glyphs gvar ≡ true → glyphs ≡ glyph_count gvar
unfolding is_gvar is_header
counted axes glyphs gvar e =
    let sizes = nat_le (field 4 gvar 8 + shared_size axes gvar) (length gvar) in
    let head = nat_le 20 (length gvar) && is_header axes glyphs gvar in
    let all = head && sizes && holds_offsets glyphs gvar in
    let a = and_parts (all && all_from (rises gvar) 0 glyphs) (nat_le (data_start gvar glyphs) (length gvar)) e in
    let b = and_parts all (all_from (rises gvar) 0 glyphs) a.0 in
    let c = and_parts (head && sizes) (holds_offsets glyphs gvar) b.0 in
    let d = and_parts head sizes c.0 in
    let f = and_parts (nat_le 20 (length gvar)) (is_header axes glyphs gvar) d.0 in
    let g = and_parts (field 4 gvar 0 == 0x00010000 && field 2 gvar 4 == axes) (field 2 gvar 12 == glyphs) f.1 in
    sym (eqb-true (field 2 gvar 12) glyphs g.1)

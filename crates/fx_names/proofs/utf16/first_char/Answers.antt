use Rattle.std.proofs.Common.{◌≡◌, ◌∙◌, ◌&&◌, ◌≤◌, sym, arith, length, true, false}
use Rattle.std.specs.Char.Utf16.{is_high_surrogate, is_low_surrogate}
use Rattle.fx_sfnt.specs.Fields.{field}
use Rattle.fx_names.proofs.Units.{chars_last, chars_lone, chars_pair}
use Rattle.fx_names.proofs.utf16.first_char.Goals as goal

pub returns-then-string-lt4-clause-chars : goal.returns-then-string-lt4-clause-chars
returns-then-string-lt4-clause-chars c =
    rw (c.lone_char.ensures, c.u16_in-high.ensures) (chars_last c.args.string.now c.requires c.if-string-lt4.true)

pub returns-then-is_pair-clause-chars : goal.returns-then-is_pair-clause-chars
returns-then-is_pair-clause-chars c =
    let bytes = c.args.string.now in
    let many : 4 ≤ length bytes = omega (arith, c.if-string-lt4.false) in
    let pair : (is_high_surrogate (field 2 bytes 0) && is_low_surrogate (field 2 bytes 2)) ≡ true =
    rw (c.u16_in-high.ensures, c.u16_in-low.ensures) at (sym c.is_pair.ensures ∙ c.if-is_pair.true) in
    rw (c.pair_char.ensures, c.u16_in-high.ensures, c.u16_in-low.ensures) (chars_pair bytes many pair)

pub returns-else-is_pair-clause-chars : goal.returns-else-is_pair-clause-chars
returns-else-is_pair-clause-chars c =
    let bytes = c.args.string.now in
    let many : 4 ≤ length bytes = omega (arith, c.if-string-lt4.false) in
    let apart : (is_high_surrogate (field 2 bytes 0) && is_low_surrogate (field 2 bytes 2)) ≡ false =
    rw (c.u16_in-high.ensures, c.u16_in-low.ensures) at (sym c.is_pair.ensures ∙ c.if-is_pair.false) in
    rw (c.lone_char-else-is_pair.ensures, c.u16_in-high.ensures) (chars_lone bytes many apart)

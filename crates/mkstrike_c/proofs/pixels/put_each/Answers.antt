use Rattle.std.proofs.Common.{◌≡◌, ◌*◌, ◌∙◌, sym, refl, false, arith, length}
use Rattle.std.proofs.lemmas.List.{take_all}
use Rattle.std.proofs.lemmas.List.FromFn.{length-map-range_with_len}
use Rattle.mkstrike_c.specs.Pixels.{row_byte, row_bytes}
use Rattle.mkstrike_c.proofs.Rows.{eight_more}
use Rattle.mkstrike_c.proofs.pixels.put_each.Goals as goal

pub eights-preserved : goal.eights-preserved
eights-preserved c =
    let long = c.eights.invariant.long ∙ c.requires.width in
    record {
      long = c.put_eight.ensures.long ∙ c.eights.invariant.long;
      bytes = eight_more c.args.row.now c.eights.k c.eights.bytes c.put_eight.new.bytes _ long
          c.put_eight.ensures.long (omega (arith, c.eights-test.true, c.requires.width)) refl
          (c.put_eight.ensures.bytes c.args.row.now (8 * c.eights.k) c.byte.ensures) c.eights.invariant.bytes;
    }

pub returns : goal.returns
returns c =
    let all = row_bytes false c.args.row.now in
    let wide : length all ≡ c.args.width =
    length-map-range_with_len (row_byte false c.args.row.now) 0 (length c.args.row.now) ∙ sym c.requires.width in
    let past = c.eights-test.false in
    let long = c.eights.invariant.long in
    sym (take_all (8 * c.eights.k) c.eights.bytes (omega (arith, past, long)))
    ∙ c.eights.invariant.bytes
    ∙ take_all (8 * c.eights.k) all (omega (arith, past, wide))

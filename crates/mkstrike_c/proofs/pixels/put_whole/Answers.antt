use Rattle.std.proofs.Common.{◌+◌, ◌∙◌, ap, false, length}
use Rattle.std.proofs.lemmas.List.FromFn.{length-map-range_with_len}
use Rattle.mkstrike_c.specs.Pixels.{row_byte}
use Rattle.mkstrike_c.proofs.Fours.{upper_four, lower_four, eight_by_fours}
use Rattle.mkstrike_c.proofs.Rows.{put_twice}
use Rattle.mkstrike_c.proofs.pixels.put_whole.Goals as goal

pub returns-clause-bytes : goal.returns-clause-bytes
returns-clause-bytes c =
    λ row k e.
    let upper = c.bytes_of_four.ensures row k (upper_four row k c.args.eight e) in
    let lower = c.bytes_of_four-2.ensures row (k + 4) (lower_four row k c.args.eight e) in
    put_twice c.args.start c.args.bytes.now c.put_over.new.bytes c.put_over-2.new.bytes c.bytes_of_four.result.now
    c.bytes_of_four-2.result.now _ c.requires (ap length upper ∙ length-map-range_with_len (row_byte false row) k 4)
    (ap length lower ∙ length-map-range_with_len (row_byte false row) (k + 4) 4) c.put_over.ensures c.put_over-2.ensures
    (eight_by_fours row k c.bytes_of_four.result.now c.bytes_of_four-2.result.now upper lower)

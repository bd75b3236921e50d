use Rattle.std.proofs.Common.{◌∙◌, true, arith}
use Rattle.std.proofs.lemmas.List.{length-set}
use Rattle.mkstrike_c.specs.Pixels.{row_byte}
use Rattle.mkstrike_c.proofs.Rows.{bytes_more}
use Rattle.mkstrike_c.proofs.pixels.put_packed.Goals as goal

pub bytes-preserved : goal.bytes-preserved
bytes-preserved c = record {
  long = length-set c.bytes.bytes c.bytes.k c.byte.result ∙ c.bytes.invariant.long;
  bytes = bytes_more (row_byte true c.args.row.now) c.bytes.k c.bytes.bytes c.byte.result
      (omega (arith, c.bytes.invariant.long, c.bytes-test.true)) c.byte.ensures c.bytes.invariant.bytes;
}

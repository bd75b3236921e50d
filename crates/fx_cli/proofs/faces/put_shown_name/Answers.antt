use Rattle.std.proofs.Common.{◌∙◌, arith}
use Rattle.std.proofs.lemmas.List.{length-set}
use Rattle.fx_cli.proofs.FaceLines.{byte_shown}
use Rattle.fx_cli.proofs.faces.put_shown_name.Goals as goal

pub bytes-preserved : goal.bytes-preserved
bytes-preserved c =
    let inside = c.bytes.invariant.long in
    let next = byte_shown c.args.name.now _ c.bytes.buffer c.put.new.text c.bytes.i c.shown.result c.put.ensures
    (omega (arith, c.bytes-test.true, c.len-count.ensures))
    (omega (arith, c.bytes-test.true, c.len-count.ensures, inside, c.requires)) c.bytes.invariant.rest c.bytes.invariant.shown
    c.shown.ensures.value in
    record { long = length-set c.bytes.buffer c.bytes.i c.shown.result ∙ inside; shown = next.0; rest = next.1 }

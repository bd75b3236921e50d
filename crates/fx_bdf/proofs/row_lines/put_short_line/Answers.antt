use Rattle.std.proofs.Common.{arith, refl}
use Rattle.std.proofs.lemmas.Simd.{length-put_chunk}
use Rattle.fx_bdf.proofs.Waiting.{lanes_over, line_ended}
use Rattle.fx_bdf.proofs.row_lines.put_short_line.Goals as goal

pub returns-clause-text : goal.returns-clause-text
returns-clause-text c =
    let at = c.args.start in
    let bytes = c.args.bytes.now in
    let word = c.args.word in
    line_ended _ _ _ _ _ _ _ (omega (arith, c.requires.room, c.requires.few, length-put_chunk at bytes word)) (omega arith)
    (lanes_over at c.args.digits _ bytes word word refl (omega (arith, c.requires.word, c.requires.room))
    (omega (arith, c.requires.word, c.requires.few)) refl) c.put_over.ensures

use Rattle.std.proofs.Common.{◌∙◌, ◌++◌, ap, ℕ}
use Rattle.std.specs.Fmt.{decimal}
use Rattle.std.specs.Prelude.{codes}
use Rattle.fx_fixed.specs.Lines.{hexadecimal, line_before}
use Rattle.fx_fixed.proofs.Decimals.{copied_before}
use Rattle.fx_bdf.specs.Glyphs.{Box}
use Rattle.fx_bdf.specs.Text.{box_words, name_prefix}
use Rattle.fx_bdf.proofs.Parts.{head_put, number_before}
use Rattle.fx_bdf.proofs.write.put_head.Goals as goal

pub returns-clause-text : goal.returns-clause-text
returns-clause-text c =
    head_put c.args.glyph.now c.requires c.put.ensures.text
    (c.put-2.ensures.text ∙ ap (λ (b : Box). line_before (box_words b) c.put.new.self) c.bounds.ensures.value)
    (copied_before _ (record { sfits = c.dwidth.type_inv }) c.put_signed.ensures.text c.dwidth.ensures)
    (copied_before _ (record { sfits = c.swidth.type_inv }) c.put_signed-2.ensures.text c.swidth.ensures)
    (number_before decimal _ c.put_unsigned.ensures.text (c.from.ensures ∙ c.code-code.ensures))
    (number_before (hexadecimal 4) _ c.put_hexadecimal.ensures.text (c.from-2.ensures ∙ c.code-code.ensures))
    (ap (λ (n : ℕ). codes "STARTCHAR " ++ name_prefix n) c.code-code.ensures) c.put_start.ensures

pub returns-clause-formed : goal.returns-clause-formed
returns-clause-formed c = c.bounds.ensures.formed

use Rattle.std.proofs.Common.{◌∙◌, ◌*◌, ℕ, ap, sym}
use Rattle.fx_bdf.specs.Glyphs.{Box}
use Rattle.mkstrike_c.specs.Pixels.{stride_of}
use Rattle.mkstrike_c.proofs.Gathering.{pixels_long}
use Rattle.mkstrike_c.proofs.glyph.size.Goals as goal

pub returns-clause-long : goal.returns-clause-long
returns-clause-long c =
    ap (λ (n : ℕ). c.bounds-bounds.result.height * n) c.stride.ensures.value
    ∙ ap (λ (b : Box). b.height * stride_of c.args.packed b.width) c.bounds-bounds.ensures.value
    ∙ sym (pixels_long c.args.packed c.args.glyph.now c.bounds-bounds.ensures.formed)

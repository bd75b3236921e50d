use Rattle.std.proofs.Common.{◌∙◌, ap, arith}
use Rattle.std.proofs.lemmas.List.{length-set}
use Rattle.fx_bdf.specs.Glyphs.{Box}
use Rattle.fx_cli.specs.Pictures.{dot_of}
use Rattle.fx_cli.proofs.Pictures.{dots_more}
use Rattle.fx_cli.proofs.picture.put_dots.Goals as goal

pub pixels-preserved : goal.pixels-preserved
pixels-preserved c =
    let wide = ap (λ (b : Box). b.width) c.bounds-width.ensures.value in
    record {
      long = length-set c.pixels.buffer c.pixels.j c.dot.result ∙ c.pixels.invariant.long;
      dots = dots_more c.args.glyph.now c.args.i c.pixels.j c.pixels.buffer c.dot.result c.bounds-width.ensures.formed c.requires
          (omega (arith, wide))
          (omega (arith, wide, c.bounds-width.ensures.formed.wide, c.pixels.invariant.long))
          (c.dot.ensures ∙ ap dot_of c.pixel.ensures) c.pixels.invariant.dots;
    }

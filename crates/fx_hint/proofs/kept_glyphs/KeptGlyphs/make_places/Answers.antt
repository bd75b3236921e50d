use Rattle.std.proofs.Common.{Option, None}
use Rattle.std.proofs.lemmas.List.{length-replicate}
use Rattle.std.proofs.lemmas.List.Elements.{All-replicate}
use Rattle.fx_hint.specs.Kept.{KeptGlyphView, IsSmall}
use Rattle.fx_hint.specs.Limits.{max_places}
use Rattle.fx_hint.proofs.kept_glyphs.KeptGlyphs.make_places.Goals as goal

pub invariant_of-self-then-is_none-2 : goal.invariant_of-self-then-is_none-2
invariant_of-self-then-is_none-2 c = rw c.empty_places.ensures (
  length-replicate {A = Option KeptGlyphView} max_places None,
  All-replicate IsSmall max_places None tt,
)

use Rattle.std.proofs.Common.{Option, None}
use Rattle.std.proofs.lemmas.List.{length-replicate}
use Rattle.std.proofs.lemmas.List.Elements.{All-replicate}
use Rattle.fx_hint.specs.Kept.{KeptGlyphView, IsSmall, IsTrueOf}
use Rattle.fx_hint.specs.Limits.{max_places}
use Rattle.fx_hint.proofs.kept_glyphs.KeptGlyphs.new.Goals as goal

pub invariant_of-result : goal.invariant_of-result
invariant_of-result c = (
  length-replicate {A = Option KeptGlyphView} max_places None,
  All-replicate IsSmall max_places None tt,
)

pub returns-clause-held : goal.returns-clause-held
returns-clause-held c h = All-replicate (IsTrueOf h) max_places None tt

-- A place that keeps a simple glyph, by its parts.
use Rattle.std.specs.Prelude.{ℕ, List, Option, Some, None, replicate}
use Rattle.fx_zone.specs.declared.point.ZonePoint.{ZonePoint}
use Rattle.fx_hint.specs.declared.kept.KeptFields.{KeptFields}
use Rattle.fx_hint.specs.Kept.{KeptGlyphView}
use Rattle.fx_hint.specs.Limits.{max_places}

-- what a place keeps: nothing, or a glyph by its fields, bytes, points and contours
abbrev pub kept_of : Option KeptFields → List ℕ → List ZonePoint → List ℕ → Option KeptGlyphView
kept_of None bytes points ends = None
kept_of (Some k) bytes points ends = Some (record {
  g = k.g;
  scale = k.scale;
  metrics = k.metrics;
  bytes = bytes;
  made = record { zone = record { points = points; ends = ends }; phantoms = k.phantoms; wish = k.wish };
  usage = k.usage;
})

-- the places: each keeps nothing until the first glyph is kept
abbrev pub places_of : Option (List (Option KeptGlyphView)) → List (Option KeptGlyphView)
places_of None = replicate max_places None
places_of (Some places) = places

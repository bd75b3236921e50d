-- What a strike is called.
use Rattle.std.specs.Prelude.{ℕ, Bool, false, List, []}
use Rattle.fx_bdf.specs.declared.title.Title as code
use Rattle.fx_bdf.specs.Properties.{PropertyView, seen_properties}
use Rattle.fx_request.specs.declared.request.Request.{Request}

-- a strike's name, its given properties beside FONT_ASCENT and FONT_DESCENT, and whether it has those of X11 too
pub record Title : Type 0 where
  pub name : List ℕ
  pub properties : List PropertyView
  pub x11 : Bool

-- what the code holds of it
abbrev pub titled : code.Title → Title
titled title = record { name = title.name.now; properties = seen_properties title.properties.now; x11 = title.x11 }

-- that of a request
abbrev pub title_of : Request → Title
title_of request = titled request.title

-- an empty name, and no properties
abbrev pub no_title : Title
no_title = record { name = []; properties = []; x11 = false }

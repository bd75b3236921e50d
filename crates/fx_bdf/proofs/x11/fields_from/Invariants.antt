use Rattle.std.proofs.Common.{◌≡◌, ◌-◌}
use denote.Text.{Utf8}
use denote.Shadow.{shadow}
use Rattle.fx_bdf.specs.X11.{fields_from}
use Rattle.fx_bdf.proofs.x11.fields_from.Given as goal

-- `rest` is text, and begins at field i
abbrev pub invariant-fields : goal.invariant-fields
invariant-fields l = shadow (Utf8 l.rest) × (fields_from (l.n - l.i) l.rest ≡ fields_from l.n l.text)

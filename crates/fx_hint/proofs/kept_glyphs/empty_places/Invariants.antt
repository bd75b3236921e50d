use Rattle.std.proofs.Common.{◌≡◌, ◌+◌, ◌-◌, ◌≤◌, replicate, None, vec_len, vec_capacity}
use Rattle.fx_hint.specs.declared.kept_glyphs.TheConstants.{PLACES}
use Rattle.fx_hint.proofs.kept_glyphs.empty_places.Given as goal

abbrev pub invariant-places : goal.invariant-places
invariant-places l = record {
  done : l.places.items ≡ replicate l._number None;
  room : vec_len l.places + (PLACES - l._number) ≤ vec_capacity l.places;
}

-- Hinting by the programs of a font.
-- Apple TrueType Reference Manual, "Instructing TrueType Glyphs": phantom points; "The Instruction Set": INSTCTRL.
use Rattle.std.specs.Prelude.{◌≡◌, ◌⊎◌, ℕ, ◌+◌, List, [], length, take, true, false, ◌||◌, nat_eq}
use Rattle.std.specs.Prelude.{if◌then◌else◌, Option, Some, None, slice_get}
use Rattle.std.specs.Prelude.{Result, Ok, Err}
use Rattle.fx_fixed.specs.Chain.{◌>>=◌, map_fault}
use Rattle.fx_fixed.specs.Places.{origin}
use Rattle.fx_zone.specs.declared.point.ZonePoint.{ZonePoint}
use Rattle.fx_zone.specs.Points.{resting}
use Rattle.fx_zone.specs.Figures.{Figure, joined}
use Rattle.fx_scale.specs.declared.phantom.PhantomPoints.{PhantomPoints}
use Rattle.fx_scale.specs.Phantoms.{in_order}
use Rattle.fx_gstate.specs.declared.scan.ScanType.{ScanType}
use Rattle.fx_gstate.specs.Scan.{wish_of}
use Rattle.fx_machine.specs.Known.{Known, glyph_ran, glyph_run_events}
use Rattle.fx_machine.specs.Events.{Event, Watches}
use Rattle.fx_machine.specs.declared.usage.Usage.{Usage}
use Rattle.fx_hint.specs.declared.made.Made.{Made}
use Rattle.fx_hint.specs.declared.fault.HintFault.{HintFault}
use Rattle.fx_hint.specs.declared.fault.HintFault.TheVariants.{Halted, OutOfMemory}
use Rattle.fx_machine.specs.Usages.{no_usage}
use Rattle.fx_hint.specs.Hinting.{Hinting}

-- a glyph's points with its phantom points after them, as its program sees them
abbrev pub with_phantoms : Made → Figure
with_phantoms made = joined made.zone (record { points = in_order made.phantoms; ends = [] })

-- a point that is there
abbrev pub point_or : Option ZonePoint → ZonePoint
point_or (Some p) = p
point_or None = resting origin false

-- the point of a number
abbrev pub point_at : List ZonePoint → ℕ → ZonePoint
point_at points n = point_or (slice_get points n)

-- the four points from a number on
abbrev pub phantoms_at : List ZonePoint → ℕ → PhantomPoints
phantoms_at points first = record {
  origin = point_at points first;
  advance = point_at points (first + 1);
  ascender = point_at points (first + 2);
  descender = point_at points (first + 3);
}

-- n points and the four phantom points after them, taken apart, with what was asked of drop-out control
abbrev pub parted : ℕ → Option ScanType → Figure → Made
parted n wish f =
    record { zone = record { points = take n f.points; ends = f.ends }; phantoms = phantoms_at f.points n; wish = wish }

-- the program of a glyph runs on its points: the points after it, with what it left asked for, and what it used up; or a halt
unfoldable pub program_run : Known → ℕ → List ℕ → Made → Result (Made × Usage) HintFault
program_run known g code made = do
  r ← map_fault Halted (glyph_ran known g code (with_phantoms made))
  Ok (parted (length made.zone.points) r.0.wish r.1, r.0.usage)

-- no program runs if there are no bytes, or if prep set the first flag of INSTCTRL; then it is what prep left asked for
unfoldable pub hinted : Known → ℕ → List ℕ → Made → Result (Made × Usage) HintFault
hinted known g code made =
    if known.prepared.flags.no_programs || nat_eq (length code) 0
    then Ok (record made { wish = wish_of known.prepared.graphics }, no_usage)
    else program_run known g code made

-- what a watcher sees of it
unfoldable pub program_events : Known → ℕ → List ℕ → Made → List Event
program_events known g code made = glyph_run_events known g code (with_phantoms made)

unfoldable pub hinted_events : Known → ℕ → List ℕ → Made → List Event
hinted_events known g code made =
    if known.prepared.flags.no_programs || nat_eq (length code) 0 then [] else program_events known g code made

-- a watcher has seen these events; if memory runs out, these or none
abbrev pub HasSeen : {W Y : Type 0} → (W → Event → W → Type 0) → W → W → Result Y HintFault → List Event → Type 0
HasSeen Sees was now (Err OutOfMemory) events = (now ≡ was) ⊎ Watches Sees was events now
HasSeen Sees was now _ events = Watches Sees was events now

-- hinting by the programs of a font at a size, with what fpgm and prep left
abbrev pub hinting_of : Known → Hinting
hinting_of known = record { on = true; run = hinted known }

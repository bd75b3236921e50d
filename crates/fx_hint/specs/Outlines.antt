-- The outline of a glyph at a size, by recursion on components, or the first cause why there is none (OpenType, `glyf`).
use Rattle.std.specs.Prelude.{ℕ, zero, suc, ◌+◌, ◌≤◌, List, [], ◌∷◌, map, length, ℤ, Bool, nat_lt, nat_le, Option, None, Result, Ok, Err}
use Rattle.fx_fixed.specs.Numbers.{difference_of}
use Rattle.fx_fixed.specs.Chain.{◌>>=◌, refuse, map_fault}
use Rattle.fx_vary.specs.declared.metrics.Bearings.{Bearings}
use Rattle.fx_sfnt.specs.Tables.{Face}
use Rattle.fx_hint.specs.Shapes.{Shapes, shapes_of}
use Rattle.fx_glyf.specs.declared.component.Component.{Component}
use Rattle.fx_glyf.specs.declared.glyph.Glyph as glyf
use Rattle.fx_glyf.specs.declared.glyph.Glyph.TheVariants.{Empty, Simple, Composite}
use Rattle.fx_glyf.specs.Shapes.{SimpleView}
use Rattle.fx_zone.specs.declared.point.ZonePoint.{ZonePoint}
use Rattle.fx_zone.specs.Figures.{empty_figure}
use Rattle.fx_scale.specs.declared.scale.Scale.{Scale}
use Rattle.fx_scale.specs.Scaling.{scale_of}
use Rattle.fx_scale.specs.Phantoms.{phantoms_from}
use Rattle.fx_scale.specs.Zones.{zone_of_simple}
use Rattle.fx_gstate.specs.declared.scan.ScanType.{ScanType}
use Rattle.fx_machine.specs.declared.halt.MachineFault.{MachineFault}
use Rattle.fx_machine.specs.declared.halt.MachineFault.TheVariants as machine_fault
use Rattle.fx_machine.specs.Known.{machine_of}
use Rattle.fx_hint.specs.declared.count.Count.{Count}
use Rattle.fx_machine.specs.declared.usage.Usage.{Usage}
use Rattle.fx_hint.specs.declared.made.Made.{Made}
use Rattle.fx_outline.specs.declared.points.OutlinePoint.{OutlinePoint}
use Rattle.fx_hint.specs.declared.glyph_outline.GlyphOutline.{GlyphOutline}
use Rattle.fx_hint.specs.declared.fault.HintFault.{HintFault}
use Rattle.fx_hint.specs.declared.fault.HintFault.TheVariants.{ComponentDepth, TooManyComponents, TooManyPoints}
use Rattle.fx_hint.specs.declared.fault.HintFault.TheVariants.{Halted, OutOfMemory}
use Rattle.fx_outline.specs.Limits.{max_points}
use Rattle.fx_hint.specs.Limits.{max_components, max_depth}
use Rattle.fx_outline.specs.Ends.{AreEnds}
use Rattle.fx_machine.specs.Usages.{no_usage, usage_with}
use Rattle.fx_hint.specs.Hinting.{Hinting, no_hinting}
use Rattle.fx_hint.specs.Programmed.{hinting_of}
use Rattle.fx_hint.specs.Placing.{with_component}

-- what assembles a component, from its glyph and the counts so far
abbrev pub Maker : Type 0
Maker = ℕ → Count → Result (Made × Count) HintFault

-- one component record more: at most max_components below the root
unfoldable pub one_component : ℕ → Count → Result Count HintFault
one_component root count = do
  _ ← refuse (nat_le max_components count.records) (TooManyComponents root)
  Ok (record count { records = count.records + 1 })

-- n points more: at most max_points in the outline of the root
unfoldable pub more_points : ℕ → ℕ → Count → Result Count HintFault
more_points root n count = do
  _ ← refuse (nat_lt max_points (count.points + n)) (TooManyPoints root)
  Ok (record count { points = count.points + n })

-- a simple glyph scaled: its points and its phantom points
abbrev pub scaled_simple : Scale → Bool → Bearings → SimpleView → Made
scaled_simple s hinted m shape =
    record { zone = zone_of_simple s shape; phantoms = phantoms_from s hinted m.origin m.advance; wish = None }

-- a simple glyph, before its program runs
unfoldable pub simple_made : Scale → Bool → ℕ → Bearings → SimpleView → Count → Result (Made × Count) HintFault
simple_made s hinted root m shape count = do
  counted ← more_points root (length shape.points) count
  Ok (scaled_simple s hinted m shape, counted)

-- the program of a glyph runs on its points and phantom points; what it uses up is counted
unfoldable pub run_on : Hinting → ℕ → List ℕ → Made × Count → Result (Made × Count) HintFault
run_on h g code made = do
  ran ← h.run g code made.0
  Ok (ran.0, record made.1 { usage = usage_with made.1.usage ran.1 })

-- the components of a composite g in order, each assembled
unfoldable pub with_components : Scale → Bool → Maker → ℕ → List Component → Made → Count → Result (Made × Count) HintFault
with_components s hinted make g [] base count = Ok (base, count)
with_components s hinted make g (component ∷ components) base count = do
  made ← make component.glyph count
  more ← with_component s hinted g component base made.0
  with_components s hinted make g components more made.1

-- a glyph that has been read, assembled by its rule
unfoldable pub made_of : Hinting → Scale → ℕ → Maker → ℕ → Bearings → glyf.Glyph → Count → Result (Made × Count) HintFault
made_of h s root make g m Empty count =
    Ok (record { zone = empty_figure; phantoms = phantoms_from s h.on m.origin m.advance; wish = None }, count)
made_of h s root make g m (Simple shape) count = do
  made ← simple_made s h.on root m shape count
  run_on h g shape.code made
made_of h s root make g m (Composite assembly) count = do
  made ← with_components s h.on make g assembly.components
      (record { zone = empty_figure; phantoms = phantoms_from s h.on m.origin m.advance; wish = None }) count
  run_on h g assembly.code made

-- a glyph: what it is in the font, and then itself
unfoldable pub assembled : Hinting → Shapes → Scale → ℕ → Maker → ℕ → Count → Result (Made × Count) HintFault
assembled h font s root make g count = do
  shape ← font g
  made_of h s root make g shape.bearings shape.glyph count

-- a component, with this number of levels allowed from here on
unfoldable pub component : Hinting → Shapes → Scale → ℕ → ℕ → ℕ → Count → Result (Made × Count) HintFault
component h font s root zero = λ g count. Err (ComponentDepth g)
component h font s root (suc levels) = λ g count.
    one_component root count >>= λ counted. assembled h font s root (component h font s root levels) g counted

-- before the walk
abbrev pub nothing_counted : Count
nothing_counted = record { records = 0; points = 0; usage = no_usage }

-- a root, at depth 0: components lie at depth max_depth at most; and what all programs together used up
unfoldable pub root_made : Hinting → Shapes → Scale → ℕ → Result (Made × Usage) HintFault
root_made h font s g = do
  made ← assembled h font s g (component h font s g max_depth) g nothing_counted
  Ok (made.0, made.1.usage)

-- what a glyph's outline is seen as
pub record GlyphOutlineView : Type 0 where
  pub points : List OutlinePoint
  pub ends : List ℕ
  pub advance : ℤ
  pub usage : Usage
  pub wish : Option ScanType

abbrev pub view_of_glyph_outline : GlyphOutline → GlyphOutlineView
view_of_glyph_outline g = record {
  points = g.outline.points.items;
  ends = g.outline.ends.items;
  advance = g.advance;
  usage = g.usage;
  wish = g.wish;
}

-- a point of an outline: its current place, moved so that the first phantom point lies at x = 0
abbrev pub moved_point : ℤ → ZonePoint → OutlinePoint
moved_point origin p = record { x = difference_of p.cur.x origin; y = p.cur.y; on_curve = p.on }

-- the outline moved; its advance is the second phantom point's x from the first's
unfoldable pub moved_outline_of : Made → Usage → GlyphOutlineView
moved_outline_of made usage = record {
  points = map (moved_point made.phantoms.origin.cur.x) made.zone.points;
  ends = made.zone.ends;
  advance = difference_of made.phantoms.advance.cur.x made.phantoms.origin.cur.x;
  usage = usage;
  wish = made.wish;
}

-- the outline of a glyph as hinting makes it
unfoldable pub outline_with : Hinting → Face → ℕ → ℕ → Result GlyphOutlineView HintFault
outline_with h face ppem g = do
  made ← root_made h (shapes_of face) (scale_of face ppem) g
  Ok (moved_outline_of made.0 made.1)

-- the outline of a glyph with hinting off
abbrev pub outline_of : Face → ℕ → ℕ → Result GlyphOutlineView HintFault
outline_of face ppem g = outline_with no_hinting face ppem g

-- why there is no machine, as a cause why there is no outline
abbrev pub of_machine : MachineFault → HintFault
of_machine (machine_fault.Halted halt) = Halted halt
of_machine machine_fault.OutOfMemory = OutOfMemory

-- the outline of a glyph with hinting on: fpgm and prep run, and then the programs of the glyph and of its components, each from
-- what prep left. It depends on the font, the size and the glyph alone
unfoldable pub hinted_outline_of : Face → ℕ → ℕ → Result GlyphOutlineView HintFault
hinted_outline_of face ppem g = do
  known ← map_fault of_machine (machine_of face ppem)
  outline_with (hinting_of known) face ppem g

-- an assembled glyph has at most max_points points, and its contours end with them
pub record IsSound (made : Made) : Type 0 where
  pub few : length made.zone.points ≤ max_points
  pub contours : AreEnds 0 made.zone.ends (length made.zone.points)

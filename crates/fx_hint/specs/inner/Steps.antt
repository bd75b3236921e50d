-- The walk over components by its steps, with the composites that are open.
use Rattle.std.specs.Prelude.{◌≡◌, ◌+◌, ◌≤◌, ℕ, zero, suc, length, Bool, Option, Some, None, Result, Ok, Err}
use Rattle.fx_fixed.specs.Chain.{◌>>=◌}
use Rattle.fx_vary.specs.declared.metrics.Bearings.{Bearings}
use Rattle.fx_hint.specs.Shapes.{Shapes}
use Rattle.fx_glyf.specs.declared.glyph.Glyph as glyf
use Rattle.fx_glyf.specs.declared.glyph.Glyph.TheVariants.{Empty, Simple, Composite}
use Rattle.fx_glyf.specs.Shapes.{CompositeView}
use Rattle.fx_zone.specs.Figures.{empty_figure}
use Rattle.fx_scale.specs.declared.scale.Scale.{Scale}
use Rattle.fx_scale.specs.Phantoms.{phantoms_from}
use Rattle.fx_hint.specs.declared.component.ComponentOf.{ComponentOf}
use Rattle.fx_hint.specs.declared.component.Node.{Node}
use Rattle.fx_hint.specs.declared.count.Count.{Count}
use Rattle.fx_machine.specs.declared.usage.Usage.{Usage}
use Rattle.fx_hint.specs.declared.made.Made.{Made}
use Rattle.fx_hint.specs.declared.below.OpenComposite.{OpenComposite}
use Rattle.fx_hint.specs.declared.fault.HintFault.{HintFault}
use Rattle.fx_hint.specs.declared.fault.HintFault.TheVariants.{ComponentDepth}
use Rattle.fx_machine.specs.Usages.{usage_with}
use Rattle.fx_hint.specs.Hinting.{Hinting}
use Rattle.fx_outline.specs.Limits.{max_points}
use Rattle.fx_hint.specs.Outlines.{one_component, more_points, simple_made, run_on}

-- a glyph that has been begun: it is assembled, or a composite whose components come next
pub data Step : Type 0 where
  Assembled : (made : Made) → Step
  Open : (c : OpenComposite) → Step

-- a composite that is open, before its first component
abbrev pub opened : Node → CompositeView → Made → OpenComposite
opened node assembly base = record {
  node = node;
  glyph = assembly;
  before = 0;
  left = assembly.components;
  base = base;
}

abbrev pub opened_as : Scale → Bool → Option ComponentOf → ℕ → Bearings → CompositeView → Step
opened_as s hinted component g m assembly = Open (opened (record { component = component; g = g }) assembly
    (record { zone = empty_figure; phantoms = phantoms_from s hinted m.origin m.advance; wish = None }))

-- what a glyph is after its beginning: a composite if there is one, and what was made
abbrev pub step_of : Node → Option CompositeView → Made → Step
step_of node None made = Assembled made
step_of node (Some assembly) made = Open (opened node assembly made)

-- a glyph that has been read, begun: an empty or a simple one is assembled, a composite is open
unfoldable pub begun_by : Hinting → Scale → ℕ → Option ComponentOf → ℕ → Bearings → glyf.Glyph → Count
    → Result (Step × Count) HintFault
begun_by h s root component g m Empty count =
    Ok (Assembled (record { zone = empty_figure; phantoms = phantoms_from s h.on m.origin m.advance; wish = None }), count)
begun_by h s root component g m (Simple shape) count = do
  made ← simple_made s h.on root m shape count
  ran ← run_on h g shape.code made
  Ok (Assembled ran.0, ran.1)
begun_by h s root component g m (Composite assembly) count = Ok (opened_as s h.on component g m assembly, count)

-- a glyph, begun: its number and bytes, its reading
unfoldable pub begun : Hinting → Shapes → Scale → ℕ → Option ComponentOf → ℕ → Count → Result (Step × Count) HintFault
begun h font s root component g count = do
  shape ← font g
  begun_by h s root component g shape.bearings shape.glyph count

-- an assembled glyph whose points, and what its program used up, are counted
unfoldable pub counted_made : ℕ → Made → Usage → Count → Result (Step × Count) HintFault
counted_made root made usage count = do
  counted ← more_points root (length made.zone.points) count
  Ok (Assembled made, record counted { usage = usage_with counted.usage usage })

-- a component, begun, with this number of levels allowed from here on
unfoldable pub begun_component : Hinting → Shapes → Scale → ℕ → ℕ → Option ComponentOf → ℕ → Count → Result (Step × Count) HintFault
begun_component h font s root zero component g count = Err (ComponentDepth g)
begun_component h font s root (suc levels) component g count =
    one_component root count >>= λ counted. begun h font s root component g counted

-- the points of a glyph that is begun were counted, and all are at most max_points
abbrev pub CountsPoints : Count → Made → Count → Type 0
CountsPoints was made now = (now.points ≡ was.points + length made.zone.points) × (now.points ≤ max_points)

-- The walk over components by its steps, with a list of the programs that it starts.
use Rattle.std.specs.Prelude.{◌≡◌, ℕ, zero, suc, ◌-◌, List, [], ◌∷◌, Option, None, Result, Ok, Err}
use Rattle.fx_fixed.specs.Chain.{◌>>=◌}
use Rattle.fx_vary.specs.declared.metrics.Bearings.{Bearings}
use Rattle.fx_hint.specs.Shapes.{Shapes}
use Rattle.fx_glyf.specs.declared.glyph.Glyph as glyf
use Rattle.fx_glyf.specs.declared.glyph.Glyph.TheVariants.{Empty, Simple, Composite}
use Rattle.fx_zone.specs.Figures.{empty_figure}
use Rattle.fx_scale.specs.declared.scale.Scale.{Scale}
use Rattle.fx_scale.specs.Phantoms.{phantoms_from}
use Rattle.fx_hint.specs.declared.component.ComponentOf.{ComponentOf}
use Rattle.fx_hint.specs.declared.made.Made.{Made}
use Rattle.fx_hint.specs.declared.below.OpenComposite.{OpenComposite}
use Rattle.fx_hint.specs.declared.below.Waiting.{Waiting}
use Rattle.fx_hint.specs.inner.Steps.{Step, Assembled, Open}
use Rattle.fx_hint.specs.declared.fault.HintFault.{HintFault}
use Rattle.fx_hint.specs.declared.fault.HintFault.TheVariants.{ComponentDepth, OutOfMemory}
use Rattle.fx_hint.specs.Hinting.{Hinting}
use Rattle.fx_hint.specs.Placing.{with_component}
use Rattle.fx_hint.specs.declared.count.Count.{Count}
use Rattle.fx_hint.specs.Outlines.{one_component, simple_made}
use Rattle.fx_hint.specs.inner.Steps.{opened_as}
use Rattle.fx_hint.specs.Runs.{ProgramRun, Logged, LoggedFault, AreFirst, runs_in, after, once, logged_one, logged_simple, logged_run, logged_components, logged_component}

abbrev pub LoggedOutcome : Type 0
LoggedOutcome = Result (Made × Logged) LoggedFault

unfoldable pub logged_begun_by : Hinting → Scale → ℕ → Option ComponentOf → ℕ → Bearings → glyf.Glyph → Logged
    → Result (Step × Logged) LoggedFault
logged_begun_by h s root component g m Empty count =
    Ok (Assembled (record { zone = empty_figure; phantoms = phantoms_from s h.on m.origin m.advance; wish = None }), count)
logged_begun_by h s root component g m (Simple shape) count = do
  made ← logged_simple s h.on root m shape count
  ran ← logged_run h component g shape.code made
  Ok (Assembled ran.0, ran.1)
logged_begun_by h s root component g m (Composite assembly) count = Ok (opened_as s h.on component g m assembly, count)

unfoldable pub logged_begun : Hinting → Shapes → Scale → ℕ → Option ComponentOf → ℕ → Logged → Result (Step × Logged) LoggedFault
logged_begun h font s root component g count = do
  shape ← after count.1 (font g)
  logged_begun_by h s root component g shape.bearings shape.glyph count

unfoldable pub logged_begun_component : Hinting → Shapes → Scale → ℕ → ℕ → Option ComponentOf → ℕ → Logged
    → Result (Step × Logged) LoggedFault
logged_begun_component h font s root zero component g count = Err (ComponentDepth g, count.1)
logged_begun_component h font s root (suc levels) component g count =
    logged_one root count >>= λ counted. logged_begun h font s root component g counted

-- the programs that run when a glyph is begun: that of a simple glyph
unfoldable pub begun_by_runs : Hinting → Scale → ℕ → Option ComponentOf → ℕ → Bearings → glyf.Glyph → Count → List ProgramRun
begun_by_runs h s root component g m Empty count = []
begun_by_runs h s root component g m (Simple shape) count =
    once (simple_made s h.on root m shape count)
    (λ made. record { component = component; g = g; code = shape.code; made = made.0 } ∷ [])
begun_by_runs h s root component g m (Composite assembly) count = []

unfoldable pub begun_runs : Hinting → Shapes → Scale → ℕ → Option ComponentOf → ℕ → Count → List ProgramRun
begun_runs h font s root component g count =
    once (font g) (λ shape. begun_by_runs h s root component g shape.bearings shape.glyph count)

unfoldable pub begun_component_runs : Hinting → Shapes → Scale → ℕ → ℕ → Option ComponentOf → ℕ → Count → List ProgramRun
begun_component_runs h font s root zero component g count = []
begun_component_runs h font s root (suc levels) component g count =
    once (one_component root count) (λ counted. begun_runs h font s root component g counted)

-- what plain steps give, with the programs that ran
abbrev pub logged : {A : Type 0} → List ProgramRun → Result (A × Count) HintFault → Result (A × Logged) LoggedFault
logged runs (Ok x) = Ok (x.0, (x.1, runs))
logged runs (Err e) = Err (e, runs)

abbrev pub logged_left : Hinting → Shapes → Scale → ℕ → ℕ → OpenComposite → Logged → LoggedOutcome
logged_left h font s root levels c count =
    logged_components s h.on (logged_component h font s root levels) c.node.g c.before c.left c.base count
    >>= logged_run h c.node.component c.node.g c.glyph.code

abbrev pub logged_given_by : Hinting → Shapes → Scale → ℕ → ℕ → Step × Logged → LoggedOutcome
logged_given_by h font s root levels (Assembled made, count) = Ok (made, count)
logged_given_by h font s root levels (Open c, count) = logged_left h font s root levels c count

abbrev pub logged_goes_into : Hinting → Shapes → Scale → ℕ → ℕ → Waiting → Made × Logged → LoggedOutcome
logged_goes_into h font s root levels w r = do
  more ← after r.1.1 (with_component s h.on w.composite.node.g w.component w.composite.base r.0)
  logged_left h font s root levels (record w.composite { base = more }) r.1

unfoldable pub logged_rest_of : Hinting → Shapes → Scale → ℕ → ℕ → List Waiting → LoggedOutcome → LoggedOutcome
logged_rest_of h font s root levels [] r = r
logged_rest_of h font s root levels (w ∷ ws) r =
    logged_rest_of h font s root (levels - 1) ws r >>= logged_goes_into h font s root levels w

-- it has come to `now` from `was` by some programs, for which this holds
abbrev pub HasRunSome : {S : Type 0} → (S → List ProgramRun → S → Type 0) → S → S → (List ProgramRun → Type 0) → Type 0
HasRunSome Leads was now Holds = (runs : List ProgramRun) × Leads was runs now × Holds runs

-- a walk has come to `now` from `was`, has made this and returns this: what is due, by the programs that are due; if memory ran
-- out, by the first of them
abbrev pub WalksBy : {S : Type 0} → (S → List ProgramRun → S → Type 0) → S → S → Made → Result (Unit {0}) HintFault → Count
    → LoggedOutcome → Type 0
WalksBy Leads was now made (Ok _) count due = (runs : List ProgramRun) × Leads was runs now × (due ≡ Ok (made, (count, runs)))
WalksBy Leads was now made (Err OutOfMemory) count due =
    (some : List ProgramRun) × Leads was some now × AreFirst some (runs_in due)
WalksBy Leads was now made (Err e) count due = (runs : List ProgramRun) × Leads was runs now × (due ≡ Err (e, runs))

-- the same as a record, so that a proof finds its arguments
pub record Walks {S : Type 0} (Leads : S → List ProgramRun → S → Type 0) (was now : S) (made : Made)
    (result : Result (Unit {0}) HintFault) (count : Count) (due : LoggedOutcome) : Type 0 where
  pub by : WalksBy Leads was now made result count due

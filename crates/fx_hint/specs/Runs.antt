-- The programs that are run for a glyph, in their order: the recursion on components again, which lists each program it starts.
use Rattle.std.specs.Prelude.{◌≡◌, ℕ, zero, suc, ◌+◌, List, [], ◌∷◌, ◌++◌, Bool, Option, Some, None, Result, Ok, Err}
use Rattle.fx_fixed.specs.Chain.{◌>>=◌, map_fault}
use Rattle.fx_vary.specs.declared.metrics.Bearings.{Bearings}
use Rattle.fx_sfnt.specs.Tables.{Face}
use Rattle.fx_hint.specs.Shapes.{Shapes, shapes_of}
use Rattle.fx_glyf.specs.declared.component.Component.{Component}
use Rattle.fx_glyf.specs.declared.glyph.Glyph as glyf
use Rattle.fx_glyf.specs.declared.glyph.Glyph.TheVariants.{Empty, Simple, Composite}
use Rattle.fx_glyf.specs.Shapes.{SimpleView}
use Rattle.fx_zone.specs.Figures.{empty_figure}
use Rattle.fx_scale.specs.declared.scale.Scale.{Scale}
use Rattle.fx_scale.specs.Phantoms.{phantoms_from}
use Rattle.fx_hint.specs.declared.component.ComponentOf.{ComponentOf}
use Rattle.fx_hint.specs.declared.count.Count.{Count}
use Rattle.fx_hint.specs.declared.made.Made.{Made}
use Rattle.fx_hint.specs.declared.fault.HintFault.{HintFault}
use Rattle.fx_hint.specs.declared.fault.HintFault.TheVariants.{ComponentDepth, OutOfMemory}
use Rattle.fx_hint.specs.Limits.{max_depth}
use Rattle.fx_hint.specs.Hinting.{Hinting}
use Rattle.fx_hint.specs.Placing.{with_component}
use Rattle.fx_hint.specs.Outlines.{one_component, simple_made, run_on, nothing_counted, assembled, component}

-- a program of a glyph, started on these points: for which component of which composite, or for the root
pub record ProgramRun : Type 0 where
  pub component : Option ComponentOf
  pub g : ℕ
  pub code : List ℕ
  pub made : Made

-- the counts so far, and the programs started so far
abbrev pub Logged : Type 0
Logged = Count × List ProgramRun

-- a fault, and the programs started until then; one that halts is the last of them
abbrev pub LoggedFault : Type 0
LoggedFault = HintFault × List ProgramRun

-- what assembles a component, from which one it is of which composite, its glyph, and the counts and programs so far
abbrev pub LoggedMaker : Type 0
LoggedMaker = Option ComponentOf → ℕ → Logged → Result (Made × Logged) LoggedFault

-- a check after these programs
abbrev pub after : {A : Type 0} → List ProgramRun → Result A HintFault → Result A LoggedFault
after runs r = map_fault (λ (e : HintFault). (e, runs)) r

unfoldable pub logged_one : ℕ → Logged → Result Logged LoggedFault
logged_one root count = do
  counted ← after count.1 (one_component root count.0)
  Ok (counted, count.1)

unfoldable pub logged_simple : Scale → Bool → ℕ → Bearings → SimpleView → Logged → Result (Made × Logged) LoggedFault
logged_simple s hinted root m shape count = do
  made ← after count.1 (simple_made s hinted root m shape count.0)
  Ok (made.0, (made.1, count.1))

-- one program more
abbrev pub with_run : List ProgramRun → Option ComponentOf → ℕ → List ℕ → Made → List ProgramRun
with_run runs component g code made = runs ++ record { component = component; g = g; code = code; made = made } ∷ []

unfoldable pub logged_run : Hinting → Option ComponentOf → ℕ → List ℕ → Made × Logged → Result (Made × Logged) LoggedFault
logged_run h component g code made = do
  ran ← after (with_run made.1.1 component g code made.0) (run_on h g code (made.0, made.1.0))
  Ok (ran.0, (ran.1, with_run made.1.1 component g code made.0))

-- the components of a composite g in order, after `before` others of it
unfoldable pub logged_components : Scale → Bool → LoggedMaker → ℕ → ℕ → List Component → Made → Logged
    → Result (Made × Logged) LoggedFault
logged_components s hinted make g before [] base count = Ok (base, count)
logged_components s hinted make g before (component ∷ components) base count = do
  made ← make (Some (record { composite = g; number = before + 1 })) component.glyph count
  more ← after made.1.1 (with_component s hinted g component base made.0)
  logged_components s hinted make g (before + 1) components more made.1

unfoldable pub logged_made_of : Hinting → Scale → ℕ → LoggedMaker → Option ComponentOf → ℕ → Bearings → glyf.Glyph → Logged
    → Result (Made × Logged) LoggedFault
logged_made_of h s root make component g m Empty count =
    Ok (record { zone = empty_figure; phantoms = phantoms_from s h.on m.origin m.advance; wish = None }, count)
logged_made_of h s root make component g m (Simple shape) count = do
  made ← logged_simple s h.on root m shape count
  logged_run h component g shape.code made
logged_made_of h s root make component g m (Composite assembly) count = do
  made ← logged_components s h.on make g 0 assembly.components
      (record { zone = empty_figure; phantoms = phantoms_from s h.on m.origin m.advance; wish = None }) count
  logged_run h component g assembly.code made

unfoldable pub logged_assembled : Hinting → Shapes → Scale → ℕ → LoggedMaker → Option ComponentOf → ℕ → Logged
    → Result (Made × Logged) LoggedFault
logged_assembled h font s root make component g count = do
  shape ← after count.1 (font g)
  logged_made_of h s root make component g shape.bearings shape.glyph count

unfoldable pub logged_component : Hinting → Shapes → Scale → ℕ → ℕ → Option ComponentOf → ℕ → Logged
    → Result (Made × Logged) LoggedFault
logged_component h font s root zero = λ component g count. Err (ComponentDepth g, count.1)
logged_component h font s root (suc levels) = λ component g count.
    logged_one root count >>= λ counted. logged_assembled h font s root (logged_component h font s root levels) component g counted

-- the programs of an answer
abbrev pub runs_in : {A : Type 0} → Result (A × Logged) LoggedFault → List ProgramRun
runs_in (Ok x) = x.1.1
runs_in (Err e) = e.1

-- the programs that are run for a root, in their order: those of components before that of the composite; the last may halt
unfoldable pub runs_of : Hinting → Face → Scale → ℕ → List ProgramRun
runs_of h face s g =
    runs_in (logged_assembled h (shapes_of face) s g (logged_component h (shapes_of face) s g max_depth) None g
    (nothing_counted, []))

-- some of these programs, from the first on
abbrev pub AreFirst : List ProgramRun → List ProgramRun → Type 0
AreFirst some all = (others : List ProgramRun) × (some ++ others ≡ all)

-- it has come to `now` from `was` by these programs, when this fault is returned; if memory runs out, by the first of them
abbrev pub StopsAfter : {S : Type 0} → (S → List ProgramRun → S → Type 0) → S → S → HintFault → List ProgramRun → Type 0
StopsAfter Leads was now OutOfMemory runs = (some : List ProgramRun) × AreFirst some runs × Leads was some now
StopsAfter Leads was now fault runs = Leads was runs now

-- it has come to `now` from `was` by these programs
abbrev pub HasRun : {S A : Type 0} → (S → List ProgramRun → S → Type 0) → S → S → Result A HintFault → List ProgramRun → Type 0
HasRun Leads was now (Ok x) runs = Leads was runs now
HasRun Leads was now (Err e) runs = StopsAfter Leads was now e runs

-- the programs that run once a value is there
abbrev pub once : {A : Type 0} → Result A HintFault → (A → List ProgramRun) → List ProgramRun
once (Ok x) f = f x
once (Err e) f = []

-- without the list
abbrev pub plain : {A : Type 0} → Result (A × Logged) LoggedFault → Result (A × Count) HintFault
plain (Ok x) = Ok (x.0, x.1.0)
plain (Err e) = Err e.0

-- the recursion that lists programs is that of the outline, in all else
abbrev pub ListsTheWalk : Type 0
ListsTheWalk =
    (h : Hinting) (font : Shapes) (s : Scale) (root : ℕ) (which : Option ComponentOf) (g : ℕ) (count : Logged)
    → plain (logged_assembled h font s root (logged_component h font s root max_depth) which g count)
    ≡ assembled h font s root (component h font s root max_depth) g count.0

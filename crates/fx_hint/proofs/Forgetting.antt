-- The walk that lists the programs gives, without its list, what the definition of an outline gives: `outline_walked`.
-- It serves the walk, and the reader of `runs_of`.
use Rattle.std.proofs.Common.{◌≡◌, ℕ, zero, suc, ◌+◌, List, [], ◌∷◌, Option, Some, None, refl, sym, ap, ◌∙◌, Result, Ok, Err}
use Rattle.fx_fixed.specs.Chain.{◌>>=◌, GivesUnless}
use Rattle.fx_vary.specs.declared.metrics.Bearings.{Bearings}
use Rattle.fx_sfnt.specs.Tables.{Face}
use Rattle.fx_hint.specs.Shapes.{Shapes, shapes_of}
use Rattle.fx_glyf.specs.declared.component.Component.{Component}
use Rattle.fx_glyf.specs.declared.glyph.Glyph as glyf
use Rattle.fx_glyf.specs.declared.glyph.Glyph.TheVariants.{Empty, Simple, Composite}
use Rattle.fx_scale.specs.declared.scale.Scale.{Scale}
use Rattle.fx_scale.specs.Scaling.{scale_of}
use Rattle.fx_hint.specs.declared.component.ComponentOf.{ComponentOf}
use Rattle.fx_hint.specs.declared.count.Count.{Count}
use Rattle.fx_hint.specs.declared.made.Made.{Made}
use Rattle.fx_hint.specs.declared.fault.HintFault.{HintFault}
use Rattle.fx_hint.specs.declared.fault.HintFault.TheVariants.{OutOfMemory}
use Rattle.fx_hint.specs.Faults.{Fails}
use Rattle.fx_hint.specs.Limits.{max_depth}
use Rattle.fx_hint.specs.Hinting.{Hinting}
use Rattle.fx_hint.specs.Placing.{with_component}
use Rattle.fx_hint.specs.Outlines.{Maker, one_component, simple_made, run_on, with_components, made_of, assembled, component}
use Rattle.fx_hint.specs.Outlines.{nothing_counted, root_made, moved_outline_of, outline_with}
use Rattle.fx_hint.specs.Runs.{ProgramRun, Logged, LoggedFault, LoggedMaker, after, with_run, plain}
use Rattle.fx_hint.specs.Runs.{logged_one, logged_simple, logged_run, logged_components, logged_made_of, logged_assembled, logged_component}
use Rattle.fx_hint.specs.inner.RunSteps.{Walks}

-- a check, and then the rest
checked : {A B : Type 0} (runs : List ProgramRun) (r : Result A HintFault) (f : A → Result (B × Logged) LoggedFault)
    (k : A → Result (B × Count) HintFault) → ((x : A) → plain (f x) ≡ k x) → plain (after runs r >>= f) ≡ (r >>= k)
checked runs (Ok x) f k h = h x
checked runs (Err e) f k h = refl

-- what is made, and then the rest
chained : {A B : Type 0} (q : Result (A × Logged) LoggedFault) (r : Result (A × Count) HintFault)
    (f : A × Logged → Result (B × Logged) LoggedFault) (k : A × Count → Result (B × Count) HintFault) → plain q ≡ r
    → ((x : A × Logged) → plain (f x) ≡ k (x.0, x.1.0)) → plain (q >>= f) ≡ (r >>= k)
chained (Ok x) r f k e h = h x ∙ ap (λ (o : Result _ HintFault). o >>= k) e
chained (Err d) r f k e h = ap (λ (o : Result _ HintFault). o >>= k) e

relog : {A : Type 0} (runs : List ProgramRun) (r : Result (A × Count) HintFault) (q : Result (A × Logged) LoggedFault)
    → q ≡ (after runs r >>= λ (x : A × Count). Ok (x.0, (x.1, runs))) → plain q ≡ r
relog runs (Ok x) q e = ap plain e
relog runs (Err d) q e = ap plain e

module _ (h : Hinting) (font : Shapes) (s : Scale) (root : ℕ) where
  plain_run : (which : Option ComponentOf) (g : ℕ) (code : List ℕ) (x : Made × Logged)
      → plain (logged_run h which g code x) ≡ run_on h g code (x.0, x.1.0)
  unfolding logged_run
  plain_run which g code x = relog (with_run x.1.1 which g code x.0) (run_on h g code (x.0, x.1.0)) _ refl

  plain_components : (make : LoggedMaker) (make' : Maker) (g before : ℕ) (components : List Component) (base : Made)
      (count : Logged)
      → ((w : Option ComponentOf) (n : ℕ) (c : Logged) → plain (make w n c) ≡ make' n c.0)
      → plain (logged_components s h.on make g before components base count)
      ≡ with_components s h.on make' g components base count.0
  unfolding logged_components with_components
  plain_components make make' g before [] base count m = refl
  plain_components make make' g before (component ∷ components) base count m =
      let next : Option ComponentOf = Some (record { composite = g; number = before + 1 }) in
      chained (make next component.glyph count) (make' component.glyph count.0) _ _ (m next component.glyph count)
      (λ x. checked x.1.1 (with_component s h.on g component base x.0) _ _
      (λ more. plain_components make make' g (before + 1) components more x.1 m))

  plain_made_of : (make : LoggedMaker) (make' : Maker) (which : Option ComponentOf) (g : ℕ)
      (m : Bearings) (glyph : glyf.Glyph) (count : Logged)
      → ((w : Option ComponentOf) (n : ℕ) (c : Logged) → plain (make w n c) ≡ make' n c.0)
      → plain (logged_made_of h s root make which g m glyph count) ≡ made_of h s root make' g m glyph count.0
  unfolding logged_made_of logged_simple made_of
  plain_made_of make make' which g m Empty count f = refl
  plain_made_of make make' which g m (Simple shape) count f =
      chained _ (simple_made s h.on root m shape count.0) _ _
      (relog count.1 (simple_made s h.on root m shape count.0) _ refl) (λ x. plain_run which g shape.code x)
  plain_made_of make make' which g m (Composite assembly) count f =
      chained _ _ _ _ (plain_components make make' g 0 assembly.components _ count f) (λ x. plain_run which g assembly.code x)

  plain_assembled : (make : LoggedMaker) (make' : Maker) (which : Option ComponentOf) (g : ℕ) (count : Logged)
      → ((w : Option ComponentOf) (n : ℕ) (c : Logged) → plain (make w n c) ≡ make' n c.0)
      → plain (logged_assembled h font s root make which g count) ≡ assembled h font s root make' g count.0
  unfolding logged_assembled assembled
  plain_assembled make make' which g count f =
      checked count.1 (font g) _ _ (λ shape. plain_made_of make make' which g shape.bearings shape.glyph count f)

  one_plain : {B : Type 0} (runs : List ProgramRun) (r : Result Count HintFault) (f : Logged → Result (B × Logged) LoggedFault)
      (k : Count → Result (B × Count) HintFault) → ((c : Count) → plain (f (c, runs)) ≡ k c)
      → plain ((after runs r >>= λ counted. Ok (counted, runs)) >>= f) ≡ (r >>= k)
  one_plain runs (Ok c) f k h = h c
  one_plain runs (Err d) f k h = refl

  plain_component : (levels : ℕ) (which : Option ComponentOf) (n : ℕ) (count : Logged)
      → plain (logged_component h font s root levels which n count) ≡ component h font s root levels n count.0
  unfolding logged_component logged_one component
  plain_component zero which n count = refl
  plain_component (suc levels) which n count =
      one_plain count.1 (one_component root count.0) _ _
      (λ c. plain_assembled (logged_component h font s root levels) (component h font s root levels) which n (c, count.1)
      (λ w k d. plain_component levels w k d))

  -- the whole
  pub plain_root : (levels : ℕ) (which : Option ComponentOf) (g : ℕ) (count : Logged)
      → plain (logged_assembled h font s root (logged_component h font s root levels) which g count)
      ≡ assembled h font s root (component h font s root levels) g count.0
  plain_root levels which g count =
      plain_assembled (logged_component h font s root levels) (component h font s root levels) which g count
      (λ w k d. plain_component levels w k d)

-- a root that is walked is made as the definition of an outline says
pub root_walked : {S : Type 0} (Leads : S → List ProgramRun → S → Type 0) (was now : S) (made : Made)
    (r : Result (Unit {0}) HintFault) (count : Count) (h : Hinting) (font : Shapes) (s : Scale) (g : ℕ)
    → Walks Leads was now made r count
    (logged_assembled h font s g (logged_component h font s g max_depth) None g (nothing_counted, []))
    → GivesUnless Fails (λ _. (made, count.usage)) r (root_made h font s g)
unfolding root_made
root_walked Leads was now made (Ok x) count h font s g w =
    rw (sym (plain_root h font s g max_depth None g (nothing_counted, [])) ∙ ap plain w.by.2) refl
root_walked Leads was now made (Err OutOfMemory) count h font s g w = tt
root_walked Leads was now made (Err e) count h font s g w =
    rw (sym (plain_root h font s g max_depth None g (nothing_counted, [])) ∙ ap plain w.by.2) refl

-- and so its outline is
pub outline_walked : {S : Type 0} (Leads : S → List ProgramRun → S → Type 0) (was now : S) (made : Made)
    (r : Result (Unit {0}) HintFault) (count : Count) (h : Hinting) (face : Face) (ppem g : ℕ)
    → Walks Leads was now made r count (logged_assembled h (shapes_of face) (scale_of face ppem) g
    (logged_component h (shapes_of face) (scale_of face ppem) g max_depth) None g (nothing_counted, []))
    → GivesUnless Fails (λ _. moved_outline_of made count.usage) r (outline_with h face ppem g)
unfolding outline_with
outline_walked Leads was now made (Ok x) count h face ppem g w =
    rw (root_walked Leads was now made (Ok x) count h (shapes_of face) (scale_of face ppem) g w) refl
outline_walked Leads was now made (Err OutOfMemory) count h face ppem g w = tt
outline_walked Leads was now made (Err e) count h face ppem g w =
    rw (root_walked Leads was now made (Err e) count h (shapes_of face) (scale_of face ppem) g w) refl

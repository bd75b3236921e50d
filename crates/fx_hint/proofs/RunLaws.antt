-- The programs that were started are the first of those that are due: `first_of_begun`, `first_of_closed`.
-- For the walk, which keeps account of them.
use Rattle.std.proofs.Common.{◌≡◌, ℕ, zero, suc, ◌-◌, ◌+◌, List, [], ◌∷◌, ◌++◌, length, Option, Some, refl, sym, ap, ◌∙◌, subst, Result, Ok, Err, Bool, true, false, append_assoc, append-nil}
use Rattle.fx_fixed.specs.Chain.{◌>>=◌}
use Rattle.fx_vary.specs.declared.metrics.Bearings.{Bearings}
use Rattle.fx_hint.specs.Shapes.{Shapes}
use Rattle.fx_glyf.specs.declared.component.Component.{Component}
use Rattle.fx_glyf.specs.declared.glyph.Glyph as glyf
use Rattle.fx_glyf.specs.declared.glyph.Glyph.TheVariants.{Empty, Simple, Composite}
use Rattle.fx_glyf.specs.Shapes.{SimpleView}
use Rattle.fx_scale.specs.declared.scale.Scale.{Scale}
use Rattle.fx_hint.specs.declared.component.ComponentOf.{ComponentOf}
use Rattle.fx_hint.specs.declared.count.Count.{Count}
use Rattle.fx_hint.specs.declared.made.Made.{Made}
use Rattle.fx_hint.specs.declared.below.OpenComposite.{OpenComposite}
use Rattle.fx_hint.specs.declared.below.Waiting.{Waiting}
use Rattle.fx_hint.specs.inner.Steps.{Step, Assembled, Open}
use Rattle.fx_hint.specs.declared.fault.HintFault.{HintFault}
use Rattle.fx_hint.specs.Hinting.{Hinting}
use Rattle.fx_hint.specs.Placing.{with_component}
use Rattle.fx_hint.specs.Outlines.{one_component, simple_made, run_on}
use Rattle.fx_hint.specs.Runs.{ProgramRun, Logged, LoggedFault, LoggedMaker, after, once, with_run, runs_in, AreFirst}
use Rattle.fx_hint.specs.Runs.{logged_one, logged_simple, logged_run, logged_components, logged_made_of, logged_assembled, logged_component}
use Rattle.fx_hint.specs.inner.Steps.{begun_by, begun, begun_component}
use Rattle.fx_hint.specs.inner.RunSteps.{LoggedOutcome, logged, logged_begun_by, logged_begun, logged_begun_component}
use Rattle.fx_hint.specs.inner.RunSteps.{begun_by_runs, begun_runs, begun_component_runs}
use Rattle.fx_hint.specs.Limits.{max_depth}
use Rattle.fx_hint.specs.Faults.{Fails}
use Rattle.fx_hint.specs.Runs.{StopsAfter, HasRun}
use Rattle.fx_hint.specs.declared.fault.HintFault.TheVariants.{OutOfMemory}
use Rattle.fx_hint.proofs.Steps.{next_of, with_next, down, closes, assembled_by}
use Rattle.fx_hint.specs.inner.RunSteps.{logged_left, logged_given_by, logged_goes_into, logged_rest_of, Walks}

-- ---- the first of some programs

pub first_same : (runs : List ProgramRun) → AreFirst runs runs
first_same runs = ([], append-nil runs)

pub first_then : (a b c : List ProgramRun) → AreFirst a b → AreFirst b c → AreFirst a c
first_then a b c f g = (f.0 ++ g.0, sym (append_assoc a f.0 g.0) ∙ ap (λ (t : List ProgramRun). t ++ g.0) f.1 ∙ g.1)

first_more : (a b : List ProgramRun) → AreFirst a (a ++ b)
first_more a b = (b, refl)

-- a chain starts more programs
first_chain : {A B : Type 0} (q : Result (A × Logged) LoggedFault) (k : A × Logged → Result (B × Logged) LoggedFault)
    → ((x : A × Logged) → AreFirst x.1.1 (runs_in (k x))) → AreFirst (runs_in q) (runs_in (q >>= k))
first_chain (Ok x) k h = h x
first_chain (Err e) k h = first_same e.1

first_check : {A B : Type 0} (runs : List ProgramRun) (r : Result A HintFault) (k : A → Result (B × Logged) LoggedFault)
    → ((x : A) → AreFirst runs (runs_in (k x))) → AreFirst runs (runs_in (after runs r >>= k))
first_check runs (Ok x) k h = h x
first_check runs (Err e) k h = first_same runs

first_last : {A B : Type 0} (before runs : List ProgramRun) (r : Result A HintFault) (f : A → B × Count) → AreFirst before runs
    → AreFirst before (runs_in (after runs r >>= λ x. Ok ((f x).0, ((f x).1, runs))))
first_last before runs (Ok x) f h = h
first_last before runs (Err e) f h = h

abbrev relogged : List ProgramRun → Made × Count → LoggedOutcome
relogged runs x = Ok (x.0, (x.1, runs))

abbrev up_logged : Made × Logged → Result (Step × Logged) LoggedFault
up_logged x = Ok (Assembled x.0, x.1)

abbrev up : Made × Count → Result (Step × Count) HintFault
up x = Ok (Assembled x.0, x.1)

pub run_is : (h : Hinting) (component : Option ComponentOf) (g : ℕ) (code : List ℕ) (made : Made) (count : Count)
    (runs : List ProgramRun) (q : Result (Made × Count) HintFault)
    → run_on h g code (made, count) ≡ q → logged_run h component g code (made, (count, runs))
    ≡ logged (with_run runs component g code made) q
unfolding logged_run
run_is h component g code made count runs (Ok x) e =
    ap (λ (r : Result (Made × Count) HintFault). after (with_run runs component g code made) r
    >>= λ ran. Ok (ran.0, (ran.1, with_run runs component g code made))) e
run_is h component g code made count runs (Err d) e =
    ap (λ (r : Result (Made × Count) HintFault). after (with_run runs component g code made) r
    >>= λ ran. Ok (ran.0, (ran.1, with_run runs component g code made))) e

shut : Step → Bool
shut (Assembled made) = true
shut (Open c) = false

shut_in : Result (Step × Count) HintFault → Bool
shut_in (Ok x) = shut x.0
shut_in (Err e) = true

module _ (h : Hinting) (font : Shapes) (s : Scale) (root : ℕ) where
  first_run : (component : Option ComponentOf) (g : ℕ) (code : List ℕ) (x : Made × Logged)
      → AreFirst x.1.1 (runs_in (logged_run h component g code x))
  unfolding logged_run
  first_run component g code x =
      first_last x.1.1 (with_run x.1.1 component g code x.0) (run_on h g code (x.0, x.1.0)) (λ ran. ran)
      (first_more x.1.1 (record { component = component; g = g; code = code; made = x.0 } ∷ []))

  first_components : (make : LoggedMaker) (g before : ℕ) (components : List Component) (base : Made) (count : Logged)
      → ((w : Option ComponentOf) (n : ℕ) (c : Logged) → AreFirst c.1 (runs_in (make w n c)))
      → AreFirst count.1 (runs_in (logged_components s h.on make g before components base count))
  unfolding logged_components
  first_components make g before [] base count m = first_same count.1
  first_components make g before (component ∷ components) base count m =
      let next : Option ComponentOf = Some (record { composite = g; number = before + 1 }) in
      let k : Made × Logged → LoggedOutcome = λ made. after made.1.1 (with_component s h.on g component base made.0)
      >>= λ more. logged_components s h.on make g (before + 1) components more made.1 in
      first_then count.1 (runs_in (make next component.glyph count)) (runs_in (make next component.glyph count >>= k))
      (m next component.glyph count) (first_chain (make next component.glyph count) k (λ made. first_check made.1.1
      (with_component s h.on g component base made.0) (λ more. logged_components s h.on make g (before + 1) components more made.1)
      (λ more. first_components make g (before + 1) components more made.1 m)))

  first_simple : (component : Option ComponentOf) (g : ℕ) (code : List ℕ) (count : Logged) (r : Result (Made × Count) HintFault)
      → AreFirst count.1 (runs_in ((after count.1 r >>= λ made. Ok (made.0, (made.1, count.1))) >>= logged_run h component g code))
  first_simple component g code count (Ok made) = first_run component g code (made.0, (made.1, count.1))
  first_simple component g code count (Err e) = first_same count.1

  first_made_of : (make : LoggedMaker) (component : Option ComponentOf) (g : ℕ) (m : Bearings) (glyph : glyf.Glyph) (count : Logged)
      → ((w : Option ComponentOf) (n : ℕ) (c : Logged) → AreFirst c.1 (runs_in (make w n c)))
      → AreFirst count.1 (runs_in (logged_made_of h s root make component g m glyph count))
  unfolding logged_made_of logged_simple
  first_made_of make component g m Empty count f = first_same count.1
  first_made_of make component g m (Simple shape) count f =
      first_simple component g shape.code count (simple_made s h.on root m shape count.0)
  first_made_of make component g m (Composite assembly) count f =
      first_then count.1 _ _ (first_components make g 0 assembly.components _ count f)
      (first_chain (logged_components s h.on make g 0 assembly.components _ count) (logged_run h component g assembly.code)
      (λ x. first_run component g assembly.code x))

  first_assembled : (make : LoggedMaker) (component : Option ComponentOf) (g : ℕ) (count : Logged)
      → ((w : Option ComponentOf) (n : ℕ) (c : Logged) → AreFirst c.1 (runs_in (make w n c)))
      → AreFirst count.1 (runs_in (logged_assembled h font s root make component g count))
  unfolding logged_assembled
  first_assembled make component g count f =
      first_check count.1 (font g) _ (λ shape. first_made_of make component g shape.bearings shape.glyph count f)

  first_one : (count : Logged) (r : Result Count HintFault) (k : Logged → LoggedOutcome)
      → ((c : Logged) → AreFirst c.1 (runs_in (k c)))
      → AreFirst count.1 (runs_in ((after count.1 r >>= λ counted. Ok (counted, count.1)) >>= k))
  first_one count (Ok counted) k f = f (counted, count.1)
  first_one count (Err e) k f = first_same count.1

  first_component : (levels : ℕ) (component : Option ComponentOf) (g : ℕ) (count : Logged)
      → AreFirst count.1 (runs_in (logged_component h font s root levels component g count))
  unfolding logged_component logged_one
  first_component zero component g count = first_same count.1
  first_component (suc levels) component g count =
      first_one count (one_component root count.0)
      (λ c. logged_assembled h font s root (logged_component h font s root levels) component g c)
      (λ c. first_assembled (logged_component h font s root levels) component g c (λ w n d. first_component levels w n d))

  first_left : (levels : ℕ) (c : OpenComposite) (count : Logged)
      → AreFirst count.1 (runs_in (logged_left h font s root levels c count))
  first_left levels c count =
      first_then count.1 _ _ (first_components (logged_component h font s root levels) c.node.g c.before c.left c.base count
      (λ w n d. first_component levels w n d))
      (first_chain (logged_components s h.on (logged_component h font s root levels) c.node.g c.before c.left c.base count)
      (logged_run h c.node.component c.node.g c.glyph.code) (λ x. first_run c.node.component c.node.g c.glyph.code x))

  first_into : (levels : ℕ) (w : Waiting) (r : Made × Logged) → AreFirst r.1.1 (runs_in (logged_goes_into h font s root levels w r))
  first_into levels w r =
      first_check r.1.1 (with_component s h.on w.composite.node.g w.component w.composite.base r.0) _
      (λ more. first_left levels (record w.composite { base = more }) r.1)

  first_given : (levels : ℕ) (x : Step × Logged) → AreFirst x.1.1 (runs_in (logged_given_by h font s root levels x))
  first_given levels (Assembled made, count) = first_same count.1
  first_given levels (Open c, count) = first_left levels c count

  -- what the innermost open composite has started is the first of what the root starts
  pub first_rest : (levels : ℕ) (ws : List Waiting) (r : LoggedOutcome)
      → AreFirst (runs_in r) (runs_in (logged_rest_of h font s root levels ws r))
  unfolding logged_rest_of
  first_rest levels [] r = first_same (runs_in r)
  first_rest levels (w ∷ ws) r =
      first_then (runs_in r) _ _ (first_rest (levels - 1) ws r)
      (first_chain (logged_rest_of h font s root (levels - 1) ws r) (logged_goes_into h font s root levels w)
      (λ x. first_into levels w x))

  -- ---- a glyph that is begun starts at most one program

  ran_after : (runs : List ProgramRun) (r : Result (Made × Count) HintFault)
      → ((after runs r >>= relogged runs) >>= up_logged) ≡ logged runs (r >>= up)
  ran_after runs (Ok ran) = refl
  ran_after runs (Err e) = refl

  ran_logged : (runs : List ProgramRun) (component : Option ComponentOf) (g : ℕ) (code : List ℕ)
      (r : Result (Made × Count) HintFault)
      → ((after runs r >>= relogged runs) >>= λ made. logged_run h component g code made >>= up_logged)
      ≡ logged (runs ++ once r (λ made. record { component = component; g = g; code = code; made = made.0 } ∷ []))
      (r >>= λ made. run_on h g code made >>= up)
  unfolding logged_run
  ran_logged runs component g code (Ok made) = ran_after (with_run runs component g code made.0) (run_on h g code made)
  ran_logged runs component g code (Err e) = ap (λ (t : List ProgramRun). Err (e, t)) (sym (append-nil runs))

  check_logged : {A B : Type 0} (runs : List ProgramRun) (r : Result A HintFault) (f : A → Result (B × Logged) LoggedFault)
      (k : A → Result (B × Count) HintFault) (l : A → List ProgramRun) → ((x : A) → f x ≡ logged (runs ++ l x) (k x))
      → (after runs r >>= f) ≡ logged (runs ++ once r l) (r >>= k)
  check_logged runs (Ok x) f k l h = h x
  check_logged runs (Err e) f k l h = ap (λ (t : List ProgramRun). Err (e, t)) (sym (append-nil runs))

  begun_by_logged : (component : Option ComponentOf) (g : ℕ) (m : Bearings) (glyph : glyf.Glyph) (count : Count)
      (runs : List ProgramRun)
      → logged_begun_by h s root component g m glyph (count, runs)
      ≡ logged (runs ++ begun_by_runs h s root component g m glyph count) (begun_by h s root component g m glyph count)
  unfolding logged_begun_by logged_simple begun_by begun_by_runs
  begun_by_logged component g m Empty count runs = rw (append-nil runs) refl
  begun_by_logged component g m (Simple shape) count runs =
      ran_logged runs component g shape.code (simple_made s h.on root m shape count)
  begun_by_logged component g m (Composite assembly) count runs = rw (append-nil runs) refl

  begun_logged : (component : Option ComponentOf) (g : ℕ) (count : Count) (runs : List ProgramRun)
      → logged_begun h font s root component g (count, runs)
      ≡ logged (runs ++ begun_runs h font s root component g count) (begun h font s root component g count)
  unfolding logged_begun begun begun_runs
  begun_logged component g count runs =
      check_logged runs (font g) _ _ _ (λ shape. begun_by_logged component g shape.bearings shape.glyph count runs)

  one_logged : {B : Type 0} (runs : List ProgramRun) (r : Result Count HintFault) (f : Logged → Result (B × Logged) LoggedFault)
      (k : Count → Result (B × Count) HintFault) (l : Count → List ProgramRun)
      → ((c : Count) → f (c, runs) ≡ logged (runs ++ l c) (k c))
      → ((after runs r >>= λ counted. Ok (counted, runs)) >>= f) ≡ logged (runs ++ once r l) (r >>= k)
  one_logged runs (Ok c) f k l h = h c
  one_logged runs (Err e) f k l h = ap (λ (t : List ProgramRun). Err (e, t)) (sym (append-nil runs))

  component_logged : (levels : ℕ) (component : Option ComponentOf) (g : ℕ) (count : Count) (runs : List ProgramRun)
      → logged_begun_component h font s root levels component g (count, runs)
      ≡ logged (runs ++ begun_component_runs h font s root levels component g count)
      (begun_component h font s root levels component g count)
  unfolding logged_begun_component logged_one begun_component begun_component_runs
  component_logged zero component g count runs = rw (append-nil runs) refl
  component_logged (suc levels) component g count runs =
      one_logged runs (one_component root count) (λ c. logged_begun h font s root component g c)
      (λ c. begun h font s root component g c) (λ c. begun_runs h font s root component g c)
      (λ c. begun_logged component g c runs)

  -- in the loop: what a component gives, plain and logged
  pub logged_is : (levels : ℕ) (component : Option ComponentOf) (g : ℕ) (count : Count) (runs : List ProgramRun)
      (q : Result (Step × Count) HintFault) → begun_component h font s root levels component g count ≡ q
      → logged_begun_component h font s root levels component g (count, runs)
      ≡ logged (runs ++ begun_component_runs h font s root levels component g count) q
  logged_is levels component g count runs q e =
      component_logged levels component g count runs
      ∙ ap (λ (r : Result (Step × Count) HintFault).
      logged (runs ++ begun_component_runs h font s root levels component g count) r) e

  runs_of_logged : {A : Type 0} (runs : List ProgramRun) (q : Result (A × Count) HintFault) → runs_in (logged runs q) ≡ runs
  runs_of_logged runs (Ok x) = refl
  runs_of_logged runs (Err e) = refl

  -- when a component was begun, the programs so far are the first of what is due
  pub first_of_begun : (below : List Waiting) (levels : ℕ) (c : OpenComposite) (component : Component) (left : List Component)
      (count : Logged) (due : LoggedOutcome) (runs : List ProgramRun) (q : Result (Step × Count) HintFault)
      → logged_rest_of h font s root max_depth below (logged_given_by h font s root (max_depth - length below)
      (Open c, count)) ≡ due
      → c.left ≡ component ∷ left → levels ≡ max_depth - length below
      → logged_begun_component h font s root levels (next_of c) component.glyph count ≡ logged runs q → AreFirst runs (runs_in due)
  first_of_begun below levels c component left count due runs q i e l b =
      let w : Waiting = record { component = component; composite = with_next c left } in
      let k = max_depth - length below in
      let begun = rw l at b in
      let t = logged_begun_component h font s root (max_depth - length below) (next_of c) component.glyph count in
      let P : LoggedOutcome → Type 0 = λ o. AreFirst (runs_in t) (runs_in o) in
      let f = subst P (down h font s root below c component left count due i e)
      (first_then (runs_in t) _ _ (first_then (runs_in t) _ _
      (first_chain t (logged_given_by h font s root (max_depth - length below - 1))
      (λ x. first_given (max_depth - length below - 1) x))
      (first_chain (t >>= logged_given_by h font s root (max_depth - length below - 1))
      (logged_goes_into h font s root (max_depth - length below) w) (λ x. first_into (max_depth - length below) w x)))
      (first_rest max_depth below ((t >>= logged_given_by h font s root (max_depth - length below - 1))
      >>= logged_goes_into h font s root (max_depth - length below) w))) in
      let same : runs_in t ≡ runs =
      ap (λ (o : Result (Step × Logged) LoggedFault). runs_in o) begun ∙ runs_of_logged runs q in
      let Q : List ProgramRun → Type 0 = λ rs. AreFirst rs (runs_in due) in
      subst Q same f

  -- when the composite's program ran, the programs so far are the first of what is due
  pub first_of_closed : (below : List Waiting) (levels : ℕ) (c : OpenComposite) (count : Logged) (due : LoggedOutcome)
      (runs : List ProgramRun) (q : Result (Made × Count) HintFault)
      → logged_rest_of h font s root max_depth below (logged_given_by h font s root levels (Open c, count)) ≡ due
      → c.left ≡ [] → logged_run h c.node.component c.node.g c.glyph.code (c.base, count) ≡ logged runs q
      → AreFirst runs (runs_in due)
  first_of_closed below levels c count due runs q i e r =
      let t = logged_run h c.node.component c.node.g c.glyph.code (c.base, count) in
      let P : LoggedOutcome → Type 0 = λ o. AreFirst (runs_in t) (runs_in o) in
      let f = subst P (sym (ap (λ (o : LoggedOutcome). logged_rest_of h font s root max_depth below o)
      (closes h font s root levels c count e)) ∙ i) (first_rest max_depth below t) in
      let same : runs_in t ≡ runs = ap (λ (o : LoggedOutcome). runs_in o) r ∙ runs_of_logged runs q in
      let Q : List ProgramRun → Type 0 = λ rs. AreFirst rs (runs_in due) in
      subst Q same f

  -- ---- the root is begun

  pub begun_is : (component : Option ComponentOf) (g : ℕ) (count : Count) (runs : List ProgramRun)
      (q : Result (Step × Count) HintFault)
      → begun h font s root component g count ≡ q → logged_begun h font s root component g (count, runs)
      ≡ logged (runs ++ begun_runs h font s root component g count) q
  begun_is component g count runs q e =
      begun_logged component g count runs
      ∙ ap (λ (r : Result (Step × Count) HintFault). logged (runs ++ begun_runs h font s root component g count) r) e

  pub first_of_root : (component : Option ComponentOf) (g : ℕ) (count : Logged) (runs : List ProgramRun)
      (q : Result (Step × Count) HintFault)
      → logged_begun h font s root component g count ≡ logged runs q
      → AreFirst runs (runs_in (logged_assembled h font s root (logged_component h font s root max_depth) component g count))
  first_of_root component g count runs q b =
      let t = logged_begun h font s root component g count in
      let P : LoggedOutcome → Type 0 = λ o. AreFirst (runs_in t) (runs_in o) in
      let f = subst P (sym (assembled_by h font s root max_depth component g count))
      (first_chain t (logged_given_by h font s root max_depth) (λ x. first_given max_depth x)) in
      let same : runs_in t ≡ runs =
      ap (λ (o : Result (Step × Logged) LoggedFault). runs_in o) b ∙ runs_of_logged runs q in
      let Q : List ProgramRun → Type 0 =
      λ rs. AreFirst rs (runs_in (logged_assembled h font s root (logged_component h font s root max_depth) component g count)) in
      subst Q same f

  -- a composite that is begun has started no program
  none_ran : (q : Result (Made × Count) HintFault) (c : OpenComposite) (counted : Count) (runs : List ProgramRun)
      → (q >>= up) ≡ Ok (Open c, counted) → runs ≡ []
  unfolding shut_in shut
  none_ran (Ok ran) c counted runs e = let d : true ≡ false = ap shut_in e in absurd (cc)
  none_ran (Err d) c counted runs e = absurd (cc)

  none_made : (r : Result (Made × Count) HintFault) (f : Made × Count → Result (Made × Count) HintFault)
      (l : Made × Count → List ProgramRun) (c : OpenComposite) (counted : Count)
      → (r >>= λ made. f made >>= up) ≡ Ok (Open c, counted) → once r l ≡ []
  none_made (Ok made) f l c counted e = none_ran (f made) c counted (l made) e
  none_made (Err d) f l c counted e = refl

  none_by : (component : Option ComponentOf) (g : ℕ) (m : Bearings) (glyph : glyf.Glyph) (count counted : Count) (c : OpenComposite)
      → begun_by h s root component g m glyph count ≡ Ok (Open c, counted) → begun_by_runs h s root component g m glyph count ≡ []
  unfolding begun_by begun_by_runs
  none_by component g m Empty count counted c e = refl
  none_by component g m (Simple shape) count counted c e =
      none_made (simple_made s h.on root m shape count) (run_on h g shape.code) _ c counted e
  none_by component g m (Composite assembly) count counted c e = refl

  once_none : {A B : Type 0} (r : Result A HintFault) (k : A → Result B HintFault) (l : A → List ProgramRun) (y : B)
      → ((x : A) → k x ≡ Ok y → l x ≡ []) → (r >>= k) ≡ Ok y → once r l ≡ []
  once_none (Ok x) k l y h e = h x e
  once_none (Err d) k l y h e = refl

  none_begun : (component : Option ComponentOf) (g : ℕ) (count counted : Count) (c : OpenComposite)
      → begun h font s root component g count ≡ Ok (Open c, counted) → begun_runs h font s root component g count ≡ []
  unfolding begun begun_runs
  none_begun component g count counted c e =
      once_none (font g) _ _ (Open c, counted) (λ shape f. none_by component g shape.bearings shape.glyph count counted c f) e

  -- so the root gives what it gives as an open composite
  pub opened : (component : Option ComponentOf) (g : ℕ) (count counted : Count) (c : OpenComposite)
      → begun h font s root component g count ≡ Ok (Open c, counted)
      → (begun_runs h font s root component g count ≡ [])
      × (logged_assembled h font s root (logged_component h font s root max_depth) component g (count, [])
      ≡ logged_left h font s root max_depth c (counted, []))
  opened component g count counted c e =
      let n = none_begun component g count counted c e in (
        n,
        assembled_by h font s root max_depth component g (count, [])
            ∙ ap (λ (q : Result (Step × Logged) LoggedFault). q >>= logged_given_by h font s root max_depth)
            (begun_is component g count [] (Ok (Open c, counted)) e)
            ∙ ap (λ (rs : List ProgramRun). logged_left h font s root max_depth c (counted, rs)) n,
      )

-- ---- what a hinter has run

pub stops_here : {S A : Type 0} (Leads : S → List ProgramRun → S → Type 0) (was now : S) (made : Made) (e : HintFault)
    (r : Result A HintFault) (runs : List ProgramRun) (count : Count) (due : LoggedOutcome) → Leads was runs now
    → AreFirst runs (runs_in due) → Fails e r → ((d : HintFault) → r ≡ Err d → due ≡ Err (d, runs))
    → Walks Leads was now made (Err e) count due
stops_here Leads was now made OutOfMemory r runs count due l a f h = record { by = (runs, l, a) }
stops_here Leads was now made e r runs count due l a f h = record { by = (runs, l, h e f) }

pub stops_on : {S A : Type 0} (Leads : S → List ProgramRun → S → Type 0)
    (then : (x y z : S) (some more : List ProgramRun) → Leads x some y → Leads y more z → Leads x (some ++ more) z)
    (was mid now : S) (made : Made) (e : HintFault) (r : Result A HintFault) (runs more : List ProgramRun) (count : Count)
    (due : LoggedOutcome) → Leads was runs mid → StopsAfter Leads mid now e more → AreFirst (runs ++ more) (runs_in due)
    → Fails e r → ((d : HintFault) → r ≡ Err d → due ≡ Err (d, runs ++ more)) → Walks Leads was now made (Err e) count due
stops_on Leads then was mid now made OutOfMemory r runs more count due l s a f h = record {
  by = (
    runs ++ s.0,
    then was mid now runs s.0 l s.2,
    first_then (runs ++ s.0) (runs ++ more) (runs_in due)
        (s.1.0, append_assoc runs s.0 s.1.0 ∙ ap (λ (t : List ProgramRun). runs ++ t) s.1.1) a,
  );
}
stops_on Leads then was mid now made e r runs more count due l s a f h =
    record { by = (runs ++ more, then was mid now runs more l s, h e f) }

-- ---- a glyph that is begun

-- a simple glyph that is made starts its program
pub simple_runs : (h : Hinting) (font : Shapes) (s : Scale) (root : ℕ) (component : Option ComponentOf) (g : ℕ)
    (count counted : Count) (m : Bearings) (shape : SimpleView) (made : Made)
    → font g ≡ Ok (record { glyph = Simple shape; bearings = m })
    → simple_made s h.on root m shape count ≡ Ok (made, counted)
    → begun_runs h font s root component g count
    ≡ record { component = component; g = g; code = shape.code; made = made } ∷ []
unfolding begun_runs begun_by_runs
simple_runs h font s root component g count counted m shape made a e = rw (a, e) refl

-- one that is not made starts none
pub none_started : {S : Type 0} (Leads : S → List ProgramRun → S → Type 0) (x : S) (e : HintFault) (h : Hinting) (font : Shapes)
    (s : Scale) (root : ℕ) (component : Option ComponentOf) (g : ℕ) (count : Count) (m : Bearings)
    (shape : SimpleView)
    → font g ≡ Ok (record { glyph = Simple shape; bearings = m })
    → Leads x [] x → Fails e (simple_made s h.on root m shape count)
    → StopsAfter Leads x x e (begun_runs h font s root component g count)
unfolding begun_runs begun_by_runs
none_started Leads x OutOfMemory h font s root component g count m shape a l f = ([], (_, refl), l)
none_started Leads x e h font s root component g count m shape a l f = rw (a, f) l

any_once : {A : Type 0} (P : List ProgramRun → Type 0) (r : Result A HintFault) (f : A → List ProgramRun) → P []
    → ((x : A) → P (f x)) → P (once r f)
any_once P (Ok x) f n h = h x
any_once P (Err e) f n h = n

any_by : (P : List ProgramRun → Type 0) (h : Hinting) (s : Scale) (root : ℕ) (component : Option ComponentOf) (g : ℕ)
    (m : Bearings) (glyph : glyf.Glyph) (count : Count)
    → P [] → ((run : ProgramRun) → P (run ∷ [])) → P (begun_by_runs h s root component g m glyph count)
unfolding begun_by_runs
any_by P h s root component g m Empty count n one = n
any_by P h s root component g m (Simple shape) count n one =
    any_once P (simple_made s h.on root m shape count) _ n
    (λ made. one (record { component = component; g = g; code = shape.code; made = made.0 }))
any_by P h s root component g m (Composite assembly) count n one = n

any_begun : (P : List ProgramRun → Type 0) (h : Hinting) (font : Shapes) (s : Scale) (root : ℕ) (component : Option ComponentOf)
    (g : ℕ) (count : Count) → P []
    → ((run : ProgramRun) → P (run ∷ [])) → P (begun_runs h font s root component g count)
unfolding begun_runs
any_begun P h font s root component g count n one =
    any_once P (font g) _ n (λ shape. any_by P h s root component g shape.bearings shape.glyph count n one)

stands : {S A : Type 0} (Leads : S → List ProgramRun → S → Type 0) (x : S) (r : Result A HintFault) (runs : List ProgramRun)
    → Leads x runs x → HasRun Leads x x r runs
stands Leads x (Ok y) runs l = l
stands Leads x (Err OutOfMemory) runs l = (runs, first_same runs, l)
stands Leads x (Err e) runs l = l

-- a hinter that recalls glyphs takes each for run
pub recalls : {S A : Type 0} (Leads : S → List ProgramRun → S → Type 0) (x : S) (r : Result A HintFault) (h : Hinting)
    (font : Shapes) (s : Scale) (root : ℕ) (component : Option ComponentOf) (g : ℕ) (count : Count) → Leads x [] x
    → ((run : ProgramRun) → Leads x (run ∷ []) x)
    → HasRun Leads x x r (begun_runs h font s root component g count)
recalls Leads x r h font s root component g count n one =
    stands Leads x r (begun_runs h font s root component g count)
    (any_begun (λ runs. Leads x runs x) h font s root component g count n one)

-- no program, and then a walk
pub none_then : {S : Type 0} (Leads : S → List ProgramRun → S → Type 0)
    (then : (x y z : S) (some more : List ProgramRun) → Leads x some y → Leads y more z → Leads x (some ++ more) z)
    (was mid now : S) (made : Made) (r : Result (Unit {0}) HintFault) (count : Count) (due : LoggedOutcome) → Leads was [] mid
    → Walks Leads mid now made r count due → Walks Leads was now made r count due
none_then Leads then was mid now made (Ok x) count due n w = record { by = (w.by.0, then was mid now [] w.by.0 n w.by.1, w.by.2) }
none_then Leads then was mid now made (Err OutOfMemory) count due n w =
    record { by = (w.by.0, then was mid now [] w.by.0 n w.by.1, w.by.2) }
none_then Leads then was mid now made (Err e) count due n w =
    record { by = (w.by.0, then was mid now [] w.by.0 n w.by.1, w.by.2) }

-- what a walk has run
pub walk_leads : {S : Type 0} (Leads : S → List ProgramRun → S → Type 0) (was now : S) (made : Made)
    (r : Result (Unit {0}) HintFault) (count : Count) (due : LoggedOutcome) → Walks Leads was now made r count due
    → HasRun Leads was now r (runs_in due)
walk_leads Leads was now made (Ok x) count due w = rw w.by.2 w.by.1
walk_leads Leads was now made (Err OutOfMemory) count due w = (w.by.0, w.by.2, w.by.1)
walk_leads Leads was now made (Err e) count due w = rw w.by.2 w.by.1

-- where programs are not watched, they lead anywhere
pub leads_anywhere : {S A : Type 0} (was now : S) (r : Result A HintFault) (runs : List ProgramRun)
    → HasRun (λ _ _ _. Unit {0}) was now r runs
leads_anywhere was now (Ok x) runs = tt
leads_anywhere was now (Err OutOfMemory) runs = ([], (runs, refl), tt)
leads_anywhere was now (Err e) runs = tt

-- The walk over components by its steps gives what the recursion on components gives: `begins`, `joins`, `closes`.
-- For the walk, one loop with the composites that wait in a list.
use Rattle.std.proofs.Common.{◌≡◌, ℕ, zero, suc, ◌+◌, ◌-◌, List, [], ◌∷◌, ◌++◌, length, Option, Some, refl, sym}
use Rattle.std.proofs.Common.{ap, ◌∙◌, subst, Result, Ok, Err, arith}
use Rattle.std.proofs.Common.{length-append}
use Rattle.fx_hint.specs.Limits.{max_depth}
use Rattle.fx_fixed.specs.Chain.{◌>>=◌}
use Rattle.fx_vary.specs.declared.metrics.Bearings.{Bearings}
use Rattle.fx_hint.specs.Shapes.{Shapes}
use Rattle.fx_glyf.specs.declared.component.Component.{Component}
use Rattle.fx_glyf.specs.declared.glyph.Glyph as glyf
use Rattle.fx_glyf.specs.declared.glyph.Glyph.TheVariants.{Empty, Simple, Composite}
use Rattle.fx_scale.specs.declared.scale.Scale.{Scale}
use Rattle.fx_hint.specs.declared.component.ComponentOf.{ComponentOf}
use Rattle.fx_hint.specs.declared.made.Made.{Made}
use Rattle.fx_hint.specs.declared.below.OpenComposite.{OpenComposite}
use Rattle.fx_hint.specs.declared.below.Waiting.{Waiting}
use Rattle.fx_hint.specs.inner.Steps.{Step, Assembled, Open}
use Rattle.fx_hint.specs.declared.fault.HintFault.{HintFault}
use Rattle.fx_hint.specs.Hinting.{Hinting}
use Rattle.fx_hint.specs.Placing.{with_component}
use Rattle.fx_hint.specs.Runs.{Logged, LoggedFault, after, logged_one, logged_simple, logged_run, logged_components, logged_made_of, logged_assembled, logged_component}
use Rattle.fx_hint.specs.inner.RunSteps.{LoggedOutcome, logged_begun_by, logged_begun, logged_begun_component, logged_left, logged_given_by, logged_goes_into, logged_rest_of}

-- the next component of an open composite
abbrev pub next_of : OpenComposite → Option ComponentOf
next_of c = Some (record { composite = c.node.g; number = c.before + 1 })

-- the composite after it
abbrev pub with_next : OpenComposite → List Component → OpenComposite
with_next c left = record c { before = c.before + 1; left = left }

-- a chain that is parted
last_of : {C D G E : Type 0} (r : Result C E) (f : C → Result D E) (g : C → Result G E) (k : G → Result D E)
    → ((z : C) → f z ≡ (g z >>= k)) → (r >>= f) ≡ ((r >>= g) >>= k)
last_of (Ok z) f g k h = h z
last_of (Err e) f g k h = refl

one_after : {B C D E : Type 0} (q : Result B E) (c : B → Result C E) (k : C → Result D E)
    → ((q >>= c) >>= k) ≡ (q >>= λ more. c more >>= k)
one_after (Ok y) c k = refl
one_after (Err e) c k = refl

two_after : {A B C D E : Type 0} (r : Result A E) (a : A → Result B E) (b : A → B → Result C E) (k : C → Result D E)
    → ((r >>= λ m. a m >>= λ more. b m more) >>= k) ≡ (r >>= λ m. a m >>= λ more. b m more >>= k)
two_after (Ok x) a b k = one_after (a x) (b x) k
two_after (Err e) a b k = refl

module _ (h : Hinting) (font : Shapes) (s : Scale) (root : ℕ) where
  again : (levels : ℕ) (q : LoggedOutcome) → q
      ≡ ((q >>= λ ran. Ok (Assembled ran.0, ran.1)) >>= logged_given_by h font s root levels)
  again levels (Ok ran) = refl
  again levels (Err e) = refl

  simple_by : (levels : ℕ) (r : LoggedOutcome) (f : Made × Logged → LoggedOutcome)
      → (r >>= f) ≡ ((r >>= λ made. f made >>= λ ran. Ok (Assembled ran.0, ran.1)) >>= logged_given_by h font s root levels)
  simple_by levels (Ok made) f = again levels (f made)
  simple_by levels (Err e) f = refl

  -- a glyph that has been read is begun, and then gives what it gives
  made_by : (levels : ℕ) (component : Option ComponentOf) (g : ℕ) (m : Bearings) (glyph : glyf.Glyph) (count : Logged)
      → logged_made_of h s root (logged_component h font s root levels) component g m glyph count
      ≡ (logged_begun_by h s root component g m glyph count >>= logged_given_by h font s root levels)
  unfolding logged_made_of logged_begun_by
  made_by levels component g m Empty count = refl
  made_by levels component g m (Simple shape) count =
      simple_by levels (logged_simple s h.on root m shape count) (logged_run h component g shape.code)
  made_by levels component g m (Composite assembly) count = refl

  -- a glyph is begun, and then gives what it gives
  pub assembled_by : (levels : ℕ) (component : Option ComponentOf) (g : ℕ) (count : Logged)
      → logged_assembled h font s root (logged_component h font s root levels) component g count
      ≡ (logged_begun h font s root component g count >>= logged_given_by h font s root levels)
  unfolding logged_assembled logged_begun
  assembled_by levels component g count =
      last_of (after count.1 (font g))
      (λ shape. logged_made_of h s root (logged_component h font s root levels) component g shape.bearings shape.glyph count)
      (λ shape. logged_begun_by h s root component g shape.bearings shape.glyph count) (logged_given_by h font s root levels)
      (λ shape. made_by levels component g shape.bearings shape.glyph count)

  component_by : (levels : ℕ) (component : Option ComponentOf) (g : ℕ) (count : Logged)
      → logged_component h font s root levels component g count
      ≡ (logged_begun_component h font s root levels component g count >>= logged_given_by h font s root (levels - 1))
  unfolding logged_component logged_begun_component
  component_by zero component g count = refl
  component_by (suc levels) component g count =
      let e : suc levels - 1 ≡ levels = omega arith in
      rw e (last_of (logged_one root count) (λ counted. logged_assembled h font s root
      (logged_component h font s root levels) component g counted)
      (λ counted. logged_begun h font s root component g counted) (logged_given_by h font s root levels)
      (λ counted. assembled_by levels component g counted))

  -- the next component of an open composite: the composite waits for it
  waits : (levels : ℕ) (c : OpenComposite) (component : Component) (left : List Component) (count : Logged)
      → c.left ≡ component ∷ left → logged_left h font s root levels c count
      ≡ (logged_component h font s root levels (next_of c) component.glyph count
      >>= logged_goes_into h font s root levels (record { component = component; composite = with_next c left }))
  unfolding logged_components
  waits levels c component left count e =
      ap (λ (ps : List Component).
      logged_components s h.on (logged_component h font s root levels) c.node.g c.before ps c.base count
      >>= logged_run h c.node.component c.node.g c.glyph.code) e
      ∙ two_after (logged_component h font s root levels (next_of c) component.glyph count)
      (λ m. after m.1.1 (with_component s h.on c.node.g component c.base m.0))
      (λ m more. logged_components s h.on (logged_component h font s root levels) c.node.g (c.before + 1) left more m.1)
      (logged_run h c.node.component c.node.g c.glyph.code)

  -- no component is left: the composite's program runs
  pub closes : (levels : ℕ) (c : OpenComposite) (count : Logged) → c.left ≡ []
      → logged_left h font s root levels c count ≡ logged_run h c.node.component c.node.g c.glyph.code (c.base, count)
  unfolding logged_components
  closes levels c count e =
      ap (λ (ps : List Component).
      logged_components s h.on (logged_component h font s root levels) c.node.g c.before ps c.base count
      >>= logged_run h c.node.component c.node.g c.glyph.code) e

  -- a refusal is the root's
  rest_refused : (levels : ℕ) (ws : List Waiting) (e : LoggedFault) → logged_rest_of h font s root levels ws (Err e) ≡ Err e
  unfolding logged_rest_of
  rest_refused levels [] e = refl
  rest_refused levels (w ∷ ws) e =
      ap (λ (q : LoggedOutcome). q >>= logged_goes_into h font s root levels w) (rest_refused (levels - 1) ws e)

  -- one more composite that waits, the innermost
  rest_after : (levels : ℕ) (ws : List Waiting) (w : Waiting) (r : LoggedOutcome)
      → logged_rest_of h font s root levels (ws ++ w ∷ []) r
      ≡ logged_rest_of h font s root levels ws (r >>= logged_goes_into h font s root (levels - length ws) w)
  unfolding logged_rest_of
  rest_after levels [] w r =
      let e : levels - 0 ≡ levels = omega arith in
      ap (λ k. r >>= logged_goes_into h font s root k w) (sym e)
  rest_after levels (v ∷ ws) w r =
      let e : levels - 1 - length ws ≡ levels - suc (length ws) = omega arith in
      ap (λ (q : LoggedOutcome). q >>= logged_goes_into h font s root levels v)
      (rest_after (levels - 1) ws w r
      ∙ ap (λ k. logged_rest_of h font s root (levels - 1) ws (r >>= logged_goes_into h font s root k w)) e)

  -- ---- the steps of the loop: what the root gives stays the same, `due`

  -- the root is begun
  pub begins : (component : Option ComponentOf) (g : ℕ) (count counted : Logged) (step : Step)
      → logged_begun h font s root component g count ≡ Ok (step, counted)
      → logged_assembled h font s root (logged_component h font s root max_depth) component g count
      ≡ logged_given_by h font s root max_depth (step, counted)
  begins component g count counted step e =
      assembled_by max_depth component g count
      ∙ ap (λ (q : Result (Step × Logged) LoggedFault). q >>= logged_given_by h font s root max_depth) e

  -- and no composite waits yet
  pub opens : (below : List Waiting) (c : OpenComposite) (count : Logged) → below ≡ []
      → logged_rest_of h font s root max_depth below (logged_given_by h font s root (max_depth - length below) (Open c, count))
      ≡ logged_left h font s root max_depth c count
  unfolding logged_rest_of
  opens below c count b =
      let P : List Waiting → Type 0 =
      λ ws. logged_rest_of h font s root max_depth ws (logged_given_by h font s root (max_depth - length ws) (Open c, count))
      ≡ logged_left h font s root max_depth c count in
      subst P (sym b) refl

  pub not_begun : (component : Option ComponentOf) (g : ℕ) (count : Logged) (e : LoggedFault)
      → logged_begun h font s root component g count ≡ Err e
      → logged_assembled h font s root (logged_component h font s root max_depth) component g count ≡ Err e
  not_begun component g count e b =
      assembled_by max_depth component g count ∙ ap (λ (q : Result
      (Step × Logged) LoggedFault). q >>= logged_given_by h font s root max_depth) b

  -- an assembled glyph goes into the composite that waits for it
  into : (below all : List Waiting) (w : Waiting) (made : Made) (count : Logged) (due : LoggedOutcome)
      → logged_rest_of h font s root max_depth all (Ok (made, count)) ≡ due → all ≡ below ++ w ∷ []
      → logged_rest_of h font s root max_depth below (logged_goes_into h font s root (max_depth - length below) w
      (made, count)) ≡ due
  into below all w made count due i e =
      sym (rest_after max_depth below w (Ok (made, count)))
      ∙ sym (ap (λ (ws : List Waiting). logged_rest_of h font s root max_depth ws (Ok (made, count))) e) ∙ i

  pub joins : (below all : List Waiting) (w : Waiting) (made more : Made) (count : Logged) (due : LoggedOutcome)
      → logged_rest_of h font s root max_depth all (Ok (made, count)) ≡ due → all ≡ below ++ w ∷ []
      → with_component s h.on w.composite.node.g w.component w.composite.base made ≡ Ok more
      → logged_rest_of h font s root max_depth below (logged_given_by h font s root (max_depth - length below)
      (Open (record w.composite { base = more }), count)) ≡ due
  joins below all w made more count due i e j =
      sym (ap (λ (q : Result Made HintFault). logged_rest_of h font s root max_depth below
      (after count.1 q >>= λ more. logged_left h font s root (max_depth - length below)
      (record w.composite { base = more }) count)) j)
      ∙ into below all w made count due i e

  pub not_joined : (below all : List Waiting) (w : Waiting) (made : Made) (count : Logged) (due : LoggedOutcome) (d : HintFault)
      → logged_rest_of h font s root max_depth all (Ok (made, count)) ≡ due → all ≡ below ++ w ∷ []
      → with_component s h.on w.composite.node.g w.component w.composite.base made ≡ Err d → due ≡ Err (d, count.1)
  not_joined below all w made count due d i e j =
      sym (into below all w made count due i e)
      ∙ ap (λ (q : Result Made HintFault). logged_rest_of h font s root max_depth below
      (after count.1 q >>= λ more. logged_left h font s root (max_depth - length below)
      (record w.composite { base = more }) count)) j
      ∙ rest_refused max_depth below (d, count.1)

  -- no component is left: the program runs
  pub runs : (below : List Waiting) (levels : ℕ) (c : OpenComposite) (count counted : Logged) (made : Made) (due : LoggedOutcome)
      → logged_rest_of h font s root max_depth below (logged_given_by h font s root levels (Open c, count)) ≡ due → c.left ≡ []
      → logged_run h c.node.component c.node.g c.glyph.code (c.base, count) ≡ Ok (made, counted)
      → logged_rest_of h font s root max_depth below (Ok (made, counted)) ≡ due
  runs below levels c count counted made due i e r =
      sym (ap (λ (q : LoggedOutcome). logged_rest_of h font s root max_depth below q) (closes levels c count e ∙ r)) ∙ i

  pub not_run : (below : List Waiting) (levels : ℕ) (c : OpenComposite) (count : Logged) (due : LoggedOutcome) (d : LoggedFault)
      → logged_rest_of h font s root max_depth below (logged_given_by h font s root levels (Open c, count)) ≡ due → c.left ≡ []
      → logged_run h c.node.component c.node.g c.glyph.code (c.base, count) ≡ Err d → due ≡ Err d
  not_run below levels c count due d i e r =
      sym i ∙ ap (λ (q : LoggedOutcome). logged_rest_of h font s root max_depth below q) (closes levels c count e ∙ r)
      ∙ rest_refused max_depth below d

  -- the next component is begun, and the composite waits for it
  pub down : (below : List Waiting) (c : OpenComposite) (component : Component) (left : List Component) (count : Logged)
      (due : LoggedOutcome) → logged_rest_of h font s root max_depth below (logged_given_by h font s root (max_depth - length below)
      (Open c, count)) ≡ due
      → c.left ≡ component ∷ left
      → logged_rest_of h font s root max_depth below
      ((logged_begun_component h font s root (max_depth - length below) (next_of c) component.glyph count
      >>= logged_given_by h font s root (max_depth - length below - 1))
      >>= logged_goes_into h font s root (max_depth - length below)
      (record { component = component; composite = with_next c left })) ≡ due
  down below c component left count due i e =
      sym (ap (λ (q : LoggedOutcome). logged_rest_of h font s root max_depth below q)
      (waits (max_depth - length below) c component left count e
      ∙ ap (λ (q : LoggedOutcome). q >>= logged_goes_into h font s root (max_depth - length below)
      (record { component = component; composite = with_next c left }))
      (component_by (max_depth - length below) (next_of c) component.glyph count)))
      ∙ i

  pub descends : (below all : List Waiting) (levels : ℕ) (c : OpenComposite) (component : Component) (left : List Component)
      (step : Step) (count counted : Logged) (due : LoggedOutcome)
      → logged_rest_of h font s root max_depth below (logged_given_by h font s root (max_depth - length below)
      (Open c, count)) ≡ due
      → c.left ≡ component ∷ left → levels ≡ max_depth - length below
      → logged_begun_component h font s root levels (next_of c) component.glyph count ≡ Ok (step, counted)
      → all ≡ below ++ record { component = component; composite = with_next c left } ∷ []
      → logged_rest_of h font s root max_depth all (logged_given_by h font s root (max_depth - length all) (step, counted)) ≡ due
  descends below all levels c component left step count counted due i e l b a =
      let w : Waiting = record { component = component; composite = with_next c left } in
      let logged_begun : logged_begun_component h font s root (max_depth - length below) (next_of c) component.glyph count
      ≡ Ok (step, counted) = rw l at b in
      let n : length (below ++ w ∷ []) ≡ length below + 1 = length-append below (w ∷ []) in
      let deeper : max_depth - length (below ++ w ∷ []) ≡ max_depth - length below - 1 = omega arith in
      let there = rest_after max_depth below w (logged_given_by h font s root (max_depth - length below - 1) (step, counted))
      ∙ sym (ap (λ (q : Result (Step × Logged) LoggedFault). logged_rest_of h font s root max_depth below
      ((q >>= logged_given_by h font s root (max_depth - length below - 1))
      >>= logged_goes_into h font s root (max_depth - length below) w)) logged_begun)
      ∙ down below c component left count due i e in
      let P : ℕ → Type 0 =
      λ k. logged_rest_of h font s root max_depth (below ++ w ∷ []) (logged_given_by h font s root k (step, counted)) ≡ due in
      let Q : List Waiting → Type 0 =
      λ ws. logged_rest_of h font s root max_depth ws (logged_given_by h font s root (max_depth - length ws) (step, counted))
      ≡ due in
      subst Q (sym a) (subst P (sym deeper) there)

  pub not_descended : (below : List Waiting) (levels : ℕ) (c : OpenComposite) (component : Component) (left : List Component)
      (count : Logged) (due : LoggedOutcome) (d : LoggedFault)
      → logged_rest_of h font s root max_depth below (logged_given_by h font s root (max_depth - length below)
      (Open c, count)) ≡ due
      → c.left ≡ component ∷ left → levels ≡ max_depth - length below
      → logged_begun_component h font s root levels (next_of c) component.glyph count ≡ Err d → due ≡ Err d
  not_descended below levels c component left count due d i e l b =
      let w : Waiting = record { component = component; composite = with_next c left } in
      let logged_begun : logged_begun_component h font s root (max_depth - length below) (next_of c) component.glyph count
      ≡ Err d = rw l at b in
      sym (down below c component left count due i e)
      ∙ ap (λ (q : Result (Step × Logged) LoggedFault). logged_rest_of h font s root max_depth below
      ((q >>= logged_given_by h font s root (max_depth - length below - 1))
      >>= logged_goes_into h font s root (max_depth - length below) w)) logged_begun
      ∙ rest_refused max_depth below d

  -- the next component is assembled at once, and goes into the composite
  pub fills : (below : List Waiting) (levels : ℕ) (c : OpenComposite) (component : Component) (left : List Component)
      (made more : Made) (count counted : Logged) (due : LoggedOutcome)
      → logged_rest_of h font s root max_depth below (logged_given_by h font s root (max_depth - length below)
      (Open c, count)) ≡ due
      → c.left ≡ component ∷ left → levels ≡ max_depth - length below
      → logged_begun_component h font s root levels (next_of c) component.glyph count ≡ Ok (Assembled made, counted)
      → with_component s h.on c.node.g component c.base made ≡ Ok more
      → logged_rest_of h font s root max_depth below
      (logged_given_by h font s root (max_depth - length below) (Open (record (with_next c left) { base = more }), counted)) ≡ due
  fills below levels c component left made more count counted due i e l b j =
      let w : Waiting = record { component = component; composite = with_next c left } in
      joins below (below ++ w ∷ []) w made more counted due
      (descends below (below ++ w ∷ []) levels c component left (Assembled made) count counted due i e l b refl) refl j

  pub not_filled : (below : List Waiting) (levels : ℕ) (c : OpenComposite) (component : Component) (left : List Component)
      (made : Made) (count counted : Logged) (due : LoggedOutcome) (d : HintFault)
      → logged_rest_of h font s root max_depth below (logged_given_by h font s root (max_depth - length below)
      (Open c, count)) ≡ due
      → c.left ≡ component ∷ left → levels ≡ max_depth - length below
      → logged_begun_component h font s root levels (next_of c) component.glyph count ≡ Ok (Assembled made, counted)
      → with_component s h.on c.node.g component c.base made ≡ Err d → due ≡ Err (d, counted.1)
  not_filled below levels c component left made count counted due d i e l b j =
      let w : Waiting = record { component = component; composite = with_next c left } in
      not_joined below (below ++ w ∷ []) w made counted due d
      (descends below (below ++ w ∷ []) levels c component left (Assembled made) count counted due i e l b refl) refl j

  -- no composite waits: the root is assembled
  pub done : (all : List Waiting) (made : Made) (count : Logged) (due : LoggedOutcome)
      → logged_rest_of h font s root max_depth all (Ok (made, count)) ≡ due → all ≡ [] → due ≡ Ok (made, count)
  unfolding logged_rest_of
  done all made count due i e = sym i ∙ ap (λ (ws : List Waiting). logged_rest_of h font s root max_depth ws (Ok (made, count))) e

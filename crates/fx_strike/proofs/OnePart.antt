-- A sketch has one glyph (`glyph_is_one`), and a strike one text (`text_is_one`).
-- Serves the laws `part` and `text`, and the law that a strike exists.
use Rattle.std.proofs.Common.{◌≡◌, refl, sym, ap, ◌∙◌, subst, arith, ℕ, zero, suc, ◌<◌, ℤ, Bool, true, false, not, List, []}
use Rattle.std.proofs.Common.{◌∷◌, ◌++◌, length, get_or, Result, Ok, Err}
use Rattle.std.specs.Prelude.{IsTrue, Contains, filter, ◌==◌}
use Rattle.fx_fixed.specs.Chain.{◌>>=◌, refuse, wanted, map_fault, map_chain}
use Rattle.fx_fixed.specs.Sizes.{ppem_of}
use Rattle.fx_fixed.proofs.Chain.{bind_ok, map_fault_ok, same_Ok}
use Rattle.fx_cmap.specs.Lookup.{glyph_for}
use Rattle.fx_sfnt.specs.Glyphs.{metrics_of}
use Rattle.fx_sfnt.specs.declared.records.Metrics.{Metrics}
use Rattle.fx_hint.specs.Outlines.{GlyphOutlineView}
use Rattle.fx_raster.specs.Rules.{ShapeView, shape_of}
use Rattle.fx_bdf.specs.Glyphs.{Glyph, TrimmedIsOne, glyph_bit}
use Rattle.fx_request.specs.declared.request.OnRefused.TheVariants.{Stop, LeaveOut, Unhinted as DrawUnhinted}
use Rattle.fx_strike.specs.declared.fate.Fate.TheVariants.{Drawn, Unhinted, LeftOut}
use Rattle.fx_request.specs.declared.refusal.Refusal.TheVariants.{BadSize, Halted, TooMuchWork}
use Rattle.fx_request.specs.Faults.{of_font}
use Rattle.fx_strike.specs.Faults.{of_hint, of_raster}
use Rattle.std.specs.List.{flat_map, list_any}
use Rattle.fx_strike.specs.Strike.{Sketch, Setting, Plan, AreGlyphsOf, outline_in, rule_in, sketch_from, Fate, sketches_in}
use Rattle.fx_strike.specs.Strike.{bounded, is_over, mapped_of, over_among, refused_by, plan_within}
use Rattle.fx_strike.specs.Strike.{fate_by, machineless, glyph_fate_of, fate_of, fates_of, glyph_sketch_of, is_missing}
use Rattle.fx_strike.specs.Strike.{checked_text, opened_after, opened_of, opened_at, setting_in, setting_of, plan_from, plan_with}
use Rattle.fx_strike.specs.Strike.{plan_in, plan_of, strike_text, FontFileView, Mode, OnRefused, Refusal, rising, Title}
use Rattle.fx_strike.specs.Laws.{GlyphIsOne, TextIsOne, PartIsOne}
use Rattle.fx_strike.proofs.Sketching.{tight_along}

-- ---- one glyph

same_bit : (a b : Bool) → (IsTrue a → IsTrue b) → (IsTrue b → IsTrue a) → a ≡ b
same_bit true true f g = refl
same_bit true false f g = absurd (cc (f refl))
same_bit false true f g = absurd (cc (g refl))
same_bit false false f g = refl

pub glyph_is_one : TrimmedIsOne → GlyphIsOne
glyph_is_one one s g h p q =
    one s.code s.swidth s.dwidth (glyph_bit g) g h
    (record {
      code_is = p.code;
      swidth_is = p.swidth;
      dwidth_is = p.dwidth;
      bits = λ col row. refl;
      tight = p.tight;
      formed = p.formed;
    })
    (record {
      code_is = q.code;
      swidth_is = q.swidth;
      dwidth_is = q.dwidth;
      bits = same;
      tight = tight_along h.box (glyph_bit h) (glyph_bit g) same q.tight;
      formed = q.formed;
    })
  where
    same : (col row : ℤ) → glyph_bit h col row ≡ glyph_bit g col row
    same col row = same_bit (glyph_bit h col row) (glyph_bit g col row) (λ x. (p.bits col row).1 ((q.bits col row).0 x))
        (λ x. (q.bits col row).1 ((p.bits col row).0 x))

pub glyphs_are_one : GlyphIsOne → (ss : List Sketch) (gs hs : List Glyph) → AreGlyphsOf ss gs → AreGlyphsOf ss hs → gs ≡ hs
glyphs_are_one one [] [] [] p q = refl
glyphs_are_one one [] (g ∷ gs) hs p q = absurd p
glyphs_are_one one [] [] (h ∷ hs) p q = absurd q
glyphs_are_one one (s ∷ ss) [] hs p q = absurd p
glyphs_are_one one (s ∷ ss) (g ∷ gs) [] p q = absurd q
glyphs_are_one one (s ∷ ss) (g ∷ gs) (h ∷ hs) p q =
    ap (λ (x : Glyph). x ∷ gs) (one s g h p.0 q.0) ∙ ap (λ (xs : List Glyph). h ∷ xs) (glyphs_are_one one ss gs hs p.1 q.1)

pub text_is_one : GlyphIsOne → TextIsOne
text_is_one one plan gs hs p q = ap (strike_text plan) (glyphs_are_one one plan.sketches gs hs p q)

-- ---- one part

-- a sketch that is due is made of an outline, its shape and its metrics
pub record Made (setting : Setting) (code : ℕ) (s : Sketch) : Type 0 where
  pub drawing : GlyphOutlineView
  pub shape : ShapeView
  pub metrics : Metrics
  pub shaped : shape_of (rule_in setting drawing.wish) drawing.ends drawing.points ≡ Ok shape
  pub is : s ≡ sketch_from setting code drawing shape metrics

pub sketch_made : (setting : Setting) (code glyph : ℕ) (s : Sketch) → glyph_sketch_of setting code glyph ≡ Ok s
    → Made setting code s
unfolding glyph_sketch_of
sketch_made setting code glyph s h =
    let measured : GlyphOutlineView → ShapeView → Result Sketch Refusal =
    λ d x. map_fault of_font (metrics_of setting.font glyph) >>= λ m. Ok (sketch_from setting code d x m) in
    let shaped : GlyphOutlineView → Result Sketch Refusal =
    λ d. map_fault (of_raster glyph) (shape_of (rule_in setting d.wish) d.ends d.points) >>= measured d in
    let r = bind_ok (refuse (is_over setting code) TooMuchWork)
    (λ _. map_fault of_hint (outline_in setting glyph) >>= shaped) s h in
    let a = bind_ok (map_fault of_hint (outline_in setting glyph)) shaped s r.2 in
    let b = bind_ok (map_fault (of_raster glyph) (shape_of (rule_in setting a.0.wish) a.0.ends a.0.points))
    (measured a.0) s a.2 in
    let c = bind_ok (map_fault of_font (metrics_of setting.font glyph)) (λ m. Ok (sketch_from setting code a.0 b.0 m)) s b.2 in
    record {
      drawing = a.0;
      shape = b.0;
      metrics = c.0;
      shaped = map_fault_ok (of_raster glyph) (shape_of (rule_in setting a.0.wish) a.0.ends a.0.points) b.0 b.1;
      is = cc (c.2);
    }

-- a sketch has the code point that it is of
pub sketch_code : (setting : Setting) (code glyph : ℕ) (s : Sketch)
    → glyph_sketch_of setting code glyph ≡ Ok s → s.code ≡ code
sketch_code setting code glyph s h = ap (λ (y : Sketch). y.code) (sketch_made setting code glyph s h).is

-- ---- what becomes of a character

-- by its sketch, and its sketch without hinting
abbrev FateFrom : Result Sketch Refusal → Result Sketch Refusal → Fate → Type 0
FateFrom first second (Drawn s) = first ≡ Ok s
FateFrom first second (Unhinted notice s) = second ≡ Ok s
FateFrom first second (LeftOut notice) = Unit {0}

fate_from : (refused : OnRefused) (code : ℕ) (second first : Result Sketch Refusal) (f : Fate)
    → fate_by refused code second first ≡ Ok f → FateFrom first second f
fate_from refused code second (Ok s) f h = grind (arith, h)
fate_from Stop code second (Err cause) f h = absurd (cc)
fate_from LeaveOut code second (Err cause) f h = grind (arith, h)
fate_from DrawUnhinted code (Ok s) (Err (Halted halt)) f h = grind (arith, h)
fate_from DrawUnhinted code (Err d) (Err (Halted halt)) f h = grind (arith, h)
fate_from DrawUnhinted code second (Err cause) f h = grind (arith, h)

-- its sketch is due, with hinting or without
abbrev pub HasSketch : Setting → ℕ → ℕ → Fate → Type 0
HasSketch setting code glyph (Drawn s) = glyph_sketch_of setting code glyph ≡ Ok s
HasSketch setting code glyph (Unhinted notice s) = glyph_sketch_of (machineless setting) code glyph ≡ Ok s
HasSketch setting code glyph (LeftOut notice) = Unit {0}

pub has_sketch : (setting : Setting) (refused : OnRefused) (code glyph : ℕ) (f : Fate)
    → glyph_fate_of setting refused code glyph ≡ Ok f → HasSketch setting code glyph f
unfolding glyph_fate_of
has_sketch setting refused code glyph (Drawn s) h = fate_from refused code _ _ (Drawn s) h
has_sketch setting refused code glyph (Unhinted notice s) h = fate_from refused code _ _ (Unhinted notice s) h
has_sketch setting refused code glyph (LeftOut notice) h = tt

-- and is of the code point
abbrev IsOf : ℕ → Fate → Type 0
IsOf code f = (s : Sketch) → sketches_in f ≡ s ∷ [] → s.code ≡ code

is_of : (setting : Setting) (refused : OnRefused) (code glyph : ℕ) (f : Fate)
    → glyph_fate_of setting refused code glyph ≡ Ok f → IsOf code f
is_of setting refused code glyph (Drawn x) h s e =
    let k : glyph_sketch_of setting code glyph ≡ Ok x = has_sketch setting refused code glyph (Drawn x) h in
    let same : x ≡ s = cc (e) in rw (← same) (sketch_code setting code glyph x k)
is_of setting refused code glyph (Unhinted notice x) h s e =
    let k : glyph_sketch_of (machineless setting) code glyph ≡ Ok x = has_sketch setting refused code glyph (Unhinted notice x) h in
    let same : x ≡ s = cc (e) in rw (← same) (sketch_code (machineless setting) code glyph x k)
is_of setting refused code glyph (LeftOut notice) h s e = absurd (cc (e))

-- ---- chains

-- a chain with values gave its first, and then the others
pub chain_parts : {A B : Type 0} (f : A → Result B Refusal) (x : A) (xs : List A) (ys : List B) → map_chain f (x ∷ xs) ≡ Ok ys
    → (z : B) × (zs : List B) × (f x ≡ Ok z) × (map_chain f xs ≡ Ok zs) × (ys ≡ z ∷ zs)
chain_parts f x xs ys h = grind (arith, h, bind_ok)

-- a chain over two lists gave the values of both
pub chain_split : {A B : Type 0} (f : A → Result B Refusal) (xs ys : List A) (zs : List B) → map_chain f (xs ++ ys) ≡ Ok zs
    → (front : List B) × (back : List B) × (map_chain f xs ≡ Ok front) × (map_chain f ys ≡ Ok back) × (zs ≡ front ++ back)
chain_split f [] ys zs h = ([], zs, refl, h, refl)
chain_split f (x ∷ xs) ys zs h =
    let p = chain_parts f x (xs ++ ys) zs h in
    let q = chain_split f xs ys p.1 p.3 in
    (p.0 ∷ q.0, q.1, rw (p.2, q.2) refl, q.3, p.4 ∙ ap (λ l. p.0 ∷ l) q.4)

-- what becomes of a code point has this one sketch
abbrev Gives : (ℕ → Result Fate Refusal) → Sketch → Type 0
Gives f s = (c : ℕ) × (x : Fate) × (f c ≡ Ok x) × (sketches_in x ≡ s ∷ [])

-- the sketch at a place of a chain is that of something
sketch_at : (f : ℕ → Result Fate Refusal) (codes : List ℕ) (fates : List Fate) → map_chain f codes ≡ Ok fates
    → (k : ℕ) (d : Sketch) → k < length (flat_map sketches_in fates) → Gives f (get_or (flat_map sketches_in fates) k d)
sketch_at f [] [] h k d l = absurd (omega arith)
sketch_at f [] (x ∷ fates) h k d l = absurd (cc)
sketch_at f (c ∷ cs) fates h k d l =
    let p = chain_parts f c cs fates h in
    let P : List Fate → Type 0 = λ xs. k < length (flat_map sketches_in xs) in
    let Q : List Fate → Type 0 = λ xs. Gives f (get_or (flat_map sketches_in xs) k d) in
    subst Q (sym p.4) (first p.0 p.1 p.2 (sketch_at f cs p.1 p.3) k (subst P p.4 l))
  where
    one : (x : Fate) (s : Sketch) (xs : List Fate) → f c ≡ Ok x → sketches_in x ≡ s ∷ []
        → ((k : ℕ) (d : Sketch) → k < length (flat_map sketches_in xs) → Gives f (get_or (flat_map sketches_in xs) k d))
        → (k : ℕ) → k < suc (length (flat_map sketches_in xs)) → Gives f (get_or (s ∷ flat_map sketches_in xs) k d)
    one x s xs is e more zero l = (c, x, is, e)
    one x s xs is e more (suc k) l = more k d (omega (arith, l))

    first : (x : Fate) (xs : List Fate) → f c ≡ Ok x
        → ((k : ℕ) (d : Sketch) → k < length (flat_map sketches_in xs) → Gives f (get_or (flat_map sketches_in xs) k d))
        → (k : ℕ) → k < length (flat_map sketches_in (x ∷ xs)) → Gives f (get_or (flat_map sketches_in (x ∷ xs)) k d)
    first (Drawn s) xs is more k l = one (Drawn s) s xs is refl more k l
    first (Unhinted notice s) xs is more k l = one (Unhinted notice s) s xs is refl more k l
    first (LeftOut notice) xs is more k l = more k d l

-- ---- plans

-- what opens after checks opens without them
unchecked : {A B : Type 0} (size : Result A Refusal) (checks : Result (Unit {0}) Refusal) (opens : A → Result B Refusal) (o : B)
    → (size >>= λ n. checks >>= λ _. opens n) ≡ Ok o → (size >>= λ n. Ok (tt {0}) >>= λ _. opens n) ≡ Ok o
unchecked (Ok n) (Ok u) opens o h = h
unchecked (Ok n) (Err e) opens o h = absurd (cc)
unchecked (Err e) checks opens o h = absurd (cc)

-- the setting of a plan, and which code points take too much work
pub record Parts (file : FontFileView) (ppem : ℕ) (chars : List ℕ) (mode : Mode) (refused : OnRefused)
    (ss : List Sketch) : Type 0 where
  pub setting : Setting
  pub is : setting_of file ppem mode ≡ Ok setting
  pub over : List ℕ
  pub fates : List Fate
  pub planned : fates_of (record setting { over = over }) refused (rising chars) ≡ Ok fates
  pub sketches : ss ≡ flat_map sketches_in fates

-- a plan has the title and the size that it is of, and what becomes of its code points
pub record Planned (setting : Setting) (title : Title) (chars : List ℕ) (refused : OnRefused) (plan : Plan) : Type 0 where
  pub fates : List Fate
  pub planned : fates_of setting refused (rising chars) ≡ Ok fates
  pub sketches : plan.sketches ≡ flat_map sketches_in fates
  pub name_is : plan.name ≡ title.name
  pub properties_are : plan.properties ≡ title.properties
  pub x11_is : plan.x11 ≡ title.x11
  pub ppem_is : plan.ppem ≡ setting.ppem

pub planned : (setting : Setting) (title : Title) (chars : List ℕ) (refused : OnRefused) (plan : Plan)
    → plan_within setting title chars refused ≡ Ok plan → Planned setting title chars refused plan
unfolding plan_within
planned setting title chars refused plan h =
    let d = bind_ok (fates_of setting refused (rising chars)) (λ fs. Ok (plan_from setting title chars fs)) plan h in
    let e : plan_from setting title chars d.0 ≡ plan = cc (d.2) in
    let P : Plan → Type 0 = λ p. Planned setting title chars refused p in
    subst P e (record {
      fates = d.0;
      planned = d.1;
      sketches = refl;
      name_is = refl;
      properties_are = refl;
      x11_is = refl;
      ppem_is = refl;
    })

pub parts_of : (file : FontFileView) (ppem : ℕ) (title : Title) (chars : List ℕ) (mode : Mode) (refused : OnRefused) (plan : Plan)
    → plan_of file ppem title chars mode refused ≡ Ok plan → Parts file ppem chars mode refused plan.sketches
unfolding opened_after setting_of plan_in plan_of plan_with bounded
parts_of file ppem title chars mode refused plan h =
    let o = bind_ok (opened_of file ppem title chars) (λ o. plan_in o title chars mode refused) plan h in
    let s = bind_ok (setting_in o.0 mode) (λ s. plan_with s title chars refused) plan o.2 in
    let opened : opened_at file ppem ≡ Ok o.0 = unchecked (wanted (ppem_of ppem) BadSize) (checked_text title chars) _ o.0 o.1 in
    let over = over_among s.0 refused (mapped_of s.0.map (rising chars)) in
    let p = planned (record s.0 { over = over }) title chars refused plan s.2 in
    record { setting = s.0; is = rw opened s.1; over = over; fates = p.fates; planned = p.planned; sketches = p.sketches }

-- a sketch of a plan is that of what becomes of its code point
abbrev IsDue : Setting → OnRefused → Sketch → Type 0
IsDue setting refused s = (x : Fate) × (fate_of setting refused s.code ≡ Ok x) × (sketches_in x ≡ s ∷ [])

sketch_there : (setting : Setting) (refused : OnRefused) (chars : List ℕ) (fates : List Fate) (s : Sketch)
    → fates_of setting refused (rising chars) ≡ Ok fates → Contains (flat_map sketches_in fates) s → IsDue setting refused s
sketch_there setting refused chars fates s p h =
    let codes : List ℕ = filter (λ c. not (is_missing setting c)) (rising chars) in
    let x = sketch_at (fate_of setting refused) codes fates p h.0 s h.1 in
    let here : sketches_in x.1 ≡ s ∷ [] = x.3 ∙ ap (λ (y : Sketch). y ∷ []) h.2 in
    let code : s.code ≡ x.0 = is_of setting refused x.0 _ x.1 x.2 s here in
    (x.1, ap (fate_of setting refused) code ∙ x.2, here)

-- which code points take too much work has no part in the sketch of one that does not
sketch_any : (setting : Setting) (over : List ℕ) (code glyph : ℕ) → list_any (λ c. c == code) over ≡ false
    → glyph_sketch_of (record setting { over = [] }) code glyph ≡ glyph_sketch_of (record setting { over = over }) code glyph
unfolding glyph_sketch_of
sketch_any setting over code glyph e = rw e refl

fate_any : (setting : Setting) (refused : OnRefused) (over : List ℕ) (code : ℕ) → list_any (λ c. c == code) over ≡ false
    → fate_of (record setting { over = [] }) refused code ≡ fate_of (record setting { over = over }) refused code
unfolding glyph_fate_of
fate_any setting refused over code e =
    let glyph = glyph_for setting.map code in
    ap (λ (r : Result Sketch Refusal). fate_by refused code r (glyph_sketch_of (record setting { over = [] }) code glyph))
    (sketch_any (machineless setting) over code glyph e)
    ∙ ap (fate_by refused code (glyph_sketch_of (machineless (record setting { over = over })) code glyph))
    (sketch_any setting over code glyph e)

-- one that does has none
not_drawn : (refused : OnRefused) (code : ℕ) (second : Result Sketch Refusal) (x : Fate) (s : Sketch)
    → refused_by refused code second TooMuchWork ≡ Ok x → sketches_in x ≡ s ∷ [] → ⊥
not_drawn Stop code second x s h e = absurd (cc (h))
not_drawn LeaveOut code second x s h e = grind (arith, h, e)
not_drawn DrawUnhinted code second x s h e = grind (arith, h, e)

over_undrawn : (setting : Setting) (refused : OnRefused) (code : ℕ) (x : Fate) (s : Sketch) → is_over setting code ≡ true
    → fate_of setting refused code ≡ Ok x → sketches_in x ≡ s ∷ [] → ⊥
unfolding glyph_fate_of glyph_sketch_of
over_undrawn setting refused code x s e h = not_drawn refused code _ x s (rw e at h)

-- so a sketch that is due is so whatever takes too much work
due_any : (setting : Setting) (over : List ℕ) (refused : OnRefused) (s : Sketch) → IsDue (record setting { over = over }) refused s
    → IsDue (record setting { over = [] }) refused s
due_any setting over refused s d = by (list_any (λ c. c == s.code) over) refl
  where
    by : (b : Bool) → list_any (λ c. c == s.code) over ≡ b → IsDue (record setting { over = [] }) refused s
    by true e = absurd (over_undrawn (record setting { over = over }) refused s.code d.0 s e d.1 d.2)
    by false e = (d.0, fate_any setting refused over s.code e ∙ d.1, d.2)

-- two sketches that are due for one code point are one
due_is_one : (setting : Setting) (refused : OnRefused) (s t : Sketch) → IsDue setting refused s → IsDue setting refused t
    → s.code ≡ t.code → s ≡ t
due_is_one setting refused s t p q e = grind (arith, p, q, e, same_Ok)

pub part_is_one : PartIsOne
part_is_one file ppem mode refused title title2 chars chars2 plan plan2 h g s t i j e =
    let p = parts_of file ppem title chars mode refused plan h in
    let q = parts_of file ppem title2 chars2 mode refused plan2 g in
    let same : p.setting ≡ q.setting = same_Ok p.setting q.setting p.is q.is in
    let P : List Sketch → Type 0 = λ ss. Contains ss s in
    let Q : List Sketch → Type 0 = λ ss. Contains ss t in
    let R : Setting → Type 0 = λ x. IsDue (record x { over = [] }) refused s in
    let one = sketch_there (record p.setting { over = p.over }) refused chars p.fates s p.planned (subst P p.sketches i) in
    let two = sketch_there (record q.setting { over = q.over }) refused chars2 q.fates t q.planned (subst Q q.sketches j) in
    due_is_one (record q.setting { over = [] }) refused s t (subst R same (due_any p.setting p.over refused s one))
    (due_any q.setting q.over refused t two) e

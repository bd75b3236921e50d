-- Bytes are read as the glyph that the grammar describes, both ways: `found_glyph`, `only_glyph`.
-- For the clauses of `read`.
use Rattle.std.proofs.Common.{◌≡◌, ℕ, zero, suc, ◌+◌, ◌-◌, ◌*◌, ◌<◌, ◌≤◌, Bool, true, false, List, [], ◌∷◌, ◌++◌, length, take}
use Rattle.std.proofs.Common.{drop, cond, Some, Result, Ok, Err, inl, inr, refl, sym, ap, ◌∙◌, arith, subst, length-append}
use Rattle.std.specs.Prelude.{nat_lt, ◌==◌, IfOk}
use Rattle.std.proofs.lemmas.Bool.{ltb-false, ltb-true, lt-ltb, le-ltb, eqb-true, eqb-false, ne_eqb}
use Rattle.std.proofs.lemmas.List.{take-append-drop, length-take-le, drop-take, take_at, drop_at}
use Rattle.byteorder.specs.Endian.{big_number}
use Rattle.byteorder.specs.Numbers.{big_from-take}
use Rattle.fx_fixed.specs.Chain.{map_ok}
use Rattle.fx_fixed.proofs.Chain.{refuse_ok, wanted_ok, map_ok_ok, ok_injective}
use Rattle.fx_sfnt.specs.Fields.{field}
use Rattle.fx_glyf.specs.declared.point.GlyphPoint.{GlyphPoint}
use Rattle.fx_glyf.specs.declared.component.Component.{Component}
use Rattle.fx_glyf.specs.declared.fault.GlyphFault.{GlyphFault}
use Rattle.fx_glyf.specs.declared.glyph.Glyph.{Glyph}
use Rattle.fx_glyf.specs.declared.glyph.Glyph.TheVariants.{Empty, Simple, Composite}
use Rattle.fx_glyf.specs.Words.{words, count_from, program_of}
use Rattle.fx_glyf.specs.Points.{glyph_points_of}
use Rattle.fx_glyf.specs.Components.{components_in, has_program}
use Rattle.fx_glyf.specs.Shapes.{SimpleView, CompositeView}
use Rattle.fx_glyf.specs.Grammar.{SpellsAnnounced, DescribesSimple, DescribesComposite, Describes}
use Rattle.fx_glyf.specs.Glyphs.{x_min_of, simple_of, announced_of, composite_of, body_of, glyph_of}
use Rattle.fx_glyf.proofs.EndPoints.{ends_counted, ends_count}
use Rattle.fx_glyf.proofs.PointsDescribed.{found_points, only_points}
use Rattle.fx_glyf.proofs.ComponentRecordsDescribed.{found_components, only_components}
use Rattle.fx_glyf.proofs.Programs.{found_program, only_program, found_header, headed}

words_take : (n m : ℕ) (xs : List ℕ) → 2 * n ≤ m → words n (take m xs) ≡ words n xs
unfolding words
words_take zero m xs h = refl
words_take (suc n) m xs h =
    let e : 2 + (m - 2) ≡ m = omega arith in
    let tail : drop 2 (take m xs) ≡ take (m - 2) (drop 2 xs) =
    ap (λ (k : ℕ). drop 2 (take k xs)) (sym e) ∙ drop-take 2 (m - 2) xs in
    ap (λ (w : ℕ). w ∷ words n (drop 2 (take m xs))) (big_from-take 0 2 m xs (omega arith))
    ∙ ap (λ (t : List ℕ). big_number 2 xs ∷ words n t) tail
    ∙ ap (λ (t : List ℕ). big_number 2 xs ∷ t) (words_take n (m - 2) (drop 2 xs) (omega arith))

words_front : (n : ℕ) (xs ys : List ℕ) → length xs ≡ 2 * n → words n (xs ++ ys) ≡ words n xs
words_front n xs ys h = sym (words_take n (2 * n) (xs ++ ys) (omega arith)) ∙ ap (words n) (take_at xs ys (2 * n) h)

-- a simple glyph that is read is described by the bytes
found_simple : (bytes : List ℕ) (g : ℕ) (s : SimpleView) → 10 ≤ length bytes → 0 < field 2 bytes 0 → field 2 bytes 0 < 32768
    → simple_of (field 2 bytes 0) bytes g ≡ Ok s → DescribesSimple bytes s
unfolding simple_of
found_simple bytes g s long low high h =
    let n = field 2 bytes 0 in
    let a = refuse_ok _ _ _ _ h in
    let b = wanted_ok _ _ _ _ a.1 in
    let c = wanted_ok _ _ _ _ b.2 in
    let d = wanted_ok _ _ _ _ c.2 in
    let program = found_program (drop (2 * field 2 bytes 0) (drop 10 bytes)) c.0 c.1 in
    let P : SimpleView → Type 0 = DescribesSimple bytes in
    subst P (ok_injective _ _ d.2) (record {
      header = take 10 bytes;
      contours = field 2 bytes 0;
      ends = take (2 * field 2 bytes 0) (drop 10 bytes);
      program = program.front;
      rest = c.0.1;
      count = b.0;
      split = sym (take-append-drop 10 bytes) ∙ ap (λ (x : List ℕ). take 10 bytes ++ x)
          (sym (take-append-drop (2 * field 2 bytes 0) (drop 10 bytes))
          ∙ ap (λ (x : List ℕ). take (2 * field 2 bytes 0) (drop 10 bytes) ++ x) program.split);
      header_is = found_header bytes long;
      some_contours = (low, high);
      ends_size = length-take-le (2 * field 2 bytes 0) (drop 10 bytes) (ltb-false _ _ a.0);
      ends_are = sym (words_take (field 2 bytes 0) (2 * field 2 bytes 0) (drop 10 bytes) (omega arith));
      in_order = ends_counted 0 (words (field 2 bytes 0) (drop 10 bytes)) b.0 b.1;
      program_is = program.spells;
      points_are = found_points b.0 c.0.1 d.0 d.1;
    })

-- reading, if the parts are found
simple_there : (contours : ℕ) (bytes : List ℕ) (g count : ℕ) (code rest : List ℕ) (points : List GlyphPoint)
    → 2 * contours ≤ length (drop 10 bytes) → count_from 0 (words contours (drop 10 bytes)) ≡ Some count
    → program_of (drop (2 * contours) (drop 10 bytes)) ≡ Some (code, rest) → glyph_points_of count rest ≡ Some points
    → simple_of contours bytes g ≡ Ok (record
    { ends = words contours (drop 10 bytes); points = points; x_min = x_min_of bytes; code = code })
unfolding simple_of
simple_there contours bytes g count code rest points a b c d = simp (le-ltb _ _ a, b, c, d)

-- a simple glyph that the bytes describe is read
only_simple : (bytes : List ℕ) (g : ℕ) (s : SimpleView) (d : DescribesSimple bytes s) → simple_of d.contours bytes g ≡ Ok s
only_simple bytes g s d =
    let h = headed bytes d.header (d.ends ++ (d.program ++ d.rest)) d.contours s.x_min d.split d.header_is in
    let long = length-append d.ends (d.program ++ d.rest) in
    let inside : 2 * d.contours ≤ length (drop 10 bytes) = omega (arith, ap length h.rest_is, d.ends_size) in
    let ends : words d.contours (drop 10 bytes) ≡ s.ends =
    ap (words d.contours) h.rest_is ∙ words_front d.contours d.ends (d.program ++ d.rest) d.ends_size ∙ sym d.ends_are in
    let count : count_from 0 (words d.contours (drop 10 bytes)) ≡ Some d.count =
    ap (count_from 0) ends ∙ ends_count 0 s.ends d.count d.in_order in
    let behind : drop (2 * d.contours) (drop 10 bytes) ≡ d.program ++ d.rest =
    ap (drop (2 * d.contours)) h.rest_is ∙ drop_at d.ends (d.program ++ d.rest) (2 * d.contours) d.ends_size in
    let program : program_of (drop (2 * d.contours) (drop 10 bytes)) ≡ Some (s.code, d.rest) =
    ap program_of behind ∙ only_program s.code d.program d.rest d.program_is in
    simple_there d.contours bytes g d.count s.code d.rest s.points inside count program
    (only_points d.count d.rest s.points d.points_are)
    ∙ (rw (ends, h.x_min_is) refl)

-- a program that is announced
found_announced : (announced : Bool) (bytes : List ℕ) (p : List ℕ × List ℕ) → announced_of announced bytes ≡ Some p
    → (front : List ℕ) × (bytes ≡ front ++ p.1) × SpellsAnnounced announced p.0 front
found_announced true bytes p e = let f = found_program bytes p e in (f.front, f.split, f.spells)
found_announced false bytes p e = grind arith

only_announced : (announced : Bool) (code front rest : List ℕ) → SpellsAnnounced announced code front
    → announced_of announced (front ++ rest) ≡ Some (code, rest)
only_announced true code front rest h = only_program code front rest h
only_announced false code front rest h = grind arith

-- a composite glyph that is read is described by the bytes
found_composite : (bytes : List ℕ) (g : ℕ) (s : CompositeView) → 10 ≤ length bytes → 32768 ≤ field 2 bytes 0
    → composite_of bytes g ≡ Ok s → DescribesComposite bytes s
unfolding composite_of
found_composite bytes g s long high h =
    let a = wanted_ok _ _ _ _ h in
    let b = wanted_ok _ _ _ _ a.2 in
    let components = found_components (drop 10 bytes) a.0.0 a.0.1 a.1 in
    let program = found_announced (has_program a.0.0) a.0.1 b.0 b.1 in
    let P : CompositeView → Type 0 = DescribesComposite bytes in
    subst P (ok_injective _ _ b.2) (record {
      header = take 10 bytes;
      contours = field 2 bytes 0;
      records = components.front;
      program = program.0;
      rest = b.0.1;
      split = sym (take-append-drop 10 bytes)
          ∙ ap (λ (x : List ℕ). take 10 bytes ++ x) (components.split ∙ ap (λ (x : List ℕ). components.front ++ x) program.1);
      header_is = found_header bytes long;
      below_zero = high;
      components_are = components.spells;
      last_is = components.last;
      program_is = program.2;
    })

composite_there : (bytes : List ℕ) (g : ℕ) (components : List Component) (behind code rest : List ℕ)
    → components_in true (drop 10 bytes) ≡ Some (components, behind)
    → announced_of (has_program components) behind ≡ Some (code, rest)
    → composite_of bytes g ≡ Ok (record { components = components; x_min = x_min_of bytes; code = code })
unfolding composite_of
composite_there bytes g components behind code rest a b = simp (a, b)

-- a composite glyph that the bytes describe is read
only_composite : (bytes : List ℕ) (g : ℕ) (s : CompositeView) → DescribesComposite bytes s → composite_of bytes g ≡ Ok s
only_composite bytes g s d =
    let h = headed bytes d.header (d.records ++ (d.program ++ d.rest)) d.contours s.x_min d.split d.header_is in
    let components : components_in true (drop 10 bytes) ≡ Some (s.components, d.program ++ d.rest) =
    ap (components_in true) h.rest_is ∙ only_components s.components d.records (d.program ++ d.rest) d.components_are d.last_is in
    composite_there bytes g s.components (d.program ++ d.rest) s.code d.rest components
    (only_announced (has_program s.components) s.code d.program d.rest d.program_is)
    ∙ (rw h.x_min_is refl)

-- bytes that are a header and more are read by the number of contours
glyph_long : (bytes : List ℕ) (g : ℕ) → 10 ≤ length bytes → glyph_of bytes g ≡ body_of (field 2 bytes 0) bytes g
unfolding glyph_of
glyph_long [] g h = absurd (omega arith)
glyph_long (b ∷ bytes) g h = grind (arith, le-ltb)

body_none : (contours : ℕ) (bytes : List ℕ) (g : ℕ) → contours ≡ 0 → body_of contours bytes g ≡ Ok Empty
body_none contours bytes g e = ap (λ (n : ℕ). body_of n bytes g) e

body_simple : (contours : ℕ) (bytes : List ℕ) (g : ℕ) (s : SimpleView) → 0 < contours → contours < 32768
    → simple_of contours bytes g ≡ Ok s → body_of contours bytes g ≡ Ok (Simple s)
body_simple contours bytes g s low high e = simp (ne_eqb contours 0 (λ z. omega arith), lt-ltb _ _ high, e)

body_composite : (contours : ℕ) (bytes : List ℕ) (g : ℕ) (s : CompositeView) → 32768 ≤ contours → composite_of bytes g ≡ Ok s
    → body_of contours bytes g ≡ Ok (Composite s)
body_composite contours bytes g s high e = simp (ne_eqb contours 0 (λ z. omega arith), le-ltb _ _ high, e)

-- what the bytes describe is read
pub only_glyph : (bytes : List ℕ) (g : ℕ) (glyph : Glyph) → Describes bytes glyph → glyph_of bytes g ≡ Ok glyph
unfolding glyph_of
only_glyph bytes g Empty (inl e) = ap (λ (x : List ℕ). glyph_of x g) e
only_glyph bytes g Empty (inr d) =
    let h = headed bytes d.header d.rest 0 d.x_min d.split d.header_is in
    glyph_long bytes g h.long ∙ body_none _ bytes g h.contours_are
only_glyph bytes g (Simple s) d =
    let h = headed bytes d.header (d.ends ++ (d.program ++ d.rest)) d.contours s.x_min d.split d.header_is in
    glyph_long bytes g h.long ∙ ap (λ (n : ℕ). body_of n bytes g) h.contours_are
    ∙ body_simple d.contours bytes g s d.some_contours.0 d.some_contours.1 (only_simple bytes g s d)
only_glyph bytes g (Composite s) d =
    let h = headed bytes d.header (d.records ++ (d.program ++ d.rest)) d.contours s.x_min d.split d.header_is in
    glyph_long bytes g h.long ∙ ap (λ (n : ℕ). body_of n bytes g) h.contours_are
    ∙ body_composite d.contours bytes g s d.below_zero (only_composite bytes g s d)

-- what holds of each value that a result may have, points_seen otherwise, holds of the one that it has
seen_ok : {A B E : Type 0} (view : A → B) (r : Result A E) (y : B) (P : B → Type 0) → map_ok view r ≡ Ok y
    → ((x : A) → r ≡ Ok x → P (view x)) → P y
seen_ok view r y P h k = let m = map_ok_ok view r y h in subst P m.2 (k m.0 m.1)

-- the glyph after a header, by what was tested of the number of contours
abbrev body_by : Bool → Bool → ℕ → List ℕ → ℕ → Result Glyph GlyphFault
body_by none below contours bytes g =
    cond none (Ok Empty) (cond below (map_ok Simple (simple_of contours bytes g)) (map_ok Composite (composite_of bytes g)))

found_body : (none below : Bool) (bytes : List ℕ) (g : ℕ) (glyph : Glyph) → 10 ≤ length bytes → (field 2 bytes 0 == 0) ≡ none
    → nat_lt (field 2 bytes 0) 32768 ≡ below
    → body_by none below (field 2 bytes 0) bytes g ≡ Ok glyph → Describes bytes glyph
found_body true below bytes g glyph long n b h =
    let P : Glyph → Type 0 = Describes bytes in
    let k = found_header bytes long in
    let zero_is : field 2 bytes 0 ≡ 0 = eqb-true _ _ n in
    subst P (ok_injective _ _ h) (inr (record {
      header = take 10 bytes;
      rest = drop 10 bytes;
      x_min = x_min_of bytes;
      split = sym (take-append-drop 10 bytes);
      header_is = record { size = k.size; contours_are = sym zero_is ∙ k.contours_are; x_min_is = k.x_min_is };
    }))
found_body false true bytes g glyph long n b h = grind (arith, ltb-true, eqb-false, seen_ok, found_simple)
found_body false false bytes g glyph long n b h = grind (arith, ltb-false, seen_ok, found_composite)

-- what is read is described by the bytes
pub found_glyph : (bytes : List ℕ) (g : ℕ) (glyph : Glyph) → glyph_of bytes g ≡ Ok glyph → Describes bytes glyph
unfolding glyph_of
found_glyph [] g glyph h = grind (arith, ok_injective)
found_glyph (b ∷ bytes) g glyph h = grind (arith, refuse_ok, found_body, ltb-false)

pub if_ok : {X E : Type 0} (r : Result X E) (P : X → Type 0) → ((x : X) → r ≡ Ok x → P x) → IfOk r P
if_ok (Ok x) P h = h x refl
if_ok (Err e) P h = tt

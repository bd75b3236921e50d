-- A character that is seen after others is one more of those seen: `seen_at`.
-- Serves `see`, and what a call leaves (`Making`, `Writing`).
use Rattle.std.proofs.Common.{◌≡◌, refl, sym, ap, ap₂, ◌∙◌, subst, arith, ℕ, suc, zero, ◌+◌, ◌<◌, ◌≤◌, List, []}
use Rattle.std.proofs.Common.{◌∷◌, ◌++◌, map, length, take, drop, length-append, Result, Ok, Err}
use Rattle.std.specs.Prelude.{false, nat_lt}
use Rattle.std.specs.List.{list_any, sum_by, flat_map}
use Rattle.std.proofs.lemmas.Bool.{ltb-false, or_parts}
use Rattle.std.proofs.lemmas.List.{take_more, drop_more, map-append, take-append-drop, append-nil}
use Rattle.std.proofs.lemmas.Grind.{flat_map-append}
use Rattle.std.proofs.lemmas.List.Sums.{fold-append, sum_by-append}
use Rattle.fx_fixed.specs.Chain.{map_chain}
use Rattle.fx_bdf.specs.Glyphs.{Glyph, Box, IsPlaced, no_box, joined, bounds_of}
use Rattle.fx_strike.specs.Strike.{Sketch, Setting, Fate, AreGlyphsOf, sketches_in, Refusal, Fails, max_code, OnRefused}
use Rattle.fx_strike.specs.declared.fate.Fate.TheVariants.{Drawn, Unhinted, LeftOut}
use Rattle.fx_strike.specs.inner.Mapping.{fates_in, mapped_fate_of, mapped_in, Mapped}
use Rattle.fx_strike.specs.inner.Keeping.{KeptBytes}
use Rattle.fx_strike.specs.inner.Writing.{AreMapped}
use Rattle.fx_fixed.specs.Numbers.{counted}
use Rattle.fx_machine.specs.declared.usage.Usage.{Usage}
use Rattle.fx_strike.specs.inner.Gathering.{gathered_with}
use Rattle.fx_strike.specs.inner.Surveying.{IsEmpty, Has, HasFate, Holds, Seen}
use Rattle.fx_strike.proofs.Existing.{glyphs_append}
use Rattle.fx_strike.proofs.GatheredGlyphs.{gathered_push}
use Rattle.fx_strike.proofs.OnePart.{chain_parts}
use Rattle.fx_strike.proofs.Sketching.{fails_on}

-- ---- code points within the limit

pub code_fits : (mapped : List Mapped) (i : ℕ) → AreMapped mapped → i < length mapped → (mapped_in mapped i).code ≤ max_code
code_fits mapped i within l = by mapped i within.small l
  where
    by : (ms : List Mapped) (i : ℕ) → list_any (λ m. nat_lt max_code m.code) ms ≡ false → i < length ms
        → (mapped_in ms i).code ≤ max_code
    by [] i h g = absurd (omega arith)
    by (x ∷ xs) zero h g =
        let p = or_parts (nat_lt max_code x.code) (list_any (λ y. nat_lt max_code y.code) xs) h in ltb-false max_code x.code p.0
    by (x ∷ xs) (suc i) h g =
        let p = or_parts (nat_lt max_code x.code) (list_any (λ y. nat_lt max_code y.code) xs) h in by xs i p.1 (omega arith)

-- ---- chains

pub chain_push : {A B : Type 0} (f : A → Result B Refusal) (xs : List A) (x : A) (made : List B) (b : B) → map_chain f xs ≡ Ok made
    → f x ≡ Ok b → map_chain f (xs ++ x ∷ []) ≡ Ok (made ++ b ∷ [])
chain_push f [] x made b h g = let e : [] ≡ made = cc in rw (g, ← e)
chain_push f (y ∷ ys) x made b h g =
    let p = chain_parts f y ys made h in pushed f y ys x made b p.0 p.1 p.2 (sym p.4) (chain_push f ys x p.1 b p.3 g)
  where
    pushed : {A B : Type 0} (f : A → Result B Refusal) (y : A) (ys : List A) (x : A) (made : List B) (b c : B) (cs : List B)
        → f y ≡ Ok c → c ∷ cs ≡ made → map_chain f (ys ++ x ∷ []) ≡ Ok (cs ++ b ∷ [])
        → map_chain f (y ∷ (ys ++ x ∷ [])) ≡ Ok (made ++ b ∷ [])
    pushed f y ys x made b c cs p e r = rw (p, r, ← e)

chain_refused : {A B : Type 0} (f : A → Result B Refusal) (xs : List A) (x : A) (ys : List A) (made : List B) (e : Refusal)
    → map_chain f xs ≡ Ok made → f x ≡ Err e → map_chain f (xs ++ x ∷ ys) ≡ Err e
chain_refused f [] x ys made e h g = rw g
chain_refused f (z ∷ zs) x ys made e h g =
    let p = chain_parts f z zs made h in refused f z zs x ys e p.0 p.2 (chain_refused f zs x ys p.1 e p.3 g)
  where
    refused : {A B : Type 0} (f : A → Result B Refusal) (z : A) (zs : List A) (x : A) (ys : List A) (e : Refusal) (c : B)
        → f z ≡ Ok c → map_chain f (zs ++ x ∷ ys) ≡ Err e → map_chain f (z ∷ (zs ++ x ∷ ys)) ≡ Err e
    refused f z zs x ys e c p r = rw (p, r)

-- ---- one character more

bounds_push : (gs : List Glyph) (g : Glyph)
    → bounds_of (map (λ h. h.box) (gs ++ g ∷ [])) ≡ joined (bounds_of (map (λ h. h.box) gs)) g.box
bounds_push gs g = ap bounds_of (map-append (λ (h : Glyph). h.box) gs (g ∷ [])) ∙ fold-append joined no_box
    (map (λ (h : Glyph). h.box) gs) (g.box ∷ [])

sum_push : (f : Sketch → ℕ) (ss : List Sketch) (s : Sketch) (total more new : ℕ) → total ≡ counted (sum_by f ss) → more ≡ f s
    → new ≡ counted (total + more) → new ≡ counted (sum_by f (ss ++ s ∷ []))
sum_push f ss s total more new h k e = grind (arith, h, k, e, sum_by-append)

pub sketches_push : (fates : List Fate) (fate : Fate)
    → flat_map sketches_in (fates ++ fate ∷ []) ≡ flat_map sketches_in fates ++ sketches_in fate
sketches_push fates fate = flat_map-append sketches_in fates (fate ∷ []) ∙
    ap (λ (xs : List Sketch). flat_map sketches_in fates ++ xs) (append-nil (sketches_in fate))

pub holds_none : (setting : Setting) (refused : OnRefused) (new : Seen) → IsEmpty new
    → Holds setting refused [] new
holds_none setting refused new h =
    let P : Box → Type 0 = λ b. IsPlaced b in
    record {
      fates = [];
      glyphs = [];
      planned = refl;
      drawn = tt;
      bounds = h.bounds;
      gathered = h.gathered;
      narrow = omega (arith, h.gathered.total);
      placed = subst P (sym h.bounds)
          (record { left = omega arith; right = omega arith; bottom = omega arith; top = omega arith });
      count = h.glyphs;
      strays = ap (λ (u : Usage). u.strays) h.usage;
      steps = ap (λ (u : Usage). u.steps) h.usage;
      each = omega (arith, h.glyphs);
    }

-- a character that is drawn
holds_drawn : (setting : Setting) (refused : OnRefused) (mapped : List Mapped) (m : Mapped) (old new : Seen) (fate : Fate)
    (sketch : Sketch) {before after : KeptBytes} → sketches_in fate ≡ sketch ∷ [] → Holds setting refused mapped old
    → mapped_fate_of setting refused m ≡ Ok fate → Has sketch old new before after → Holds setting refused (mapped ++ m ∷ []) new
holds_drawn setting refused mapped m old new fate sketch one h s a =
    let ss : List Sketch = flat_map sketches_in h.fates in
    let more : flat_map sketches_in (h.fates ++ fate ∷ []) ≡ ss ++ sketch ∷ [] = sketches_push h.fates fate ∙
    ap (λ (xs : List Sketch). ss ++ xs) one in
    let P : List Sketch → Type 0 = λ xs. AreGlyphsOf xs (h.glyphs ++ a.glyph ∷ []) in
    record {
      fates = h.fates ++ fate ∷ [];
      glyphs = h.glyphs ++ a.glyph ∷ [];
      planned = chain_push (mapped_fate_of setting refused) mapped m h.fates fate h.planned s;
      drawn = subst P (sym more) (glyphs_append ss (sketch ∷ []) h.glyphs (a.glyph ∷ []) h.drawn (a.drawn, tt));
      bounds = a.adds.bounds_are ∙ ap (λ (b : Box). joined b a.glyph.box) h.bounds ∙ sym (bounds_push h.glyphs a.glyph);
      placed = a.placed;
      gathered = gathered_push h.glyphs a.glyph old.gathered new.gathered h.gathered
          (a.adds.gathered ∙ ap₂ (gathered_with old.gathered) (sym a.drawn.code) (sym a.drawn.dwidth));
      narrow = a.adds.narrow;
      count = omega (arith, a.adds.glyphs, h.count, length-append ss (sketch ∷ []), ap length more);
      strays = sum_push (λ x. x.usage.strays) ss sketch old.usage.strays sketch.usage.strays new.usage.strays
          h.strays refl (ap (λ (u : Usage). u.strays) a.adds.usage) ∙
          ap (λ (xs : List Sketch). counted (sum_by (λ x. x.usage.strays) xs)) (sym more);
      steps = sum_push (λ x. x.usage.steps) ss sketch old.usage.steps sketch.usage.steps new.usage.steps
          h.steps refl (ap (λ (u : Usage). u.steps) a.adds.usage) ∙
          ap (λ (xs : List Sketch). counted (sum_by (λ x. x.usage.steps) xs)) (sym more);
      each = omega (arith, a.adds.glyphs, h.each, length-append mapped (m ∷ []));
    }

-- a character that is left out
holds_left_out : (setting : Setting) (refused : OnRefused) (mapped : List Mapped) (m : Mapped) (seen : Seen) (fate : Fate)
    → sketches_in fate ≡ [] → Holds setting refused mapped seen
    → mapped_fate_of setting refused m ≡ Ok fate → Holds setting refused (mapped ++ m ∷ []) seen
holds_left_out setting refused mapped m seen fate none h s =
    let ss : List Sketch = flat_map sketches_in h.fates in
    let same : ss ≡ flat_map sketches_in (h.fates ++ fate ∷ []) = sym (sketches_push h.fates fate ∙
    ap (λ (xs : List Sketch). ss ++ xs) none ∙ append-nil ss) in
    let P : List Sketch → Type 0 = λ xs. AreGlyphsOf xs h.glyphs in
    record {
      fates = h.fates ++ fate ∷ [];
      glyphs = h.glyphs;
      planned = chain_push (mapped_fate_of setting refused) mapped m h.fates fate h.planned s;
      drawn = subst P same h.drawn;
      bounds = h.bounds;
      placed = h.placed;
      gathered = h.gathered;
      narrow = h.narrow;
      count = h.count ∙ ap length same;
      strays = h.strays ∙ ap (λ (xs : List Sketch). counted (sum_by (λ x. x.usage.strays) xs)) same;
      steps = h.steps ∙ ap (λ (xs : List Sketch). counted (sum_by (λ x. x.usage.steps) xs)) same;
      each = omega (arith, h.each, length-append mapped (m ∷ []));
    }

holds_push : (setting : Setting) (refused : OnRefused) (mapped : List Mapped) (m : Mapped) (old new : Seen) (fate : Fate)
    (before after : KeptBytes) → Holds setting refused mapped old → mapped_fate_of setting refused m ≡ Ok fate
    → HasFate fate old new before after → Holds setting refused (mapped ++ m ∷ []) new
holds_push setting refused mapped m old new (Drawn sketch) before after h s a =
    holds_drawn setting refused mapped m old new (Drawn sketch) sketch refl h s a
holds_push setting refused mapped m old new (Unhinted notice sketch) before after h s a =
    holds_drawn setting refused mapped m old new (Unhinted notice sketch) sketch refl h s a
holds_push setting refused mapped m old new (LeftOut notice) before after h s a =
    rw a.0 (holds_left_out setting refused mapped m old (LeftOut notice) refl h s)

-- ---- the same at a place of the characters

pub seen_at : (setting : Setting) (refused : OnRefused) (mapped : List Mapped) (i : ℕ) (old new : Seen)
    (before after : KeptBytes) → i < length mapped → Holds setting refused (take i mapped) old
    → (fate : Fate) × (mapped_fate_of setting refused (mapped_in mapped i) ≡ Ok fate) × HasFate fate old new before after
    → Holds setting refused (take (i + 1) mapped) new
seen_at setting refused mapped i old new before after l h d =
    let P : List Mapped → Type 0 = λ xs. Holds setting refused xs new in
    subst P (sym (take_more mapped i (record { code = 0; glyph = 0 }) l))
    (holds_push setting refused (take i mapped) (mapped_in mapped i) old new d.0 before after h d.1 d.2)

pub refused_at : (setting : Setting) (refused : OnRefused) (mapped : List Mapped) (i : ℕ) (old : Seen) (refusal : Refusal)
    → i < length mapped → Holds setting refused (take i mapped) old
    → Fails refusal (mapped_fate_of setting refused (mapped_in mapped i))
    → Fails refusal (fates_in setting refused mapped)
refused_at setting refused mapped i old refusal l h f =
    fails_on refusal (mapped_fate_of setting refused (mapped_in mapped i)) (fates_in setting refused mapped)
    (λ d k.
    ap (fates_in setting refused) (sym (take-append-drop i mapped) ∙ ap (λ (xs : List Mapped). take i mapped ++ xs)
    (drop_more mapped i (record { code = 0; glyph = 0 }) l))
    ∙ chain_refused (mapped_fate_of setting refused) (take i mapped) (mapped_in mapped i) (drop (i + 1) mapped) h.fates d h.planned
    k) f

-- Lines that are written one after the other are the strike's text, or its beginning up to a fault: `strike_leaves`.
-- Serves `write_drawn`, `write_fate`, `write_one`, `write_made`, `write_all`, `write_text` and `write_strike`.
use Rattle.std.proofs.Common.{◌≡◌, refl, sym, ap, ap₂, ◌∙◌, subst, append_assoc, arith, ℕ, ◌+◌, ◌-◌, ◌^◌, ◌<◌, ◌≤◌, OnOk, Bool}
use Rattle.std.proofs.Common.{Option, List, [], ◌∷◌, ◌++◌, length, take, drop, length-append, take-append-drop, Result, Ok, Err}
use Rattle.std.specs.List.{flat_map}
use Rattle.std.specs.Borrow.{GName}
use Rattle.std.proofs.KnownBytes.{Appends-nil}
use Rattle.std.proofs.lemmas.List.{append-nil, take_more}
use Rattle.std.proofs.lemmas.Grind.{flat_map-append}
use Rattle.fx_fixed.specs.Chain.{map_ok}
use Rattle.fx_fixed.specs.Texts.{TextView, Adds, Fails as WriterFails, after, begun, length_of}
use Rattle.fx_fixed.proofs.Texts.{adds_count, adds_quiet, adds_stopped, adds_text, adds_then}
use Rattle.fx_fixed.specs.declared.sink.WriteFailed.{WriteFailed as Failed}
use Rattle.fx_fixed.proofs.Chain.{same_Ok}
use Rattle.fx_bdf.specs.Glyphs.{Glyph, TrimmedIsOne}
use Rattle.fx_bdf.specs.Properties.{PropertyView}
use Rattle.fx_bdf.specs.Text.{header_text, glyph_text, end_text}
use Rattle.fx_bdf.specs.X11.{all_properties}
use Rattle.fx_bdf.specs.declared.summary.Summary.{Summary}
use Rattle.fx_request.specs.declared.refusal.Refusal.TheVariants.{WriteFailed, ReadFailed, BadHex, InputTooLarge, OutOfMemory}
use Rattle.fx_strike.specs.Strike.{Sketch, Setting, Plan, Fate, IsGlyphOf, AreGlyphsOf, sketches_in, plan_within}
use Rattle.fx_strike.specs.Strike.{properties_of, strike_text, rising, Refusal, Fails, Title, OnRefused}
use Rattle.fx_strike.specs.Headline.{Surveyed, Leaves, surveyed_header, Header, Survey, Change}
use Rattle.fx_strike.specs.inner.Writing.{AddsMoreBy, AddsPart, AreLinesIn, AreLinesOf, Stops, Writes}
use Rattle.fx_strike.proofs.OnePart.{chain_parts, chain_split, glyph_is_one, glyphs_are_one, planned}
use Rattle.fx_strike.proofs.Existing.{glyphs_append}
use Rattle.fx_strike.proofs.Mapping.{fates_are}
use Rattle.fx_strike.proofs.Seeing.{chain_push, sketches_push}
use Rattle.fx_strike.specs.inner.Mapping.{fates_in, mapped_fate_of, mapped_in, mapped_of, Mapped}

-- ---- parts of a text

-- the writer took it, or failed
pub added : {was now : TextView} {text : List ℕ} → Adds WriterFails was now text (Ok tt) → Adds Stops was now text (Ok tt)
added h = record { same = h.same; outcome = h.outcome }

pub unadded : {was now : TextView} {text : List ℕ} {f : Failed} → Adds WriterFails was now text (Err f)
    → length_of was + length text < 2 ^ 64 - 1 → Adds Stops was now text (Err (WriteFailed f.0))
unadded {was} {now} {text} h room =
    let o = h.outcome in
    let exact : after was.taken o.0 < 2 ^ 64 - 1 = omega (arith, o.1, length-append was.waiting text) in
    record { same = h.same; outcome = (o.0, o.1, o.2, (o.3.0, exact, o.3.1)) }

-- ---- a whole text

-- a text that was begun, added and ended was written
pub writes_closed : {sink : GName} {old new : Option (List ℕ)} {faults_before faults : ℕ} {was now : TextView} {text : List ℕ}
    {r : Result (Unit {0}) Refusal}
    → was ≡ begun sink old faults_before → Adds Stops was now text r → OnOk r (now.waiting ≡ []) → new ≡ now.held
    → faults ≡ now.faults
    → Writes (record { bytes_before = old; bytes = new; faults_before = faults_before; faults = faults }) text r
writes_closed {sink} {old} {new} {faults_before} {faults} {was} {now} {text} {r} e h empty held count =
    grind (arith, e, h, empty, held, count, append-nil)

-- ---- a part of a text

pub adds_part : {Are : List ℕ → Type 0} {most : ℕ} {was now : TextView} {text : List ℕ} → length text ≤ most
    → ((lines : List ℕ) → Are lines → text ≡ lines) → Adds Stops was now text (Ok tt) → AddsPart Are most was now (Ok tt)
adds_part short same h = record {
  same = h.same;
  quiet = adds_quiet h;
  short = omega (arith, adds_count h, short);
  lines = λ lines a. adds_text (same lines a) h;
}

pub stops_part : {Are : List ℕ → Type 0} {most : ℕ} {was now : TextView} {text : List ℕ} {d : Refusal}
    → ((lines : List ℕ) → Are lines → text ≡ lines) → Adds Stops was now text (Err d) → AddsPart Are most was now (Err d)
stops_part same h =
    record { same = h.same; quiet = tt; short = tt; lines = λ lines a more l. adds_stopped more (adds_text (same lines a) h) }

-- out of memory before it
pub part_memory : {Are : List ℕ → Type 0} {most : ℕ} {was : TextView} {d : Refusal}
    → ((lines : List ℕ) → Are lines → d ≡ OutOfMemory) → AddsPart Are most was was (Err d)
part_memory {Are} {most} {was} {d} m = record { same = refl; quiet = tt; short = tt; lines = stopped }
  where
    stopped : (lines : List ℕ) → Are lines → AddsMoreBy was was lines (Err d)
    stopped lines a more l =
        let low : 0 < length (was.waiting ++ (lines ++ more)) =
        omega (arith, l, length-append was.waiting (lines ++ more), length-append lines more) in
        let P : Refusal → Type 0 = λ x. Adds Stops was was (lines ++ more) (Err x) in
        subst P (sym (m lines a)) (record { same = refl; outcome = (0, low, Appends-nil was.held, refl) })

-- lines of another kind, if these are such
pub part_as : {Are Those : List ℕ → Type 0} {most more : ℕ} {was now : TextView} (r : Result (Unit {0}) Refusal) → most ≤ more
    → ((lines : List ℕ) → Those lines → Are lines) → AddsPart Are most was now r → AddsPart Those more was now r
part_as (Ok u) low are h =
    record { same = h.same; quiet = h.quiet; short = omega (arith, h.short, low); lines = λ lines a. h.lines lines (are lines a) }
part_as (Err d) low are h =
    record { same = h.same; quiet = tt; short = tt; lines = λ lines a. h.lines lines (are lines a) }

-- lines that are two parts
pub record Parted (Front Back : List ℕ → Type 0) (lines : List ℕ) : Type 0 where
  pub front : List ℕ
  pub back : List ℕ
  pub front_is : Front front
  pub back_is : Back back
  pub whole : front ++ back ≡ lines

-- one part was added, and then the other
pub part_then : {Front Back Are : List ℕ → Type 0} {m n most : ℕ} {was now next : TextView} (r : Result (Unit {0}) Refusal)
    → m + n ≤ most → ((lines : List ℕ) → Are lines → Parted Front Back lines) → AddsPart Front m was now (Ok tt)
    → AddsPart Back n now next r → AddsPart Are most was next r
part_then (Ok u) low split h g = record {
  same = g.same ∙ h.same;
  quiet = g.quiet ∙ h.quiet;
  short = omega (arith, low, h.short, g.short);
  lines = λ lines a.
      let p = split lines a in adds_text p.whole (adds_then (h.lines p.front p.front_is) (g.lines p.back p.back_is));
}
part_then (Err d) low split h g = record {
  same = g.same ∙ h.same;
  quiet = tt;
  short = tt;
  lines = λ lines a more l.
      let p = split lines a in
      adds_text (sym (append_assoc p.front p.back more) ∙ ap (λ (t : List ℕ). t ++ more) p.whole)
      (adds_then (h.lines p.front p.front_is) (g.lines p.back p.back_is more l));
}

-- it stopped in the first of two
pub part_begins : {Front Back Are : List ℕ → Type 0} {m most : ℕ} {was now : TextView} {d : Refusal}
    → ((lines : List ℕ) → Are lines → Parted Front Back lines) → AddsPart Front m was now (Err d)
    → AddsPart Are most was now (Err d)
part_begins split h = record {
  same = h.same;
  quiet = tt;
  short = tt;
  lines = λ lines a more l.
      let p = split lines a in
      adds_text (sym (append_assoc p.front p.back more) ∙ ap (λ (t : List ℕ). t ++ more) p.whole)
      (h.lines p.front p.front_is (p.back ++ more) (omega (arith, l, length-append p.back more)));
}

-- ---- the lines of sketches

-- there are none without a sketch
pub no_lines : (lines : List ℕ) → AreLinesIn [] lines → [] ≡ lines
no_lines lines h = by h.glyphs h.drawn h.lines_are
  where
    by : (gs : List Glyph) → AreGlyphsOf [] gs → lines ≡ flat_map glyph_text gs → [] ≡ lines
    by [] d e = sym e
    by (g ∷ gs) d e = absurd d

-- those of two lists are those of the glyphs of both
pub lines_join : {ss ts : List Sketch} {a b : List ℕ} → AreLinesIn ss a → AreLinesIn ts b → AreLinesIn (ss ++ ts) (a ++ b)
lines_join {ss} {ts} h g = record {
  glyphs = h.glyphs ++ g.glyphs;
  drawn = glyphs_append ss ts h.glyphs g.glyphs h.drawn g.drawn;
  lines_are = ap₂ (λ (x y : List ℕ). x ++ y) h.lines_are g.lines_are ∙ sym (flat_map-append glyph_text h.glyphs g.glyphs);
}

-- and can be parted again
sketches_parted : (ss ts : List Sketch) (gs : List Glyph) → AreGlyphsOf (ss ++ ts) gs
    → Parted (AreLinesIn ss) (AreLinesIn ts) (flat_map glyph_text gs)
sketches_parted [] ts gs d = record {
  front = [];
  back = flat_map glyph_text gs;
  front_is = record { glyphs = []; drawn = tt; lines_are = refl };
  back_is = record { glyphs = gs; drawn = d; lines_are = refl };
  whole = refl;
}
sketches_parted (s ∷ ss) ts [] d = absurd d
sketches_parted (s ∷ ss) ts (g ∷ gs) d =
    let p = sketches_parted ss ts gs d.1 in record {
      front = glyph_text g ++ p.front;
      back = p.back;
      front_is = record {
        glyphs = g ∷ p.front_is.glyphs;
        drawn = (d.0, p.front_is.drawn);
        lines_are = ap (λ (t : List ℕ). glyph_text g ++ t) p.front_is.lines_are;
      };
      back_is = p.back_is;
      whole = append_assoc (glyph_text g) p.front p.back ∙ ap (λ (t : List ℕ). glyph_text g ++ t) p.whole;
    }

-- the glyph of a sketch has its lines
pub drawn_lines : {g : Glyph} → TrimmedIsOne → (sketch : Sketch) → IsGlyphOf sketch g → (lines : List ℕ)
    → AreLinesIn (sketch ∷ []) lines → glyph_text g ≡ lines
drawn_lines {g} one sketch is lines h =
    sym (h.lines_are ∙ ap (flat_map glyph_text) (glyphs_are_one (glyph_is_one one) (sketch ∷ []) h.glyphs (g ∷ []) h.drawn (is, tt))
    ∙ append-nil (glyph_text g))

-- ---- the lines of characters

-- out of memory is the only refusal if a value is due
only_memory : {Y : Type 0} (d : Refusal) (due : Result Y Refusal) (y : Y) → due ≡ Ok y → Fails d due → d ≡ OutOfMemory
only_memory OutOfMemory due y h f = refl
only_memory (WriteFailed n) due y h f = absurd f
only_memory ReadFailed due y h f = absurd f
only_memory BadHex due y h f = absurd f
only_memory InputTooLarge due y h f = absurd f
only_memory d due y h f = let e : Err d ≡ Ok y = sym f ∙ h in absurd (cc)

module _ {setting : Setting} {refused : OnRefused} where
  -- no character has none
  pub no_characters : (lines : List ℕ) → AreLinesOf setting refused [] lines → [] ≡ lines
  no_characters lines h =
      let none : h.fates ≡ [] = cc (h.planned) in
      let P : List Fate → Type 0 = λ fs. AreLinesIn (flat_map sketches_in fs) lines in no_lines lines (subst P none h.of)

  -- those of one character, by what becomes of it
  pub lines_fate : (m : Mapped) (fate : Fate) → mapped_fate_of setting refused m ≡ Ok fate → (lines : List ℕ)
      → AreLinesOf setting refused (m ∷ []) lines → AreLinesIn (sketches_in fate) lines
  lines_fate m fate e lines h =
      let p = chain_parts (mapped_fate_of setting refused) m [] h.fates h.planned in
      let none : [] ≡ p.1 = cc (p.3) in
      let same : p.0 ≡ fate = same_Ok p.0 fate p.2 e in
      let all : flat_map sketches_in h.fates ≡ sketches_in fate =
      ap (flat_map sketches_in) p.4 ∙ ap (λ (fs : List Fate). sketches_in p.0 ++ flat_map sketches_in fs) (sym none)
      ∙ append-nil (sketches_in p.0) ∙ ap sketches_in same in
      let P : List Sketch → Type 0 = λ ss. AreLinesIn ss lines in subst P all h.of

  -- out of memory is the only refusal of one that has lines
  pub lines_memory : (m : Mapped) (d : Refusal) → Fails d (mapped_fate_of setting refused m) → (lines : List ℕ)
      → AreLinesOf setting refused (m ∷ []) lines → d ≡ OutOfMemory
  lines_memory m d fails lines h =
      let p = chain_parts (mapped_fate_of setting refused) m [] h.fates h.planned in only_memory d _ p.0 p.2 fails

  -- those of characters are those of the first ones, and of the others
  pub lines_parted : (xs ys : List Mapped) (lines : List ℕ) → AreLinesOf setting refused (xs ++ ys) lines
      → Parted (AreLinesOf setting refused xs) (AreLinesOf setting refused ys) lines
  lines_parted xs ys lines h =
      let p = chain_split (mapped_fate_of setting refused) xs ys h.fates h.planned in
      let all : flat_map sketches_in h.fates ≡ flat_map sketches_in p.0 ++ flat_map sketches_in p.1 =
      ap (flat_map sketches_in) p.4 ∙ flat_map-append sketches_in p.0 p.1 in
      let P : List Sketch → Type 0 = λ ss. AreGlyphsOf ss h.of.glyphs in
      let q = sketches_parted (flat_map sketches_in p.0) (flat_map sketches_in p.1) h.of.glyphs (subst P all h.of.drawn) in record {
        front = q.front;
        back = q.back;
        front_is = record { fates = p.0; planned = p.2; of = q.front_is };
        back_is = record { fates = p.1; planned = p.3; of = q.back_is };
        whole = q.whole ∙ sym h.of.lines_are;
      }

  pub parted_at : (k : ℕ) (ms : List Mapped) (lines : List ℕ) → AreLinesOf setting refused ms lines
      → Parted (AreLinesOf setting refused (take k ms)) (AreLinesOf setting refused (drop k ms)) lines
  parted_at k ms lines h =
      let P : List Mapped → Type 0 = λ xs. AreLinesOf setting refused xs lines in
      lines_parted (take k ms) (drop k ms) lines (subst P (sym (take-append-drop k ms)) h)

  pub parted_next : (i : ℕ) (ms : List Mapped) → i < length ms → (lines : List ℕ)
      → AreLinesOf setting refused (take (i + 1) ms) lines
      → Parted (AreLinesOf setting refused (take i ms)) (AreLinesOf setting refused (mapped_in ms i ∷ [])) lines
  parted_next i ms l lines h =
      let P : List Mapped → Type 0 = λ xs. AreLinesOf setting refused xs lines in
      lines_parted (take i ms) (mapped_in ms i ∷ []) lines (subst P (take_more ms i (record { code = 0; glyph = 0 }) l) h)

  -- and one character more
  pub lines_push : (ms : List Mapped) (m : Mapped) (fate : Fate) {a b : List ℕ} → AreLinesOf setting refused ms a
      → mapped_fate_of setting refused m ≡ Ok fate → AreLinesIn (sketches_in fate) b
      → AreLinesOf setting refused (ms ++ m ∷ []) (a ++ b)
  lines_push ms m fate {a} {b} h e g =
      let P : List Sketch → Type 0 = λ ss. AreLinesIn ss (a ++ b) in record {
        fates = h.fates ++ fate ∷ [];
        planned = chain_push (mapped_fate_of setting refused) ms m h.fates fate h.planned e;
        of = subst P (sym (sketches_push h.fates fate)) (lines_join h.of g);
      }

  -- characters have one text
  pub lines_are_one : TrimmedIsOne → (ms : List Mapped) {a : List ℕ} → AreLinesOf setting refused ms a → (b : List ℕ)
      → AreLinesOf setting refused ms b → a ≡ b
  lines_are_one one ms h b g =
      let same : h.fates ≡ g.fates = same_Ok h.fates g.fates h.planned g.planned in
      let P : List Fate → Type 0 = λ fs. AreGlyphsOf (flat_map sketches_in fs) h.of.glyphs in
      h.of.lines_are ∙ ap (flat_map glyph_text) (glyphs_are_one (glyph_is_one one) (flat_map sketches_in g.fates) h.of.glyphs
      g.of.glyphs (subst P same h.of.drawn) g.of.drawn) ∙ sym g.of.lines_are

-- ---- a strike

-- the properties of a title, by a size and what was seen of the glyphs
abbrev pub properties_by : Title → ℕ → Survey → List PropertyView
properties_by title ppem survey = all_properties title.x11 title.name ppem survey.summary title.properties

-- the text of a strike that was surveyed
survey_text : (setting : Setting) (title : Title) (chars : List ℕ) (refused : OnRefused) (survey : Survey)
    (s : Surveyed (plan_within setting title chars refused) survey)
    → header_text title.name (properties_by title setting.ppem survey) (surveyed_header setting.ppem survey)
    ++ (flat_map glyph_text s.glyphs ++ end_text) ≡ strike_text s.plan s.glyphs
unfolding strike_text
survey_text setting title chars refused survey s =
    let p = planned setting title chars refused s.plan s.is in
    let given : properties_by title setting.ppem survey ≡ properties_of s.plan s.glyphs =
    ap₂ (λ (b : Bool) (name : List ℕ). all_properties b name setting.ppem survey.summary title.properties) (sym p.x11_is)
    (sym p.name_is)
    ∙ ap₂ (λ (n : ℕ) (ps : List PropertyView). all_properties s.plan.x11 s.plan.name n survey.summary ps) (sym p.ppem_is)
    (sym p.properties_are)
    ∙ ap (λ (x : Summary). all_properties s.plan.x11 s.plan.name s.plan.ppem x s.plan.properties) s.summary in
    ap (λ (t : List ℕ). t ++ (flat_map glyph_text s.glyphs ++ end_text))
    (ap (λ (n : ℕ). header_text title.name (properties_by title setting.ppem survey) (surveyed_header n survey)) (sym p.ppem_is)
    ∙ ap₂ (λ (t : List ℕ) (ps : List PropertyView). header_text t ps (surveyed_header s.plan.ppem survey)) (sym p.name_is) given
    ∙ ap (header_text s.plan.name (properties_of s.plan s.glyphs)) s.header)

-- what a call leaves, by what was written of the text
leaves_by : {due : Result Plan Refusal} {change : Change} {survey : Survey} (s : Surveyed due survey)
    (r : Result (Unit {0}) Refusal) → Writes change (strike_text s.plan s.glyphs) r
    → Leaves {Y = Unit {0}} (Ok tt) due change (map_ok (λ _. survey.report) r)
leaves_by s (Ok u) w = grind (arith, w)
leaves_by s (Err OutOfMemory) w = grind (arith, w)
leaves_by s (Err (WriteFailed n)) w = grind (arith, w)
leaves_by s (Err d) w = absurd w.outcome.3

-- the text of a strike was written, or a beginning of it
pub strike_leaves : {setting : Setting} (title : Title) (chars : List ℕ) {refused : OnRefused} {mapped : List Mapped}
    {change : Change} {survey : Survey} {header : Header} {all : List PropertyView} (r : Result (Unit {0}) Refusal)
    → mapped ≡ mapped_of setting.map (rising chars) → header ≡ surveyed_header setting.ppem survey
    → all ≡ properties_by title setting.ppem survey
    → Surveyed (plan_within setting title chars refused) survey
    → ((lines : List ℕ) → AreLinesOf setting refused mapped lines
    → Writes change (header_text title.name all header ++ (lines ++ end_text)) r)
    → Leaves {Y = Unit {0}} (Ok tt) (plan_within setting title chars refused) change (map_ok (λ _. survey.report) r)
strike_leaves {setting} title chars {refused} {mapped} {change} {survey} {header} {all} r c q a s w =
    let p = planned setting title chars refused s.plan s.is in
    let fates = ap (fates_in setting refused) c ∙ fates_are setting refused (rising chars) ∙ p.planned in
    let same : header_text title.name all header ++ (flat_map glyph_text s.glyphs ++ end_text) ≡ strike_text s.plan s.glyphs =
    rw (q, a) (survey_text setting title chars refused survey s) in
    let P : List Sketch → Type 0 = λ ss. AreGlyphsOf ss s.glyphs in
    leaves_by s r (rw same at (w (flat_map glyph_text s.glyphs) (record {
      fates = p.fates;
      planned = fates;
      of = record { glyphs = s.glyphs; drawn = subst P p.sketches s.drawn; lines_are = refl };
    })))

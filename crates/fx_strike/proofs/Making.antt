-- What was seen of all characters makes the survey that is due (`surveyed`); a refusal on the way writes nothing (`fails_leaves`).
-- Serves `first_pass`, `pixels`, `survey`, `write_strike` and `make_strike_in`.
use Rattle.std.proofs.Common.{refl, sym, ap, ◌≡◌, ◌∙◌, arith, inl, ℕ, ◌+◌, ◌<◌, ◌≤◌, ◌^◌, ℤ, pos, List, map}
use Rattle.std.proofs.Common.{Result, Ok}
use Rattle.std.proofs.Common.{Err, FitsSigned, w32, to_z, of_z, lit<}
use Rattle.std.specs.Int.{w128}
use Rattle.std.specs.Prelude.{◌*ℤ◌, neg_ℤ, unsigned_abs, IsOk, IsErrOf}
use Rattle.std.specs.Io.KnownBytes.{Keeps}
use Rattle.std.specs.List.{sum_by, flat_map}
use Rattle.std.proofs.lemmas.Int.{ints, fits_signed_mul, fits_signed_from_abs, unsigned_abs-mul}
use Rattle.std.proofs.Math.Nat.{mul-le-mul_left}
use Rattle.fx_fixed.specs.Numbers.{near_of}
use Rattle.fx_fixed.specs.Sizes.{IsPpem, max_ppem}
use Rattle.fx_bdf.specs.Glyphs.{Box, bounds_of}
use Rattle.fx_request.specs.declared.refusal.Refusal.TheVariants.{WriteFailed, ReadFailed, BadHex, InputTooLarge, OutOfMemory}
use Rattle.fx_fixed.specs.Numbers.{counted}
use Rattle.fx_strike.specs.Strike.{Setting, Plan, sketches_in, prelude_by, pixels, fates_of, plan_from, plan_within, Refusal, Fails}
use Rattle.fx_strike.specs.Strike.{rising, Title, OnRefused}
use Rattle.fx_strike.specs.Headline.{IsCause, Surveyed, Leaves, Makes, Header, Report, Change}
use Rattle.fx_strike.specs.inner.Mapping.{AreCharactersOf, fates_in, mapped_of, Characters, Mapped}
use Rattle.fx_strike.specs.inner.Surveying.{Holds, survey_from, Seen}
use Rattle.fx_strike.proofs.GatheredGlyphs.{as_many, summary_is}
use Rattle.fx_strike.proofs.Mapping.{fates_are}
use Rattle.fx_strike.proofs.Sketching.{fails_on}

-- ---- a survey

-- the fates of a strike are those of its characters
same_fates : (setting : Setting) (chars : List ℕ) (refused : OnRefused) (mapped : List Mapped)
    → mapped ≡ mapped_of setting.map (rising chars)
    → fates_of setting refused (rising chars) ≡ fates_in setting refused mapped
same_fates setting chars refused mapped c =
    sym (ap (fates_in setting refused) c ∙ fates_are setting refused (rising chars))

pub unseen : (setting : Setting) (title : Title) (chars : List ℕ) (mapped : List Mapped) (refused : OnRefused) (d : Refusal)
    → mapped ≡ mapped_of setting.map (rising chars) → Fails d (fates_in setting refused mapped)
    → Fails d (plan_within setting title chars refused)
unfolding plan_within
unseen setting title chars mapped refused d c f =
    fails_on d (fates_in setting refused mapped) _ (λ x g. rw (same_fates setting chars refused mapped c ∙ g)) f

-- a count goes on after what was counted before
counted_on : (before after total : ℕ) → after ≡ counted total → counted (before + after) ≡ counted (before + total)
counted_on before after total h = omega arith

pub surveyed : (setting : Setting) (title : Title) (chars : List ℕ) (refused : OnRefused) (characters : Characters) (seen : Seen)
    → AreCharactersOf setting.map (rising chars) characters → Holds setting refused characters.mapped.items seen
    → Surveyed (plan_within setting title chars refused) (survey_from setting seen characters.missing)
unfolding plan_within
surveyed setting title chars refused characters seen c g =
    let planned = same_fates setting chars refused characters.mapped.items c.mapped ∙ g.planned in
    let heading : Box → ℕ → Header = λ b n. record {
      ppem = setting.ppem;
      bounds = b;
      ascent = pixels setting.font.hhea.ascender setting.ppem setting.font.head.units_per_em;
      descent = pixels (neg_ℤ setting.font.hhea.descender) setting.ppem setting.font.head.units_per_em;
      glyphs = n;
    } in
    record {
      plan = plan_from setting title chars g.fates;
      glyphs = g.glyphs;
      is = rw planned;
      drawn = g.drawn;
      header = ap (λ (b : Box). heading b seen.glyphs) g.bounds ∙
          ap (λ (n : ℕ). heading (bounds_of (map (λ x. x.box) g.glyphs)) n) g.count;
      summary = summary_is g.glyphs seen.gathered seen.glyphs g.gathered
          (g.count ∙ as_many (flat_map sketches_in g.fates) g.glyphs g.drawn);
      wish = refl;
      told = record {
        glyphs = g.count;
        missing = c.missing;
        strays = counted_on (prelude_by setting.machine).strays seen.usage.strays
            (sum_by (λ s. s.usage.strays) (flat_map sketches_in g.fates)) g.strays;
        steps = counted_on (prelude_by setting.machine).steps seen.usage.steps
            (sum_by (λ s. s.usage.steps) (flat_map sketches_in g.fates)) g.steps;
      };
    }

-- ---- refusals that are due

pub fails_cause : {Y : Type 0} (d : Refusal) (due : Result Y Refusal) → IsCause d → due ≡ Err d → Fails d due
fails_cause OutOfMemory due c h = tt
fails_cause (WriteFailed n) due c h = absurd c
fails_cause ReadFailed due c h = absurd c
fails_cause BadHex due c h = absurd c
fails_cause InputTooLarge due c h = absurd c
fails_cause d due c h = h

pub not_memory : {X : Type 0} (d : Refusal) → IsCause d → d ≡ OutOfMemory → X
not_memory d c m = absurd (rw m at c)

-- ---- what a call leaves

-- a refusal on the way, and nothing was written
pub fails_leaves : (due : Result Plan Refusal) (change : Change) (d : Refusal) → Keeps change.bytes_before change.bytes
    → change.faults ≡ change.faults_before → Fails d due → Leaves {Y = Unit {0}} (Ok tt) due change (Err d)
fails_leaves due change OutOfMemory k q f = (refl, record { begun = inl k; quiet = q })
fails_leaves due change (WriteFailed n) k q f = absurd f
fails_leaves due change ReadFailed k q f = absurd f
fails_leaves due change BadHex k q f = absurd f
fails_leaves due change InputTooLarge k q f = absurd f
fails_leaves due change d k q f = record { cause = tt; first = f; kept = k; quiet = q }

-- clause by clause, where the checks passed if memory ran out
pub makes : {Y : Type 0} {checks : Result Y Refusal} {due : Result Plan Refusal} {change : Change} (r : Result Report Refusal)
    → (IsErrOf r OutOfMemory → IsOk checks) → Leaves {Y = Unit {0}} (Ok tt) due change r → Makes checks due change r
makes (Ok report) o h = grind (arith, o, h)
makes (Err OutOfMemory) o h = grind (arith, o, h)
makes (Err (WriteFailed m)) o h = grind (arith, o, h)
makes (Err d) o h = grind (arith, o, h)

-- ---- lemmas for answers

pub most : {pixels ppem : ℕ} → pixels ≡ ppem → IsPpem pixels → ppem ≤ max_ppem
most e h = omega (arith, e, h.most)

-- FUnits in whole pixels, as the code casts them
pub pixels_are : (units : ℤ) (ppem em : ℕ) (f g h r : ℤ) → FitsSigned w32 units → unsigned_abs units ≤ 32768 → ppem ≤ max_ppem
    → em < 2 ^ 16 → f ≡ to_z w32 (of_z w32 units) → g ≡ pos ppem → h ≡ pos em
    → r ≡ near_of (to_z w128 (of_z w128 (to_z w128 (of_z w128 f) *ℤ to_z w128 (of_z w128 g)))) (to_z w128 (of_z w128 h))
    → unsigned_abs r ≤ unsigned_abs (to_z w128 (of_z w128 (to_z w128 (of_z w128 f) *ℤ to_z w128 (of_z w128 g))))
    → to_z w32 (of_z w32 (to_z w128 (of_z w128 r))) ≡ pixels units ppem em
pixels_are units ppem em f g h r fits few size small p q s e b =
    let one : to_z w128 (of_z w128 f) ≡ units = omega (arith, ints) in
    let two : to_z w128 (of_z w128 g) ≡ pos ppem = omega (arith, ints) in
    let three : to_z w128 (of_z w128 h) ≡ pos em = omega (arith, ints) in
    let product : FitsSigned w32 (units *ℤ pos ppem) = fits_signed_mul w32 units (pos ppem) 32768 max_ppem few size (lit< tt) in
    let wide : to_z w128 (of_z w128 (units *ℤ pos ppem)) ≡ units *ℤ pos ppem = cast_wide (units *ℤ pos ppem) product in
    let near : r ≡ near_of (units *ℤ pos ppem) (pos em) = rw (one, two, three, wide) at e in
    let bound : unsigned_abs r ≤ unsigned_abs (units *ℤ pos ppem) = rw (one, two, wide) at b in
    let few_pixels : unsigned_abs (units *ℤ pos ppem) ≤ 33554432 =
    omega (arith, unsigned_abs-mul units (pos ppem), mul-le-mul_left (unsigned_abs units) size) in
    cast_back r (pixels units ppem em) (fits_signed_from_abs w32 r (omega arith)) near
  where
    cast_wide : (z : ℤ) → FitsSigned w32 z → to_z w128 (of_z w128 z) ≡ z
    cast_wide z h = omega (arith, ints)

    cast_back : (r z : ℤ) → FitsSigned w32 r → r ≡ z → to_z w32 (of_z w32 (to_z w128 (of_z w128 r))) ≡ z
    cast_back r z h e = omega (arith, ints)

-- What is made of one character is the part of a strike of that character alone: `one_is_of_strike`.
-- Serves the law `one`.
use Rattle.std.proofs.Common.{◌≡◌, refl, sym, ap, ◌∙◌, ℕ, Bool, true, false, not, cond, List, [], ◌∷◌, Some, None, arith}
use Rattle.std.proofs.Common.{Result, Ok, Err}
use Rattle.std.specs.Prelude.{slice_get, if◌then◌else◌}
use Rattle.std.specs.List.{flat_map}
use Rattle.fx_fixed.specs.Chain.{◌>>=◌, wanted, map_ok, map_chain}
use Rattle.fx_fixed.specs.Sizes.{ppem_of}
use Rattle.fx_sfnt.specs.Tables.{Face}
use Rattle.fx_cmap.specs.declared.mapping.Mapping.{Mapping}
use Rattle.fx_cmap.specs.Lookup.{glyph_for}
use Rattle.fx_request.specs.declared.request.OnRefused.TheVariants.{Stop}
use Rattle.fx_request.specs.declared.refusal.Refusal.TheVariants.{BadSize}
use Rattle.fx_strike.specs.Strike.{Sketch, Setting, Plan, Opening, is_missing, checked_chars, checked_text}
use Rattle.fx_strike.specs.Strike.{checked_title, font_with_map, opened_after, opened_one_of, setting_in, plan_from, plan_with}
use Rattle.fx_strike.specs.Strike.{plan_in, plan_of, Fate, sketches_in, fate_by, machineless, glyph_sketch_of, glyph_fate_of}
use Rattle.fx_strike.specs.Strike.{bounded, sketch_alone, plan_within, mapped_of, Mapped}
use Rattle.fx_strike.specs.Characters.{lacks, mapped_at}
use Rattle.fx_strike.specs.Strike.{fate_of, one_with, one_in, one_of, Mode, Refusal, rising, Opened, Title}
use Rattle.fx_strike.specs.Laws.{OneIsOfStrike, only_sketch}

-- ---- an opened font

-- a chain of one step, or of none, whose first refused character refuses the strike
one_step : (first second : Result Sketch Refusal) (code : ℕ) (f : ℕ → Result Fate Refusal) (last : List Fate → Plan) (b : Bool)
    → f code ≡ fate_by Stop code second first → ((fs : List Fate) → (last fs).sketches ≡ flat_map sketches_in fs)
    → (if b then Ok None else map_ok Some first) ≡
    map_ok only_sketch (map_chain f (cond (not b) (code ∷ []) []) >>= λ fs. Ok (last fs))
one_step first second code f last true is same = ap (λ (ss : List Sketch). Ok (slice_get ss 0)) (sym (same []))
one_step first second code f last false is same = grind (arith, is, same)

-- whatever takes too much work
within_is : (setting : Setting) (title : Title) (code : ℕ)
    → (if is_missing setting code then Ok None else map_ok Some (glyph_sketch_of setting code (glyph_for setting.map code)))
    ≡ map_ok only_sketch (plan_within setting title (code ∷ []) Stop)
unfolding rising plan_within glyph_fate_of
within_is setting title code =
    let glyph = glyph_for setting.map code in
    one_step (glyph_sketch_of setting code glyph) (glyph_sketch_of (machineless setting) code glyph) code
    (fate_of setting Stop) (plan_from setting title (code ∷ [])) (is_missing setting code) refl (λ fs. refl)

-- the character of a strike of it alone
only_mapped : (map : Mapping) (code : ℕ) → lacks map code ≡ false → mapped_at map code ∷ [] ≡ mapped_of map (rising (code ∷ []))
unfolding rising
only_mapped map code e = rw e refl

none_or : (b : Bool) (x y : Result Sketch Refusal) → (b ≡ false → x ≡ y)
    → (if b then Ok None else map_ok Some x) ≡ (if b then Ok None else map_ok Some y)
none_or true x y h = refl
none_or false x y h = ap (map_ok Some) (h refl)

with_is : (setting : Setting) (title : Title) (code : ℕ)
    → one_with setting code ≡ map_ok only_sketch (plan_with setting title (code ∷ []) Stop)
unfolding one_with sketch_alone plan_with bounded
with_is setting title code =
    let glyph = glyph_for setting.map code in
    let sketch : List Mapped → Result Sketch Refusal = λ ms. glyph_sketch_of (bounded setting Stop ms) code glyph in
    none_or (is_missing setting code) (sketch (mapped_at setting.map code ∷ []))
    (sketch (mapped_of setting.map (rising (code ∷ [])))) (λ e. ap sketch (only_mapped setting.map code e))
    ∙ within_is (bounded setting Stop (mapped_of setting.map (rising (code ∷ [])))) title code

in_is : (opened : Opened) (title : Title) (code : ℕ) (mode : Mode)
    → one_in opened code mode ≡ map_ok only_sketch (plan_in opened title (code ∷ []) mode Stop)
unfolding one_in plan_in
in_is opened title code mode = by_setting (setting_in opened mode)
  where
    by_setting : (r : Result Setting Refusal)
        → (r >>= λ s. one_with s code) ≡ map_ok only_sketch (r >>= λ s. plan_with s title (code ∷ []) Stop)
    by_setting (Ok s) = with_is s title code
    by_setting (Err e) = refl

-- ---- a font file

-- the checks of a title beside those of its characters
abbrev with_title : Result (Unit {0}) Refusal → Result (Unit {0}) Refusal → Result (Unit {0}) Refusal
with_title title r = r >>= λ _. title

abbrev opening : Result ℕ Refusal → Result (Unit {0}) Refusal → Result (Face × Mapping) Refusal → Opening
opening r checks f = r >>= λ size. checks >>= λ _. f >>= λ font. Ok (record { ppem = size; font = font.0; map = font.1 })

named_alike : (r : Result ℕ Refusal) (checks title : Result (Unit {0}) Refusal) (f : Result (Face × Mapping) Refusal)
    → title ≡ Ok tt → opening r (with_title title checks) f ≡ opening r checks f
named_alike (Ok size) (Ok u) (Ok v) f h = refl
named_alike (Ok size) (Ok u) (Err e) f h = absurd (cc)
named_alike (Ok size) (Err e) title f h = refl
named_alike (Err e) checks title f h = refl

pub one_is_of_strike : OneIsOfStrike
unfolding opened_after checked_text plan_of one_of
one_is_of_strike file ppem title code mode named =
    by_opened (opened_one_of file ppem code)
    ∙ ap (λ (o : Opening). map_ok only_sketch (o >>= λ o. plan_in o title (code ∷ []) mode Stop))
    (sym (named_alike (wanted (ppem_of ppem) BadSize) (checked_chars (code ∷ [])) (checked_title title) (font_with_map file) named))
  where
    by_opened : (o : Opening)
        → (o >>= λ o. one_in o code mode) ≡ map_ok only_sketch (o >>= λ o. plan_in o title (code ∷ []) mode Stop)
    by_opened (Ok o) = in_is o title code mode
    by_opened (Err e) = refl

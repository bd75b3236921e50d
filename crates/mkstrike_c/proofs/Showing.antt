-- A glyph by its number is made, or the refusal is named: `made_by_id`, `refused_by_id`.
-- Serves `found_by_id`, `numbered_by`.
use Rattle.std.proofs.Common.{◌≡◌, refl, sym, ap, ◌∙◌, subst, ℕ, min, Option, Some}
use Rattle.std.proofs.Common.{Result, Ok, Err}
use Rattle.std.specs.Prelude.{IfErr}
use Rattle.fx_fixed.specs.Chain.{◌>>=◌, map_ok}
use Rattle.fx_sfnt.specs.Collections.{FontFileView}
use Rattle.fx_bdf.specs.Glyphs as bits
use Rattle.fx_request.specs.declared.request.Mode.{Mode}
use Rattle.fx_request.specs.declared.refusal.Refusal.{Refusal}
use Rattle.fx_request.specs.declared.refusal.Refusal.TheVariants.{OutOfMemory}
use Rattle.fx_strike.specs.Faults.{Fails}
use Rattle.fx_strike.specs.Strike.{Setting, Opening, opened_at, setting_in, setting_of}
use Rattle.fx_strike.specs.Numbered.{IsDrawnOf, numbered_of, numbered_with}
use Rattle.fx_strike.specs.Headline.{Late}
use Rattle.fx_strike.proofs.Sketching.{fails_on}
use Rattle.mkstrike_c.specs.Refused.{IsReason}
use Rattle.mkstrike_c.specs.Shown.{by_id}
use Rattle.mkstrike_c.specs.inner.Showing.{FindsById}

pub by_id_set : (file : FontFileView) (ppem glyph : ℕ) (mode : Mode) (s : Setting) → setting_of file ppem mode ≡ Ok s
    → by_id file ppem glyph mode ≡ map_ok Some (numbered_with s (min glyph 65535))
unfolding numbered_of
by_id_set file ppem glyph mode s k =
    ap (λ (r : Result Setting Refusal). map_ok Some (r >>= λ s. numbered_with s (min glyph 65535))) k

pub late_at : (file : FontFileView) (ppem : ℕ) (mode : Mode) (s : Setting) → setting_of file ppem mode ≡ Ok s
    → Late (opened_at file ppem)
unfolding setting_of
late_at file ppem mode s h = by_opened (opened_at file ppem) h
  where
    by_opened : (o : Opening) → (o >>= λ o. setting_in o mode) ≡ Ok s → Late o
    by_opened (Ok o) h = refl
    by_opened (Err e) h = absurd (cc)

-- the font was not opened, or its programs halted
pub unset_by_id : (file : FontFileView) (ppem glyph : ℕ) (mode : Mode) (r : Result (Option bits.Glyph) Refusal) (e d : Refusal)
    → r ≡ Err e → e ≡ d → Fails d (setting_of file ppem mode) → (d ≡ OutOfMemory → Late (opened_at file ppem))
    → IfErr r (IsReason (opened_at file ppem) (by_id file ppem glyph mode))
unfolding numbered_of
unset_by_id file ppem glyph mode r e d p q f late =
    let P : Result (Option bits.Glyph) Refusal → Type 0 =
    λ r. IfErr r (IsReason (opened_at file ppem) (by_id file ppem glyph mode)) in
    subst P (sym (p ∙ ap (λ (d : Refusal). Err d) q)) (
      fails_on d (setting_of file ppem mode) (by_id file ppem glyph mode)
          (λ e k. ap (λ (r : Result Setting Refusal). map_ok Some (r >>= λ s. numbered_with s (min glyph 65535))) k) f,
      late,
    )

-- the glyph was not made
pub refused_by_id : (file : FontFileView) (ppem glyph id : ℕ) (mode : Mode) (s : Setting) (r : Result (Option bits.Glyph) Refusal)
    (e d : Refusal) → r ≡ Err e → e ≡ d → setting_of file ppem mode ≡ Ok s → id ≡ min glyph 65535
    → Fails d (numbered_with s id) → IfErr r (IsReason (opened_at file ppem) (by_id file ppem glyph mode))
refused_by_id file ppem glyph id mode s r e d p q k n f =
    let P : Result (Option bits.Glyph) Refusal → Type 0 =
    λ r. IfErr r (IsReason (opened_at file ppem) (by_id file ppem glyph mode)) in
    subst P (sym (p ∙ ap (λ (d : Refusal). Err d) q)) (
      fails_on d (numbered_with s id) (by_id file ppem glyph mode)
          (λ e h. by_id_set file ppem glyph mode s k
          ∙ ap (λ (n : ℕ). map_ok Some (numbered_with s n)) (sym n) ∙ ap (map_ok Some) h) f,
      λ m. late_at file ppem mode s k,
    )

-- it was made
pub made_by_id : (file : FontFileView) (ppem glyph id : ℕ) (mode : Mode) (s : Setting) (g : bits.Glyph)
    → setting_of file ppem mode ≡ Ok s → id ≡ min glyph 65535 → IsDrawnOf (numbered_with s id) g
    → FindsById (by_id file ppem glyph mode) (Some g)
made_by_id file ppem glyph id mode s g k n h = (
  g,
  refl,
  (
    h.0,
    by_id_set file ppem glyph mode s k ∙ ap (λ (n : ℕ). map_ok Some (numbered_with s n)) (sym n) ∙ ap (map_ok Some) h.1,
    h.2,
  ),
)

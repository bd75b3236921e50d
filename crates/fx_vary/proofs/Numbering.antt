-- A glyph that has metrics is one of the font's, as `numbered` says.
-- For `shape_at`.
use Rattle.std.proofs.Common.{◌≡◌, ℕ, ◌<◌, ◌≤◌, Bool, true, false, Result, Ok, refl, sym, ◌∙◌, arith}
use Rattle.std.specs.Prelude.{nat_le}
use Rattle.std.proofs.lemmas.Bool.{le-leb}
use Rattle.fx_fixed.specs.Chain.{◌>>=◌, refuse}
use Rattle.fx_sfnt.specs.Tables.{Face}
use Rattle.fx_sfnt.specs.Glyphs.{metrics_of}
use Rattle.fx_sfnt.specs.declared.fault.FontFault.{FontFault}
use Rattle.fx_sfnt.specs.declared.fault.FontFault.TheVariants.{BadGlyphNumber}
use Rattle.fx_sfnt.specs.declared.records.Metrics.{Metrics}

not_refused : (b : Bool) (f : FontFault) (r : Result Metrics FontFault) (m : Metrics) → (refuse b f >>= λ _. r) ≡ Ok m → b ≡ false
not_refused true f r m e = absurd (cc e)
not_refused false f r m e = refl

pub numbered : (face : Face) (g : ℕ) (m : Metrics) → Ok m ≡ metrics_of face g → g < face.maxp.num_glyphs
unfolding metrics_of
numbered face g m e =
    let p = not_refused (nat_le face.maxp.num_glyphs g) (BadGlyphNumber g) _ m (sym e) in
    let f : face.maxp.num_glyphs ≤ g → ⊥ = λ h. absurd (cc (sym (le-leb face.maxp.num_glyphs g h) ∙ p)) in
    omega (arith, f)

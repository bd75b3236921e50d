-- Programs of glyphs keep the number of points and the contours: `glyphs_keep`.
-- It serves the law of the same name.
use Rattle.std.proofs.Common.{◌≡◌, ℕ, List, Ok, subst, refl}
use Rattle.fx_zone.specs.Figures.{Figure}
use Rattle.fx_machine.specs.declared.program.Program.{Program}
use Rattle.fx_machine.specs.declared.program.Program.TheVariants.{Glyph}
use Rattle.fx_machine.specs.declared.state.State.{State}
use Rattle.fx_machine.specs.declared.ran.Ran.{Ran}
use Rattle.fx_machine.specs.Runs.{Verdict, Finished, Halted, Exhausted}
use Rattle.fx_machine.specs.Configs.{answered}
use Rattle.fx_zone.specs.Figures.{HasShape}
use Rattle.fx_machine.specs.Shapes.{FinishesAlike}
use Rattle.fx_machine.specs.Prepared.{ran_of, glyph_end, started}
use Rattle.fx_machine.specs.Limits.{STEP_LIMIT}
use Rattle.fx_machine.specs.Known.{Known, texts_of, glyph_run, glyph_ran}
use Rattle.fx_scale.specs.Scaling.{scale_of}
use Rattle.fx_machine.specs.Limits.{room_of}
use Rattle.fx_machine.proofs.Keeping.{runs_keep}
use Rattle.fx_fixed.proofs.Chain.{ok_injective}

keeps : (texts : Program → List ℕ) (g : ℕ) (s : State) (v : Verdict) (r : Ran × Figure) → FinishesAlike s v
    → ran_of (answered texts g Glyph v) ≡ Ok r → HasShape s.zones.glyph r.1
keeps texts g s (Finished n t) r h e =
    let P : Ran × Figure → Type 0 = λ q. HasShape s.zones.glyph q.1 in subst P (ok_injective _ _ e) h.glyph
keeps texts g s (Halted c w p) r h e = absurd (cc)
keeps texts g s (Exhausted w p) r h e = absurd (cc)

pub glyphs_keep : (known : Known) (g : ℕ) (code : List ℕ) (glyph : Figure) (r : Ran × Figure)
    → glyph_ran known g code glyph ≡ Ok r
    → HasShape glyph r.1
unfolding glyph_ran glyph_run glyph_end
glyphs_keep known g code glyph r e =
    let s = started known.prepared (scale_of known.face known.ppem) (room_of known.face.maxp.max_stack_elements) glyph in
    keeps (texts_of known.face code) g s _ r (runs_keep (texts_of known.face code) STEP_LIMIT Glyph s) e

-- what fpgm and prep used up has no part in it
pub on_prepared : (a b : Known) → a.face ≡ b.face → a.ppem ≡ b.ppem → a.prepared ≡ b.prepared
    → (g : ℕ) (code : List ℕ) (glyph : Figure) → glyph_ran a g code glyph ≡ glyph_ran b g code glyph
unfolding glyph_ran glyph_run
on_prepared a b i j k g code glyph = rw (i, j, k) refl

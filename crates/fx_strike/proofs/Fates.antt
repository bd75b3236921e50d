-- The fate of a character that is refused is what its cause, and the choice for refused characters, say: `fate_by_cause`.
-- Serves `fate_refused`, `see_one` and `write_one`.
use Rattle.std.proofs.Common.{◌≡◌, refl, ◌∙◌, ℕ, ◌≤◌, Result, Ok, Err}
use Rattle.std.specs.Prelude.{IfErr, OnOk}
use Rattle.fx_machine.specs.declared.halt.Halt.{Halt}
use Rattle.fx_request.specs.declared.refusal.Refusal.TheVariants.{Halted, WriteFailed, ReadFailed, BadHex, InputTooLarge, OutOfMemory}
use Rattle.fx_request.specs.declared.request.OnRefused.TheVariants.{Stop, LeaveOut, Unhinted as DrawUnhinted}
use Rattle.fx_strike.specs.declared.fate.Fate.TheVariants.{Drawn, Unhinted, LeftOut}
use Rattle.fx_strike.specs.Strike.{Sketch, Setting, Fate, left_out_for, machineless, refused_by, glyph_sketch_of, glyph_fate_of}
use Rattle.fx_strike.specs.Strike.{max_code, Refusal, OnRefused, Fails}
use Rattle.fx_strike.specs.inner.Drawing.{CanBeMade}
use Rattle.fx_strike.specs.inner.Keeping.{KeptBytes}
use Rattle.fx_strike.specs.inner.Surveying.{HasFate, SeesOne, Seen}
use Rattle.fx_strike.proofs.Existing.{drawable}
use Rattle.fx_strike.proofs.OnePart.{has_sketch}
use Rattle.fx_strike.proofs.Sketching.{memory_fails}

-- ---- what becomes of a character

-- it is refused for a cause
pub fate_by_cause : (setting : Setting) (refused : OnRefused) (code glyph : ℕ) (cause : Refusal)
    → glyph_sketch_of setting code glyph ≡ Err cause
    → glyph_fate_of setting refused code glyph ≡ refused_by refused code (glyph_sketch_of (machineless setting) code glyph) cause
unfolding glyph_fate_of
fate_by_cause setting refused code glyph cause h = rw h refl

-- a cause that was named
pub named : {Y : Type 0} (d : Refusal) (due : Result Y Refusal) → (d ≡ OutOfMemory → ⊥) → Fails d due → due ≡ Err d
named OutOfMemory due n f = absurd (n refl)
named (WriteFailed k) due n f = absurd f
named ReadFailed due n f = absurd f
named BadHex due n f = absurd f
named InputTooLarge due n f = absurd f
named d due n f = f

-- for a cause other than a halt it is left out
other_cause : (refused : OnRefused) (code : ℕ) (second : Result Sketch Refusal) (cause : Refusal) → (refused ≡ Stop → ⊥)
    → ((halt : Halt) → cause ≡ Halted halt → ⊥) → refused_by refused code second cause ≡ Ok (left_out_for code cause)
other_cause Stop code second cause s n = absurd (s refl)
other_cause LeaveOut code second cause s n = refl
other_cause DrawUnhinted code second (Halted halt) s n = absurd (n halt refl)
other_cause DrawUnhinted code second cause s n = refl

pub fate_left_out : (setting : Setting) (refused : OnRefused) (code glyph : ℕ) (cause : Refusal)
    → (refused ≡ Stop → ⊥) → (cause ≡ OutOfMemory → ⊥) → ((halt : Halt) → cause ≡ Halted halt → ⊥)
    → Fails cause (glyph_sketch_of setting code glyph)
    → glyph_fate_of setting refused code glyph ≡ Ok (left_out_for code cause)
fate_left_out setting refused code glyph cause s m n f =
    fate_by_cause setting refused code glyph cause (named cause _ m f) ∙ other_cause refused code _ cause s n

-- its sketch can be drawn
pub can_be_made : (setting : Setting) (refused : OnRefused) (code glyph : ℕ) (f : Fate)
    → glyph_fate_of setting refused code glyph ≡ Ok f → code ≤ max_code → CanBeMade f
can_be_made setting refused code glyph (Drawn s) h low =
    drawable setting code glyph s (has_sketch setting refused code glyph (Drawn s) h) low
can_be_made setting refused code glyph (Unhinted notice s) h low =
    drawable (machineless setting) code glyph s (has_sketch setting refused code glyph (Unhinted notice s) h) low
can_be_made setting refused code glyph (LeftOut notice) h low = tt

-- ---- a step of the first pass

pub seen_fate : {due : Result Fate Refusal} (old new : Seen) (before after : KeptBytes)
    (r : Result (Unit {0}) Refusal) (fate : Fate) → due ≡ Ok fate → OnOk r (HasFate fate old new before after)
    → IfErr r (λ e. e ≡ OutOfMemory) → SeesOne due old new before after r
seen_fate old new before after (Ok u) fate e h m = (fate, e, h)
seen_fate {due} old new before after (Err d) fate e h m = memory_fails d due m

-- A trace that was written tells what is due, with its fault as a refusal: `refused_tells`.
-- It serves `trace_of`.
use Rattle.std.proofs.Common.{◌≡◌, ℕ, Bool, false, List, length, take, Option, Result, Ok, Err, refl, sym, ap, subst, arith}
use Rattle.std.specs.Io.KnownBytes.{Appends}
use Rattle.std.proofs.KnownBytes.{Appends-nil}
use Rattle.std.proofs.lemmas.List.{take_all}
use Rattle.fx_sfnt.specs.declared.fault.FontFault.{FontFault}
use Rattle.fx_sfnt.specs.declared.fault.FontFault.TheVariants as font
use Rattle.fx_glyf.specs.declared.fault.GlyphFault.{GlyphFault}
use Rattle.fx_glyf.specs.declared.fault.GlyphFault.TheVariants as glyf
use Rattle.fx_hint.specs.declared.fault.HintFault.{HintFault}
use Rattle.fx_hint.specs.declared.fault.HintFault.TheVariants as hint
use Rattle.fx_trace.specs.declared.fault.TraceFault.{TraceFault}
use Rattle.fx_trace.specs.declared.fault.TraceFault.TheVariants as trace
use Rattle.fx_trace.specs.Traces.{Trace, Traces}
use Rattle.fx_request.specs.declared.refusal.Refusal.{Refusal}
use Rattle.fx_machine.specs.Known.{Known}
use Rattle.fx_machine.specs.declared.program.FontProgram.{FontProgram}
use Rattle.fx_request.specs.declared.refusal.Refusal.TheVariants.{WriteFailed, ReadFailed, BadHex, InputTooLarge, OutOfMemory}
use Rattle.fx_request.specs.declared.request.TraceSubject.TheVariants.{Program}
use Rattle.fx_request.specs.Faults.{of_font, of_glyph}
use Rattle.fx_strike.specs.declared.opened.Opened.{Opened}
use Rattle.fx_strike.specs.Faults.{Fails, of_hint}
use Rattle.fx_strike.specs.Headline.{IsCause, Change}
use Rattle.fx_views.specs.Traces.{untold, told_by, told_from, told_in, end_with, TellsTrace, refused_as}

-- ---- no fault of programs is one of the writer

not_font : (f : FontFault) (n : ℕ) → of_font f ≡ WriteFailed n → ⊥
not_font font.NotTrueType n e = absurd cc
not_font _ n e = absurd cc

not_glyph : (f : GlyphFault) (n : ℕ) → of_glyph f ≡ WriteFailed n → ⊥
not_glyph (glyf.GlyphShort g) n e = absurd cc
not_glyph (glyf.BadContours g) n e = absurd cc

not_writer : (f : HintFault) (n : ℕ) → of_hint f ≡ WriteFailed n → ⊥
not_writer (hint.Font f) n e = not_font f n e
not_writer (hint.Glyph f) n e = not_glyph f n e
not_writer _ n e = absurd cc

same_refusal : {a b : Refusal} → ◌≡◌ {A = Result Bool Refusal} (Err a) (Err b) → a ≡ b
same_refusal e = cc

same_count : {m n : ℕ} → WriteFailed m ≡ WriteFailed n → m ≡ n
same_count e = cc

-- ---- what was written

whole_text : (old new : Option (List ℕ)) (text : List ℕ) → Appends old new text → Appends old new (take (length text) text)
whole_text old new text h =
    let P : List ℕ → Type 0 = λ t. Appends old new t in subst P (sym (take_all (length text) text (omega arith))) h

pub refused_tells : (t : Trace) (change : Change) (r : Result (Unit {0}) TraceFault) → Traces t change r
    → TellsTrace (told_by t) change (refused_as r)
refused_tells t change (Ok u) h = grind (arith, h)
refused_tells t change (Err (trace.Cause f)) h = record {
  text = tt;
  cause = λ named. record { is = ap end_with h.end; written = h.written; quiet = h.quiet };
  memory = λ e. record {
    count = length t.text;
    written = whole_text change.bytes_before change.bytes t.text h.written;
    quiet =
        h.quiet;
  };
  writer = λ n e. absurd (not_writer f n (same_refusal e));
}
refused_tells t change (Err trace.OutOfMemory) h = grind (arith, h)
refused_tells t change (Err (trace.WriteFailed n)) h = grind (arith, h, same_count, same_refusal)

-- what is told of a program is told of the same one by another name
pub told_as : (opened : Opened) (what same : FontProgram) (change : Change) (end : Result Bool Refusal) → what ≡ same
    → TellsTrace (told_in opened (Program same)) change end → TellsTrace (told_in opened (Program what)) change end
told_as opened what same change end e h = let P : FontProgram → Type 0 = λ p. TellsTrace (told_in opened (Program p)) change end in
    subst P (sym e) h

-- ---- nothing was traced

-- the writer stays as it is
abbrev unchanged : Option (List ℕ) → ℕ → Change
unchanged bytes faults = record { bytes_before = bytes; bytes = bytes; faults_before = faults; faults = faults }

pub untold_false : (bytes : Option (List ℕ)) (faults : ℕ) → TellsTrace (untold (Ok false)) (unchanged bytes faults) (Ok false)
untold_false bytes faults = record {
  text = record { is = refl; written = Appends-nil bytes; quiet = refl };
  cause = tt;
  memory = λ e. absurd cc;
  writer = λ n e. absurd cc;
}

pub untold_refusal : (bytes : Option (List ℕ)) (faults : ℕ) (refusal : Refusal) → IsCause refusal
    → TellsTrace (untold (Err refusal)) (unchanged bytes faults) (Err refusal)
untold_refusal bytes faults refusal c = record {
  text = tt;
  cause = λ named. record { is = refl; written = Appends-nil bytes; quiet = refl };
  memory = λ e. record { count = 0; written = Appends-nil bytes; quiet = refl };
  writer = λ n e. absurd (let P : Refusal → Type 0 = λ r. IsCause r in subst P (same_refusal e) c);
}

-- `fpgm` or `prep` halted, or memory ran out: no line was written
pub untold_fails : (opened : Opened) (glyph : Option ℕ) (due : Result Known Refusal) (bytes : Option (List ℕ)) (faults : ℕ)
    (refusal : Refusal) → Fails refusal due → TellsTrace (told_from opened glyph due) (unchanged bytes faults) (Err refusal)
untold_fails opened glyph due bytes faults OutOfMemory f = record {
  text = tt;
  cause = λ named. absurd named;
  memory = λ e. record { count = 0; written = Appends-nil bytes; quiet = refl };
  writer = λ n e. absurd cc;
}
untold_fails opened glyph due bytes faults (WriteFailed n) f = absurd f
untold_fails opened glyph due bytes faults ReadFailed f = absurd f
untold_fails opened glyph due bytes faults BadHex f = absurd f
untold_fails opened glyph due bytes faults InputTooLarge f = absurd f
untold_fails opened glyph due bytes faults refusal f = rw f (untold_refusal bytes faults refusal tt)

-- What a front learns of how a run ended.
use Rattle.std.specs.Prelude.{◌≡◌, ℕ, Bool, false, true, Option, Some, None, Result, Ok, Err, List, option_map}
use Rattle.fx_machine.specs.declared.program.FontProgram.{FontProgram}
use Rattle.fx_machine.specs.declared.program.FontProgram.TheVariants.{Glyph}
use Rattle.fx_request.specs.Advice.{advice_of}
use Rattle.fx_request.specs.Refusals.{location_of, number_of}
use Rattle.fx_request.specs.declared.location.Location.{Location}
use Rattle.fx_request.specs.declared.location.Location.TheVariants as location
use Rattle.fx_request.specs.declared.refusal.Refusal.{Refusal}
use Rattle.fx_arguments.specs.declared.done.Done.{Done}
use Rattle.fx_arguments.specs.declared.done.Done.TheVariants as done
use Rattle.fx_arguments.specs.declared.fault.Fault.{Fault}
use Rattle.fx_arguments.specs.declared.fault.Fault.TheVariants.{Early, Late}
use Rattle.fx_front.specs.declared.facts.Counts.{Counts}
use Rattle.fx_front.specs.declared.facts.Facts.{Facts}
use Rattle.fx_front.specs.declared.facts.RefusalFacts.{RefusalFacts}

-- the counts of a strike that was made
abbrev pub counts_of : Result Done Fault → Option Counts
counts_of (Ok (done.Strike report)) = Some (record { glyphs = report.glyphs; missing = report.missing })
counts_of _ = None

-- a refusal: its number, what to do, the glyph that is refused, and whether a program halted, or that of a glyph
pub record RefusalView : Type 0 where
  pub number : ℕ
  pub advice : List ℕ
  pub glyph : Option ℕ
  pub is_halted : Bool
  pub is_halted_glyph : Bool

abbrev pub seen_refused : RefusalFacts → RefusalView
seen_refused facts = record {
  number = facts.number;
  advice = facts.advice.now;
  glyph = facts.glyph;
  is_halted = facts.is_halted;
  is_halted_glyph = facts.is_halted_glyph;
}

abbrev pub glyph_at : Location → Option ℕ
glyph_at (location.Glyph g) = Some g
glyph_at _ = None

abbrev pub is_halt : Location → Bool
is_halt (location.Halt halt) = true
is_halt _ = false

abbrev pub is_glyph : FontProgram → Bool
is_glyph (Glyph g) = true
is_glyph _ = false

abbrev pub is_glyph_halt : Location → Bool
is_glyph_halt (location.Halt halt) = is_glyph halt.during
is_glyph_halt _ = false

abbrev pub facts_of : Refusal → RefusalView
facts_of refusal = record {
  number = number_of refusal;
  advice = advice_of refusal;
  glyph = glyph_at (location_of refusal);
  is_halted = is_halt (location_of refusal);
  is_halted_glyph = is_glyph_halt (location_of refusal);
}

-- the refusal that a run ended with
abbrev pub refused_of : Result Done Fault → Option RefusalView
refused_of (Err (Early refusal)) = Some (facts_of refusal)
refused_of (Err (Late refusal)) = Some (facts_of refusal)
refused_of _ = None

-- what a front learns of how a run ended is true
pub record Knows (outcome : Result Done Fault) (facts : Facts) : Type 0 where
  pub strike : facts.strike ≡ counts_of outcome
  pub refused : option_map seen_refused facts.refused ≡ refused_of outcome

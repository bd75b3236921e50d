-- What became of characters so far, in memory.
use Rattle.std.specs.Prelude.{◌≡◌, ℕ, ◌+◌, ◌*◌, ◌^◌, ◌≤◌, Bool, true, false, if◌then◌else◌, List, length, take, unwrap_or}
use Rattle.std.specs.Prelude.{Result, Ok, Err}
use Rattle.fx_request.specs.declared.refusal.Refusal.{Refusal}
use Rattle.fx_request.specs.declared.refusal.Refusal.TheVariants.{OutOfMemory}
use Rattle.fx_request.specs.declared.request.OnRefused.TheVariants.{Stop}
use Rattle.fx_strike.specs.Strike.{Setting, bounded_for}
use Rattle.mkstrike_c.specs.declared.gathered.Drawn.{Drawn}
use Rattle.mkstrike_c.specs.declared.gathered.Placed.{Placed}
use Rattle.mkstrike_c.specs.declared.gathered.Wanted.{Wanted}
use Rattle.mkstrike_c.specs.declared.gathered.GlyphBuffers.{GlyphBuffers}
use Rattle.mkstrike_c.specs.declared.refused.Refused.{Refused}
use Rattle.mkstrike_c.specs.Drawn.{AreOutcomesOf, HasFront, Outcome, all_pixels, drawn_of, entries_from, first_refused, is_made}
use Rattle.mkstrike_c.specs.Drawn.{is_missing, is_refused, pixels_of}

-- how many characters were counted
abbrev pub counted_in : Drawn → ℕ
counted_in drawn = drawn.glyphs + drawn.missing + drawn.refused

-- n characters were counted, and their pixels take no more bytes than those of n glyphs of the greatest size
pub record AreCounted (drawn : Drawn) (n : ℕ) : Type 0 where
  pub each : counted_in drawn ≡ n
  pub bytes : drawn.bytes ≤ n * 2 ^ 26

-- memory was refused to a character
abbrev pub is_memory : Outcome → Bool
is_memory (Err OutOfMemory) = true
is_memory _ = false

-- what is told of one character more
abbrev pub with_one : Bool → Drawn → Outcome → Drawn
with_one packed drawn outcome = record {
  bytes = drawn.bytes + length (pixels_of packed outcome);
  glyphs = drawn.glyphs + (if is_made outcome then 1 else 0);
  missing = drawn.missing + (if is_missing outcome then 1 else 0);
  refused = drawn.refused + (if is_refused outcome then 1 else 0);
}

-- of these characters there are as many entries and pixels as there is room for, the counts of all, and the first that was refused
pub record Holds (wanted : Wanted) (codes : List ℕ) (outcomes : List Outcome) (g : GlyphBuffers) : Type 0 where
  pub wanted_is : g.wanted ≡ wanted
  pub entries : g.entries.items ≡ take wanted.entries (entries_from wanted.packed 0 outcomes)
  pub pixels : g.pixels.items ≡ take wanted.pixels (all_pixels wanted.packed outcomes)
  pub drawn : g.drawn ≡ drawn_of wanted.packed outcomes
  pub first : g.first ≡ first_refused 0 codes outcomes

-- the characters of a setting were made
pub record AreGathered (setting : Setting) (codes : List ℕ) (wanted : Wanted) (g : GlyphBuffers) : Type 0 where
  pub outcomes : List Outcome
  pub are : AreOutcomesOf setting codes outcomes
  pub holds : Holds wanted codes outcomes g

-- the setting is due, and they were made in it as those of one call
pub record IsGathered (wanted : Wanted) (due : Result Setting Refusal) (codes : List ℕ) (g : GlyphBuffers) : Type 0 where
  pub setting : Setting
  pub is : due ≡ Ok setting
  pub are : AreGathered (bounded_for setting Stop codes) codes wanted g

-- what was gathered was copied and told
pub record AreTold (g : GlyphBuffers) (old_entries new_entries : List Placed) (old new : List ℕ) (drawn : Drawn)
    (old_refused new_refused : Refused) (result : ℕ) : Type 0
  where
    pub done : result ≡ 0
    pub entries : HasFront g.entries.items old_entries new_entries
    pub pixels : HasFront g.pixels.items old new
    pub drawn_is : drawn ≡ g.drawn
    pub refused_is : new_refused ≡ unwrap_or g.first old_refused

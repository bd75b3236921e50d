-- The lines of the first characters, which the first pass keeps.
use Rattle.std.specs.Prelude.{◌≡◌, ℕ, ◌+◌, ◌*◌, ◌<◌, ◌≤◌, List, [], ◌++◌, length, take}
use Rattle.fx_bdf.specs.Properties.{AreLines, seen_properties}
use Rattle.fx_bdf.specs.Text.{IsName, longest_glyph}
use Rattle.fx_strike.specs.declared.characters.Mapped.{Mapped}
pub use Rattle.fx_strike.specs.declared.kept_text.KeptBytes.{KeptBytes}
pub use Rattle.fx_strike.specs.declared.kept_text.KeptText.{KeptText}
use Rattle.fx_strike.specs.Strike.{Setting, OnRefused}
use Rattle.fx_strike.specs.inner.Writing.{AreLinesOf, AreMapped, Draft}

-- lines were kept after the others; or nothing more is kept, and none of them
pub record Keeps (lines : List ℕ) (old new : KeptBytes) : Type 0 where
  pub all : new.faults ≡ 0 → (old.faults ≡ 0) × (new.bytes.items ≡ old.bytes.items ++ lines) × (length lines ≤ longest_glyph)
  pub none : 0 < new.faults → new.bytes.items ≡ old.bytes.items

-- one character more is counted, unless nothing more is kept
pub record Counts (old new : KeptText) : Type 0 where
  pub bytes : new.bytes ≡ old.bytes
  pub one : old.bytes.faults ≡ 0 → new.count ≡ old.count + 1
  pub none : 0 < old.bytes.faults → new.count ≡ old.count

-- no lines, of no character
pub record IsOfNone (kept : KeptText) : Type 0 where
  pub bytes : kept.bytes.bytes.items ≡ []
  pub count : kept.count ≡ 0

-- of characters that were seen the lines of the first ones are kept; of all, if more can be kept
pub record IsKept (setting : Setting) (refused : OnRefused) (mapped : List Mapped) (kept : KeptText) : Type 0 where
  pub few : kept.count ≤ length mapped
  pub all : kept.bytes.faults ≡ 0 → kept.count ≡ length mapped
  pub short : length kept.bytes.bytes.items ≤ kept.count * longest_glyph
  pub lines : AreLinesOf setting refused (take kept.count mapped) kept.bytes.bytes.items

-- a strike that was surveyed can be written
pub record IsReady (setting : Setting) (draft : Draft) (kept : KeptText) : Type 0 where
  pub name : IsName draft.name.now
  pub properties : AreLines (seen_properties draft.properties.now)
  pub within : AreMapped draft.mapped.now
  pub lines : IsKept setting draft.refused draft.mapped.now kept

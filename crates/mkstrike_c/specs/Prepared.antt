-- Blocks as C has them: a font that was opened at a size, as words of 32 bits, by which calls draw and don't run `fpgm` and `prep`.
-- The first six words say what a block is for. Hinted, those of the machine follow.
use Rattle.std.specs.Prelude.{◌≡◌, ◌⊎◌, ℕ, ◌/◌, ◌%◌, ◌^◌, Bool, true, false, List, [], ◌∷◌, ◌++◌, length, Option, Result, Ok}
use Rattle.fx_sfnt.specs.Collections.{FontFileView, face_in}
use Rattle.fx_machine.specs.Known.{Known}
use Rattle.fx_machine.specs.Words.{bit_of}
use Rattle.fx_machine.specs.Blocks.{checksum_of}
use Rattle.fx_request.specs.declared.refusal.Refusal.{Refusal}
use Rattle.fx_request.specs.declared.request.Mode.{Mode}
use Rattle.fx_strike.specs.declared.opened.Opened.{Opened}
use Rattle.fx_strike.specs.Strike.{Opening, Setting, machine_for, opened_at}
use Rattle.fx_strike.specs.Blocks.{IsBlockFor, has_block}
use Rattle.mkstrike_c.specs.declared.font_at.PreparedFont.{PreparedFont}
use Rattle.mkstrike_c.specs.declared.refused.Refused.{Refused}
use Rattle.mkstrike_c.specs.Drawn.{HasFront}
use Rattle.mkstrike_c.specs.Modes.{mode_of}
use Rattle.fx_request.specs.Refusals.{number_of}
use Rattle.mkstrike_c.specs.Refused.{IsRefused, bad_block, bad_mode, no_fields, refused_of}

-- "mkC", and the version of this form
abbrev pub block_form : ℕ
block_form = 0x6D6B4301

-- what a block is for: its form; the face, the size, whether the font's programs run; and the length of the file
abbrev pub origin_words : List ℕ → ℕ → ℕ → Bool → List ℕ
origin_words file face ppem hinting =
    block_form ∷ face ∷ ppem ∷ bit_of hinting ∷ length file / 2 ^ 32 ∷ length file % 2 ^ 32 ∷ []

-- words begin as a block for this
abbrev pub BeginsFor : List ℕ → ℕ → ℕ → Bool → List ℕ → Type 0
BeginsFor file face ppem hinting block = (words : List ℕ) × (block ≡ origin_words file face ppem hinting ++ words)

-- the font opens at the size in a mode, and words are a block of its machine; any words are, if its programs don't run
pub record AreWordsOf (file : FontFileView) (ppem : ℕ) (mode : Mode) (words : List ℕ) : Type 0 where
  pub opened : Opened
  pub machine : Option Known
  pub opens : opened_at file ppem ≡ Ok opened
  pub runs : machine_for opened.font opened.ppem mode.hinting mode.careful ≡ Ok machine
  pub of_machine : IsBlockFor machine words

-- a block of a font at a size in a mode
pub record IsBlock (file : List ℕ) (face ppem : ℕ) (mode : Mode) (block : List ℕ) : Type 0 where
  pub words : List ℕ
  pub are : AreWordsOf (face_in file face) ppem mode words
  pub is : block ≡ origin_words file face ppem mode.hinting ++ words

-- a block was made; as many of its words as fit stand at the front of the caller's buffer, and what lies after them is as it was
pub record IsPrepared (file : List ℕ) (face ppem : ℕ) (mode : Mode) (old new : List ℕ) (need : ℕ) : Type 0 where
  pub block : List ℕ
  pub is : IsBlock file face ppem mode block
  pub front : HasFront block old new
  pub need_is : need ≡ length block

-- a font that opens has no block: it has 1 GiB (fx_machine, has_words)
pub record HasNone (due : Result Setting Refusal) : Type 0 where
  pub setting : Setting
  pub is : due ≡ Ok setting
  pub none : has_block setting.machine ≡ false

-- why no block was made, and the number and the fields of that
abbrev pub IsUnprepared : Bool → Opening → Result Setting Refusal → ℕ → Refused → Type 0
IsUnprepared is_known opening due number refused = IsRefused is_known opening due number refused
    ⊎ (HasNone due × (number ≡ bad_block) × (refused ≡ no_fields bad_block))

-- words that are no block for this were refused: as such, or before that for the mode
abbrev pub IsNoBlock : Bool → ℕ → Refused → Type 0
IsNoBlock false number refused = (number ≡ bad_mode) × (refused ≡ no_fields bad_mode)
IsNoBlock true number refused = (number ≡ bad_block) × (refused ≡ no_fields bad_block)

-- a call was refused, whatever its words are: as by words that are no block; or with a mode that is one by a refusal
abbrev pub IsRefusedBy : Bool → ℕ → Refused → Type 0
IsRefusedBy false number refused = IsNoBlock false number refused
IsRefusedBy true number refused =
    IsNoBlock true number refused ⊎ ((refusal : Refusal) × (number ≡ number_of refusal) × (refused ≡ refused_of refusal))

-- a block is for a file of this length, for this face and size, and hinted or unhinted like this
abbrev pub IsFor : List ℕ → ℕ → ℕ → Bool → List ℕ → Type 0
IsFor file face ppem hinting block = (f : List ℕ) (i s : ℕ) (m : Mode) → IsBlock f i s m block
    → (length f ≡ length file) × (i ≡ face) × (s ≡ ppem) × (m.hinting ≡ hinting)

-- hinted, words are those of no font with another checksum in `head`
abbrev pub AreOwn : FontFileView → ℕ → Bool → List ℕ → Type 0
AreOwn file ppem hinting words = (f : FontFileView) (s : ℕ) (m : Mode) (o p : Opened) → AreWordsOf f s m words
    → m.hinting ≡ true → hinting ≡ true → opened_at f s ≡ Ok o → opened_at file ppem ≡ Ok p
    → checksum_of o.font ≡ checksum_of p.font

-- so is a block
abbrev pub HasChecksum : List ℕ → ℕ → ℕ → Bool → List ℕ → Type 0
HasChecksum file face ppem hinting block = (f : List ℕ) (i s : ℕ) (m : Mode) (o p : Opened) → IsBlock f i s m block
    → m.hinting ≡ true → hinting ≡ true → opened_at (face_in f i) s ≡ Ok o → opened_at (face_in file face) ppem ≡ Ok p
    → checksum_of o.font ≡ checksum_of p.font

-- a block that is taken is for this, and is of no font with another checksum
abbrev pub IsOwn : List ℕ → ℕ → ℕ → Bool → List ℕ → Type 0
IsOwn file face ppem hinting block = IsFor file face ppem hinting block × HasChecksum file face ppem hinting block

-- of what C hands over with a block: words that begin as one of its font at its size
abbrev pub HasItsOrigin : PreparedFont → Type 0
HasItsOrigin by = BeginsFor by.at.font.now by.at.face by.at.ppem (mode_of by.at.mode).hinting by.block.now

-- a block of that. A careful mode opens no font whose `fpgm` and `prep` do too much work, so there is none of it
abbrev pub HasItsBlock : PreparedFont → Type 0
HasItsBlock by = IsBlock by.at.font.now by.at.face by.at.ppem (mode_of by.at.mode) by.block.now

-- a block that is taken for that
abbrev pub IsItsOwn : PreparedFont → Type 0
IsItsOwn by = IsOwn by.at.font.now by.at.face by.at.ppem (mode_of by.at.mode).hinting by.block.now

-- Blocks of opened fonts.
use Rattle.std.specs.Prelude.{◌≡◌, List, ℕ, Bool, true, Option, Some, None}
use Rattle.fx_sfnt.specs.Tables.{Face}
use Rattle.fx_machine.specs.Blocks.{IsBlockOf, checksum_of, has_words}
use Rattle.fx_strike.specs.Strike.{Setting, Known, Opened}

-- words are a block of what a machine knows; any words are one with hinting off
abbrev pub IsBlockFor : Option Known → List ℕ → Type 0
IsBlockFor None block = Unit {0}
IsBlockFor (Some known) block = IsBlockOf known block

-- and of a setting
abbrev pub IsBlockIn : Setting → List ℕ → Type 0
IsBlockIn setting block = IsBlockFor setting.machine block

-- there is a block
abbrev pub has_block : Option Known → Bool
has_block None = true
has_block (Some known) = has_words known.prepared

-- what is known is of this size, and of a font with this checksum
abbrev pub IsOwn : Known → Face → ℕ → Type 0
IsOwn known face ppem = (known.ppem ≡ ppem) × (checksum_of known.face ≡ checksum_of face)

-- the size, the font and its character map of a setting
abbrev pub opened_in : Setting → Opened
opened_in setting = record { ppem = setting.ppem; font = setting.font; map = setting.map }

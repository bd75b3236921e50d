-- A machine that is given, or none: what an outline is made by, and what becomes of the machine.
use Rattle.std.proofs.Common.{inl, inr}
use Rattle.std.specs.Prelude.{◌≡◌, ℕ, ◌⊎◌, Option, Some, None}
use Rattle.std.specs.Borrow.{MutBor}
use Rattle.fx_sfnt.specs.Tables.{Face}
use Rattle.fx_machine.specs.Known.{Known, MachineView}
use Rattle.fx_hint.specs.Hinting.{Hinting, no_hinting}
use Rattle.fx_hint.specs.Programmed.{hinting_of}

-- hinting by the machine, or off
abbrev pub hinting_with : Option (MutBor MachineView) → Hinting
hinting_with None = no_hinting
hinting_with (Some machine) = hinting_of machine.now.known

-- what holds of what the machine knows, if there is one
abbrev pub IfMachine : (Known → Type 0) → Option (MutBor MachineView) → Type 0
IfMachine P None = Unit {0}
IfMachine P (Some machine) = P machine.now.known

-- a machine of this font and size
abbrev pub IsOf : Face → ℕ → Known → Type 0
IsOf face ppem known = (known.face ≡ face) × (known.ppem ≡ ppem)

-- the machine, as it is passed and as it is left, knows the same; what is left of an option by value is a sum with an alternative
-- for each variant, None before Some, and in it what the variant's references point to
abbrev pub KnowsSame : Option (MutBor MachineView) → Unit {0} ⊎ ((MutBor MachineView × Unit {0}) ⊎ ⊥) → Type 0
KnowsSame None _ = Unit {0}
KnowsSame (Some machine) (inr (inl left)) = left.0.now.known ≡ machine.now.known
KnowsSame (Some machine) _ = ⊥

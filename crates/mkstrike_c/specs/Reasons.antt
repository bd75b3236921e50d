-- The names of what calls return, and what to do after each (docs/REFUSALS.md).
use Rattle.std.specs.Prelude.{◌≡◌, ◌==◌, ◌+◌, ◌-◌, ◌<◌, ℕ, List, [], ◌∷◌, ◌++◌, codes, length, min, take, drop, unwrap_or}
use Rattle.std.specs.Prelude.{if◌then◌else◌}
use Rattle.fx_request.specs.Advice.{advice_of as advice_of_refusal, advised}
use Rattle.fx_request.specs.declared.refusal.Refusal.{Refusal}
use Rattle.fx_request.specs.Refusals.{number_of, name_of, named}
use Rattle.mkstrike_c.specs.Refused.{bad_block, bad_mode}

-- the name of a number: that of the refusals that have it
unfoldable pub reason_of : ℕ → List ℕ
reason_of number =
    if number == 0 then codes "Done"
    else (if number == 1 then codes "Missing"
    else (if number == bad_mode then codes "BadMode"
    else (if number == bad_block then codes "BadBlock" else unwrap_or (named number) (codes "Unknown"))))

-- what to do after a number; nothing if no refusal has it
unfoldable pub advice_of : ℕ → List ℕ
advice_of number =
    if number == bad_mode then codes "give a sum of the modes of mkstrike.h"
    else (if number == bad_block then codes "make the block by mkstrike_prepare for this font, face, size and mode"
    else unwrap_or (advised number) [])

-- the law: that of a refusal's number is the refusal's name
abbrev pub ReasonsAreNames : Type 0
ReasonsAreNames = (refusal : Refusal) → reason_of (number_of refusal) ≡ name_of refusal

-- the law: what to do after a refusal's number is what to do after the refusal
abbrev pub AdviceIsOfRefusals : Type 0
AdviceIsOfRefusals = (refusal : Refusal) → advice_of (number_of refusal) ≡ advice_of_refusal refusal

-- the law: no refusal has a number that only C has, nor that of a call that is done or finds nothing
abbrev pub NumbersAreApart : Type 0
NumbersAreApart = (refusal : Refusal) → (1 < number_of refusal) × (number_of refusal ≡ bad_mode → ⊥)
    × (number_of refusal ≡ bad_block → ⊥)

-- as much of a text as fits before a 0, and the 0, stand at the front of the caller's buffer, and what lies after them is as it
-- was; nothing is written to a buffer without a byte
pub record IsPut (text old new : List ℕ) : Type 0 where
  pub front : 0 < length old → take (min (length text) (length old - 1) + 1) new ≡ take (length old - 1) text ++ 0 ∷ []
  pub rest : drop (min (length text) (length old - 1) + 1) new ≡ drop (min (length text) (length old - 1) + 1) old
  pub none : length old ≡ 0 → new ≡ old

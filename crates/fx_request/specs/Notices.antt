-- Who is told of refused characters.
use Rattle.std.specs.Prelude.{◌≡◌, ℕ, List, [], ◌∷◌, take, Result, Err}
use Rattle.fx_request.specs.declared.notice.Notice.{Notice}
use Rattle.fx_request.specs.declared.refusal.Refusal.{Refusal}
use Rattle.fx_request.specs.declared.refusal.Refusal.TheVariants.{OutOfMemory}

-- what becomes of a listener that hears these notices in turn
abbrev pub HearsAll : {L : Type 0} → (L → Notice → L → Type 0) → L → List Notice → L → Type 0
HearsAll Hears was [] now = now ≡ was
HearsAll {L} Hears was (n ∷ ns) now = (next : L) × Hears was n next × HearsAll Hears next ns now

-- of all that there is to tell, what a call told: if memory ran out a first part of it, else all
abbrev pub AreTold : {Y : Type 0} → List Notice → List Notice → Result Y Refusal → Type 0
AreTold all told (Err OutOfMemory) = (k : ℕ) × (told ≡ take k all)
AreTold all told _ = told ≡ all

-- a listener before and after a call that had all this to tell
pub record Told {L Y : Type 0} (Hears : L → Notice → L → Type 0) (was now : L) (all : List Notice) (result : Result Y Refusal)
    : Type 0 where
  pub told : List Notice
  pub heard : HearsAll Hears was told now
  pub are : AreTold all told result

-- How characters that take too much work are found, and refused for one call.
use Rattle.std.specs.Prelude.{◌≡◌, ℕ, ◌<◌, List, length, Result, Ok, Err}
use Rattle.fx_strike.specs.Strike.{Setting, Mapped}
use Rattle.fx_strike.specs.inner.Mapping.{mapped_in}

-- characters in rising order
abbrev pub AreRising : List Mapped → Type 0
AreRising mapped =
    (i j : ℕ) → i < j → j < length mapped → (mapped_in mapped i).code < (mapped_in mapped j).code

-- the setting becomes another one, and the code points that were refused before are returned; or nothing changes
abbrev pub Bounds : {E : Type 0} → Setting → Setting → Setting → Result (List ℕ) E → Type 0
Bounds old due new (Ok before) = (new ≡ due) × (before ≡ old.over)
Bounds old due new (Err e) = new ≡ old

-- The glyph of a character whose code point is within the limit is that of the choice: `character_is`.
-- Serves `drawn`.
use Rattle.std.proofs.Common.{◌≡◌, refl, ℕ, [], ◌∷◌, Ok}
use Rattle.fx_strike.specs.Headline.{character_with}
use Rattle.fx_strike.specs.Strike.{Setting, checked_chars, one_with}

pub character_is : (setting : Setting) (code : ℕ) → Ok tt ≡ checked_chars (code ∷ [])
    → character_with setting code ≡ one_with setting code
unfolding character_with
character_is setting code h = rw (← h) refl

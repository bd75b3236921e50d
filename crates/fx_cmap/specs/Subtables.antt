-- What the subtables of formats 4 and 12 have in common: ranges of character codes, each with a last code, in rising order.
-- OpenType, "cmap".
use Rattle.std.specs.Prelude.{ℕ, List, [], ◌∷◌, Bool, false, ◌||◌, nat_lt}

-- some code is below the one before it; the first one, below a number
abbrev pub falls : ℕ → List ℕ → Bool
falls before [] = false
falls before (code ∷ more) = nat_lt code before || falls code more

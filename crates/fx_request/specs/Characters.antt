-- The characters of a request.
use Rattle.std.specs.Prelude.{◌≡◌, ◌↔◌, ℕ, nat_lt, ◌==◌, if◌then◌else◌, List, [], ◌∷◌, Contains}
use Rattle.std.specs.List.Sorted.{IsStrictlyIncreasing}

-- a code point put in its position among rising ones, unless it is among them
abbrev pub with_code : ℕ → List ℕ → List ℕ
with_code c [] = c ∷ []
with_code c (d ∷ ds) = if nat_lt c d then c ∷ d ∷ ds else (if c == d then d ∷ ds else d ∷ with_code c ds)

-- the code points of a request in rising order, each once
unfoldable pub rising : List ℕ → List ℕ
rising [] = []
rising (c ∷ cs) = with_code c (rising cs)

-- the law: they rise, and are those of the request
pub record AreRisen (chars codes : List ℕ) : Type 0 where
  pub rise : IsStrictlyIncreasing codes
  pub same : (c : ℕ) → Contains codes c ↔ Contains chars c

abbrev pub RisingAreRisen : Type 0
RisingAreRisen = (chars : List ℕ) → AreRisen chars (rising chars)

-- and no other list is so
abbrev pub RisenIsOne : Type 0
RisenIsOne = (chars codes others : List ℕ) → AreRisen chars codes → AreRisen chars others → codes ≡ others

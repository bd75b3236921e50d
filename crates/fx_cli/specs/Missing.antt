-- The characters that a font lacks, as a front names them.
use Rattle.std.specs.Prelude.{◌≡◌, ◌==◌, ◌+◌, ◌-◌, ◌&&◌, ℕ, Bool, true, false, not, nat_lt, List, [], ◌∷◌, ◌++◌, filter, length, map, take, Option, None, Some}
use Rattle.std.specs.Prelude.{if◌then◌else◌}
use Rattle.std.specs.Char.{to_ascii_lowercase}
use Rattle.std.specs.List.{flat_map}
use Rattle.fx_fixed.specs.Lines.{hexadecimal}
use Rattle.fx_cmap.specs.Lookup.{glyph_for}
use Rattle.fx_cmap.specs.declared.mapping.Mapping.{Mapping}
use Rattle.fx_front.specs.Lines.{Says, shown_text}
use Rattle.fx_cli.specs.declared.missing.Missing.{Missing}

-- the characters of a list that a map lacks
abbrev pub lacking : Mapping → List ℕ → List ℕ
lacking map codes = filter (λ code. glyph_for map code == 0) codes

-- numbers as ranges, each of which grows by the number after it
abbrev pub ranges_after : ℕ → ℕ → List ℕ → List (ℕ × ℕ)
ranges_after first last [] = (first, last) ∷ []
ranges_after first last (code ∷ codes) =
    if code == last + 1 then ranges_after first code codes else (first, last) ∷ ranges_after code code codes

abbrev pub ranges_of : List ℕ → List (ℕ × ℕ)
ranges_of [] = []
ranges_of (code ∷ codes) = ranges_after code code codes

-- how many ranges are named, if not all are
abbrev pub few : ℕ
few = 8

-- the ranges that are named, and whether there are more
abbrev pub named : Bool → List (ℕ × ℕ) → List (ℕ × ℕ)
named names_all ranges = if names_all then ranges else take few ranges

abbrev pub are_more : Bool → List (ℕ × ℕ) → Bool
are_more names_all ranges = not names_all && nat_lt few (length ranges)

-- a number, and a range, as `4e00` and `4e00-4e10`
abbrev pub code_said : ℕ → List ℕ
code_said code = shown_text (map to_ascii_lowercase (hexadecimal 1 code))

abbrev pub range_said : ℕ × ℕ → List ℕ
range_said range = code_said range.0 ++ (if nat_lt range.0 range.1 then 45 ∷ code_said range.1 else [])

-- ranges, with commas (44) between them
abbrev pub ranges_said : List (ℕ × ℕ) → List ℕ
ranges_said [] = []
ranges_said (range ∷ ranges) = range_said range ++ flat_map (λ more. 44 ∷ range_said more) ranges

-- these ranges were named, as far as there is memory: the text, and whether there are more
abbrev pub Names : Bool → List (ℕ × ℕ) → Option (List ℕ) → Bool → Type 0
Names names_all ranges text has_more =
    Says (Some []) text (ranges_said (named names_all ranges)) × (has_more ≡ are_more names_all ranges)

-- ---- while they are named

-- the ranges of an open range, if there is one, and of the numbers after it
abbrev pub ranges_from : Option (ℕ × ℕ) → List ℕ → List (ℕ × ℕ)
ranges_from None codes = ranges_of codes
ranges_from (Some range) codes = ranges_after range.0 range.1 codes

-- these ranges were named so far
pub record Begun (names_all : Bool) (ranges : List (ℕ × ℕ)) (missing : Missing) : Type 0 where
  pub text : Says (Some []) missing.text (ranges_said (named names_all ranges))
  pub more : missing.has_more ≡ are_more names_all ranges
  pub begun : missing.is_begun ≡ nat_lt 0 (length ranges)
  pub all : missing.names_all ≡ names_all
  pub left : names_all ≡ false → missing.left ≡ few - length ranges

-- a range was added to the text, and is not counted
pub record Puts (first last : ℕ) (old new : Missing) : Type 0 where
  pub text : Says old.text new.text ((if old.is_begun then 44 ∷ [] else []) ++ range_said (first, last))
  pub more : new.has_more ≡ old.has_more
  pub begun : new.is_begun ≡ true
  pub all : new.names_all ≡ old.names_all
  pub left : new.left ≡ old.left

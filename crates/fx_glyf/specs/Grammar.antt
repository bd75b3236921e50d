-- The grammar of a glyph's bytes (OpenType, `glyf`): what a split of them describes.
use Rattle.std.specs.Prelude.{◌≡◌, ℕ, ℤ, suc, ◌+◌, ◌-◌, ◌%◌, ◌*◌, ◌<◌, ◌≤◌, ◌⊎◌, List, [], ◌∷◌, ◌++◌, length, take, replicate, Bool}
use Rattle.std.specs.Prelude.{true, false, if◌then◌else◌}
use Rattle.std.specs.List.{flat_map}
use Rattle.byteorder.specs.Endian.{big_number}
use Rattle.fx_sfnt.specs.Fields.{field, signed_field}
use Rattle.fx_glyf.specs.Words.{has, words}
use Rattle.fx_glyf.specs.Points.{x_short_vector, y_short_vector, x_is_same_or_positive_x_short_vector}
use Rattle.fx_glyf.specs.Points.{y_is_same_or_positive_y_short_vector, repeat_flag, points_of}
use Rattle.fx_glyf.specs.Components.{component_of, component_size, is_followed, has_program}
use Rattle.fx_glyf.specs.Shapes.{SimpleView, CompositeView}
use Rattle.fx_glyf.specs.declared.point.GlyphPoint.{GlyphPoint}
use Rattle.fx_glyf.specs.declared.component.Component.{Component}
use Rattle.fx_glyf.specs.declared.glyph.Glyph.{Glyph}
use Rattle.fx_glyf.specs.declared.glyph.Glyph.TheVariants.{Empty, Simple, Composite}

-- a flag, and the number of further points with it
pub record FlagRun : Type 0 where
  pub flag : ℕ
  pub again : ℕ

-- a flag that repeats is followed by that number
abbrev pub run_bytes : FlagRun → List ℕ
run_bytes r = if has r.flag repeat_flag then r.flag ∷ r.again ∷ [] else r.flag ∷ []

abbrev pub run_flags : FlagRun → List ℕ
run_flags r = replicate (suc r.again) r.flag

-- runs for `left` points: each begins at a point that has no flag yet, and the last may go past the last point
abbrev pub AreRuns : ℕ → List FlagRun → Type 0
AreRuns left [] = left ≡ 0
AreRuns left (r ∷ rs) = (0 < left) × (has r.flag repeat_flag ≡ false → r.again ≡ 0) × AreRuns (left - suc r.again) rs

-- the bytes of a delta modulo 2 ^ 16, by whether its flag says short, and whether it says same (or, of a short one, positive)
abbrev pub SpellsBy : Bool → Bool → ℕ → List ℕ → Type 0
SpellsBy true same d bytes = (b : ℕ) × (bytes ≡ b ∷ []) × (d ≡ (if same then b else (65536 - b) % 65536))
SpellsBy false true d bytes = (bytes ≡ []) × (d ≡ 0)
SpellsBy false false d bytes = (length bytes ≡ 2) × (d ≡ big_number 2 bytes)

abbrev pub Spells : ℕ → ℕ → ℕ → ℕ → List ℕ → Type 0
Spells short same flag d bytes = SpellsBy (has flag short) (has flag same) d bytes

-- one delta for each flag
abbrev pub SpellsAll : ℕ → ℕ → List ℕ → List ℕ → List ℕ → Type 0
SpellsAll short same [] [] bytes = bytes ≡ []
SpellsAll short same (f ∷ fs) (d ∷ ds) bytes =
    (front : List ℕ) × (back : List ℕ) × (bytes ≡ front ++ back) × Spells short same f d front × SpellsAll short same fs ds back
SpellsAll short same _ _ bytes = ⊥

-- `count` points, as runs of flags, x deltas and y deltas
pub record DescribesPoints (count : ℕ) (bytes : List ℕ) (points : List GlyphPoint) : Type 0 where
  pub runs : List FlagRun
  pub flags : List ℕ
  pub dxs : List ℕ
  pub dys : List ℕ
  pub xs : List ℕ
  pub ys : List ℕ
  pub after : List ℕ
  pub split : bytes ≡ flat_map run_bytes runs ++ (xs ++ (ys ++ after))
  pub are_runs : AreRuns count runs
  pub flags_are : flags ≡ take count (flat_map run_flags runs)
  pub xs_are : SpellsAll x_short_vector x_is_same_or_positive_x_short_vector flags dxs xs
  pub ys_are : SpellsAll y_short_vector y_is_same_or_positive_y_short_vector flags dys ys
  pub points_are : points ≡ points_of flags dxs dys 0 0

-- end points do not fall, and the last one + 1 is the number of points; start is the number of the first contour's first point
abbrev pub AreEnds : ℕ → List ℕ → ℕ → Type 0
AreEnds start [] count = start ≡ count
AreEnds start (e ∷ es) count = (start ≤ e + 1) × AreEnds (e + 1) es count

-- a program after its length of two bytes
pub record SpellsProgram (code bytes : List ℕ) : Type 0 where
  pub size : List ℕ
  pub size_is : length size ≡ 2
  pub code_is : length code ≡ big_number 2 size
  pub split : bytes ≡ size ++ code

-- the ten bytes of a header: the number of contours, xMin, and three more numbers of the box
pub record IsHeader (bytes : List ℕ) (contours : ℕ) (x_min : ℤ) : Type 0 where
  pub size : length bytes ≡ 10
  pub contours_are : contours ≡ field 2 bytes 0
  pub x_min_is : x_min ≡ signed_field bytes 2

-- a simple glyph, of 1 to 32,767 contours: header, end points, program, points
pub record DescribesSimple (bytes : List ℕ) (s : SimpleView) : Type 0 where
  pub header : List ℕ
  pub contours : ℕ
  pub ends : List ℕ
  pub program : List ℕ
  pub rest : List ℕ
  pub count : ℕ
  pub split : bytes ≡ header ++ (ends ++ (program ++ rest))
  pub header_is : IsHeader header contours s.x_min
  pub some_contours : (0 < contours) × (contours < 32768)
  pub ends_size : length ends ≡ 2 * contours
  pub ends_are : s.ends ≡ words contours ends
  pub in_order : AreEnds 0 s.ends count
  pub program_is : SpellsProgram s.code program
  pub points_are : DescribesPoints count rest s.points

-- component records, one after the other
abbrev pub SpellsComponents : List Component → List ℕ → Type 0
SpellsComponents [] bytes = bytes ≡ []
SpellsComponents (p ∷ ps) bytes =
    (front : List ℕ) × (back : List ℕ) × (bytes ≡ front ++ back) × (length front ≡ component_size p.flags)
    × (p ≡ component_of front) × SpellsComponents ps back

-- exactly the components before the last say that another follows
abbrev pub AreComponents : List Component → Type 0
AreComponents [] = ⊥
AreComponents (p ∷ []) = is_followed p ≡ false
AreComponents (p ∷ q ∷ ps) = (is_followed p ≡ true) × AreComponents (q ∷ ps)

-- a program, if one is announced
abbrev pub SpellsAnnounced : Bool → List ℕ → List ℕ → Type 0
SpellsAnnounced true code bytes = SpellsProgram code bytes
SpellsAnnounced false code bytes = (code ≡ []) × (bytes ≡ [])

-- a composite glyph, whose number of contours is below 0 as a signed number: header, component records, program
pub record DescribesComposite (bytes : List ℕ) (s : CompositeView) : Type 0 where
  pub header : List ℕ
  pub contours : ℕ
  pub records : List ℕ
  pub program : List ℕ
  pub rest : List ℕ
  pub split : bytes ≡ header ++ (records ++ (program ++ rest))
  pub header_is : IsHeader header contours s.x_min
  pub below_zero : 32768 ≤ contours
  pub components_are : SpellsComponents s.components records
  pub last_is : AreComponents s.components
  pub program_is : SpellsAnnounced (has_program s.components) s.code program

-- a header of 0 contours
pub record DescribesNone (bytes : List ℕ) : Type 0 where
  pub header : List ℕ
  pub rest : List ℕ
  pub x_min : ℤ
  pub split : bytes ≡ header ++ rest
  pub header_is : IsHeader header 0 x_min

-- some split of a front of the bytes describes the glyph
abbrev pub Describes : List ℕ → Glyph → Type 0
Describes bytes Empty = (bytes ≡ []) ⊎ DescribesNone bytes
Describes bytes (Simple s) = DescribesSimple bytes s
Describes bytes (Composite s) = DescribesComposite bytes s

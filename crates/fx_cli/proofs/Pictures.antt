-- The dots of a glyph's rows are put one by one (`dots_more`), and a picture has few bytes (`picture_short`).
-- Serves the writer of a picture: `put_dots`, `add_glyph`.
use Rattle.std.proofs.Common.{◌≡◌, ◌∙◌, ℕ, ◌+◌, ◌<◌, ◌≤◌, List, [], ◌∷◌, ◌++◌, Bool, true, false, length, get_or, set}
use Rattle.std.proofs.Common.{take, map, sym, arith, length-append}
use Rattle.std.specs.Prelude.{codes, if◌then◌else◌}
use Rattle.std.specs.List.{flat_map}
use Rattle.std.proofs.lemmas.List.{length-map, map_more, take_more_set}
use Rattle.fx_fixed.proofs.Writing.{lines_long}
use Rattle.fx_winding.specs.Limits.{greatest_side}
use Rattle.fx_bdf.specs.Glyphs.{Glyph, IsFormed, is_empty}
use Rattle.fx_bdf.proofs.Boxes.{row_width}
use Rattle.fx_cli.specs.Pictures.{dot_of, longest_picture, picture_of, row_line}

-- one dot more
pub dots_more : (g : Glyph) (i j : ℕ) (buffer : List ℕ) (d : ℕ) → IsFormed g → i < g.box.height → j < g.box.width
    → j < length buffer → d ≡ dot_of (get_or (get_or g.rows i []) j false)
    → take j buffer ≡ map dot_of (take j (get_or g.rows i []))
    → take (j + 1) (set buffer j d) ≡ map dot_of (take (j + 1) (get_or g.rows i []))
dots_more g i j buffer d formed high wide within is so_far =
    take_more_set buffer j d within
    ∙ (λ k. so_far k ++ is k ∷ [])
    ∙ sym (map_more dot_of (get_or g.rows i []) j false (omega (arith, row_width g i formed high)))

-- ---- the size of a picture

line_long : (width : ℕ) → width ≤ greatest_side → (row : List Bool) → length row ≡ width
    → length (row_line row) ≤ greatest_side + 1
line_long width low row e = omega (arith, length-append (map dot_of row) (10 ∷ []), length-map row dot_of, e, low)

-- a picture has few bytes
pub picture_short : (g : Glyph) → IsFormed g → length (picture_of g) ≤ longest_picture
unfolding picture_of
picture_short g formed = by_test (is_empty g.box)
  where
    by_test : (t : Bool) → length (if t then codes "empty\n" else flat_map row_line g.rows) ≤ longest_picture
    by_test true = omega arith
    by_test false =
        let width = g.box.width in
        let long = lines_long row_line (λ (row : List Bool). length row ≡ width) (greatest_side + 1)
        (line_long width formed.wide) g.rows formed.width in
        omega (arith, long, formed.height, formed.high)

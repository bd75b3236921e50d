-- The bytes of eight pixels are those of two fours: `eight_by_fours`.
-- Serves `bytes_of_four`, `bytes_of_eight`, `put_whole`.
use Rattle.std.proofs.Common.{◌≡◌, refl, ap, ◌∙◌, ℕ, ◌+◌, ◌*◌, ◌/◌, ◌%◌, ◌<◌, ◌≤◌, Bool, true, false, List, [], ◌∷◌, ◌++◌, map, get_or, arith}
use Rattle.std.specs.Prelude.{if◌then◌else◌}
use Rattle.std.specs.List.{range_with_len}
use Rattle.fx_bdf.specs.Text.{pixel, four_pixels, eight_pixels}
use Rattle.mkstrike_c.specs.Pixels.{pixel_of, row_byte}

-- the bytes of four pixels by their number
abbrev of_four : List (List ℕ)
of_four =
    (0 ∷ 0 ∷ 0 ∷ 0 ∷ []) ∷
    (0 ∷ 0 ∷ 0 ∷ 255 ∷ []) ∷
    (0 ∷ 0 ∷ 255 ∷ 0 ∷ []) ∷
    (0 ∷ 0 ∷ 255 ∷ 255 ∷ []) ∷
    (0 ∷ 255 ∷ 0 ∷ 0 ∷ []) ∷
    (0 ∷ 255 ∷ 0 ∷ 255 ∷ []) ∷
    (0 ∷ 255 ∷ 255 ∷ 0 ∷ []) ∷
    (0 ∷ 255 ∷ 255 ∷ 255 ∷ []) ∷
    (255 ∷ 0 ∷ 0 ∷ 0 ∷ []) ∷
    (255 ∷ 0 ∷ 0 ∷ 255 ∷ []) ∷
    (255 ∷ 0 ∷ 255 ∷ 0 ∷ []) ∷
    (255 ∷ 0 ∷ 255 ∷ 255 ∷ []) ∷
    (255 ∷ 255 ∷ 0 ∷ 0 ∷ []) ∷
    (255 ∷ 255 ∷ 0 ∷ 255 ∷ []) ∷
    (255 ∷ 255 ∷ 255 ∷ 0 ∷ []) ∷
    (255 ∷ 255 ∷ 255 ∷ 255 ∷ []) ∷ []

abbrev number : Bool → ℕ
number b = if b then 1 else 0

four_bytes : (a b c d : Bool)
    → get_or of_four (8 * number a + 4 * number b + 2 * number c + number d) []
    ≡ pixel_of a ∷ pixel_of b ∷ pixel_of c ∷ pixel_of d ∷ []
four_bytes true true true true = refl
four_bytes true true true false = refl
four_bytes true true false true = refl
four_bytes true true false false = refl
four_bytes true false true true = refl
four_bytes true false true false = refl
four_bytes true false false true = refl
four_bytes true false false false = refl
four_bytes false true true true = refl
four_bytes false true true false = refl
four_bytes false true false true = refl
four_bytes false true false false = refl
four_bytes false false true true = refl
four_bytes false false true false = refl
four_bytes false false false true = refl
four_bytes false false false false = refl

-- in two forms
four_from : (f : ℕ → ℕ) (k : ℕ) → f k ∷ f (k + 1) ∷ f (k + 2) ∷ f (k + 3) ∷ [] ≡ map f (range_with_len k 4)
four_from f k =
    let c : k + 2 ≡ k + 1 + 1 = omega arith in
    let d : k + 3 ≡ k + 1 + 1 + 1 = omega arith in
    λ t. f k ∷ f (k + 1) ∷ f (c t) ∷ f (d t) ∷ []

pub bytes_by_four : (row : List Bool) (k four : ℕ) → four ≡ four_pixels row k
    → get_or of_four four [] ≡ map (row_byte false row) (range_with_len k 4)
bytes_by_four row k four e =
    ap (λ n. get_or of_four n []) e
    ∙ four_bytes (get_or row k false) (get_or row (k + 1) false) (get_or row (k + 2) false) (get_or row (k + 3) false)
    ∙ four_from (row_byte false row) k

-- a pixel is one bit
pixel_small : (row : List Bool) (k : ℕ) → pixel row k ≤ 1
pixel_small row k = by (get_or row k false)
  where
    by : (b : Bool) → number b ≤ 1
    by true = omega arith
    by false = omega arith

four_small : (row : List Bool) (k : ℕ) → four_pixels row k < 16
four_small row k =
    omega (arith, pixel_small row k, pixel_small row (k + 1), pixel_small row (k + 2), pixel_small row (k + 3))

pub upper_four : (row : List Bool) (k eight : ℕ) → eight ≡ eight_pixels row k → eight / 16 ≡ four_pixels row k
upper_four row k eight e = let l = four_small row (k + 4) in omega (arith, e, l)

pub lower_four : (row : List Bool) (k eight : ℕ) → eight ≡ eight_pixels row k → eight % 16 ≡ four_pixels row (k + 4)
lower_four row k eight e = let l = four_small row (k + 4) in omega (arith, e, l)

pub eight_by_fours : (row : List Bool) (k : ℕ) (a b : List ℕ) → a ≡ map (row_byte false row) (range_with_len k 4)
    → b ≡ map (row_byte false row) (range_with_len (k + 4) 4) → a ++ b ≡ map (row_byte false row) (range_with_len k 8)
eight_by_fours row k a b is more =
    let f = row_byte false row in
    let e : k + 4 ≡ k + 1 + 1 + 1 + 1 = omega arith in
    (λ t. is t ++ more t)
    ∙ (λ t. f k ∷ f (k + 1) ∷ f (k + 1 + 1) ∷ f (k + 1 + 1 + 1) ∷ f (e t) ∷ f (e t + 1) ∷ f (e t + 1 + 1)
    ∷ f (e t + 1 + 1 + 1) ∷ [])

pub each_by_fours : (row : List Bool) (k : ℕ) (a b : List ℕ) → a ≡ map (row_byte false row) (range_with_len k 4)
    → b ≡ map (row_byte false row) (range_with_len (k + 4) 4)
    → get_or a 0 0 ∷ get_or a 1 0 ∷ get_or a 2 0 ∷ get_or a 3 0 ∷ get_or b 0 0 ∷ get_or b 1 0 ∷ get_or b 2 0 ∷ get_or b 3 0 ∷ [] ≡
    map (row_byte false row) (range_with_len k 8)
each_by_fours row k a b is more =
    (λ t. get_or (is t) 0 0 ∷ get_or (is t) 1 0 ∷ get_or (is t) 2 0 ∷ get_or (is t) 3 0 ∷ get_or (more t) 0 0 ∷ get_or (more t) 1 0
    ∷ get_or (more t) 2 0 ∷ get_or (more t) 3 0 ∷ [])
    ∙ eight_by_fours row k (map (row_byte false row) (range_with_len k 4)) (map (row_byte false row) (range_with_len (k + 4) 4))
    refl refl

-- The numbers so far, and those of the items that are left, are the numbers of the list: `behind_item`, `all_items`.
-- Serves the lists of characters: `parse_chars`, `range` and `first_part`.
use Rattle.std.proofs.Common.{◌≡◌, ◌∙◌, ℕ, ◌+◌, ◌-◌, ◌<◌, ◌≤◌, List, [], ◌∷◌, ◌++◌, length, refl, sym, ap, arith, Option, Some}
use Rattle.std.proofs.Common.{None, option_map, option_and_then, append_assoc, append-nil, length-append, ap₂, Bool, if◌then◌else◌}
use Rattle.std.proofs.Common.{◌==◌}
use Rattle.std.specs.List.{position_or_len, before_first, after_first}
use Rattle.std.proofs.lemmas.Bool.{lt-ltb, le-ltb}
use Rattle.std.proofs.lemmas.List.Splits.{slice_split_none, slice_split_first}
use Rattle.std.proofs.lemmas.List.Sums.{fails_before_first}
use Rattle.std.proofs.lemmas.Grind.{common_steps}
use Rattle.fx_request.specs.Limits.{max_characters}
use Rattle.fx_arguments.specs.Chars.{few, items_of, numbers_between, numbers_of_items, numbers_of_list, number_of, pair_of, range_of}
use Rattle.fx_arguments.specs.Parts.{parts_of}
use Rattle.fx_arguments.proofs.Numerals.{length-numbers_from}

-- what the items give after the numbers so far
abbrev pub behind : List ℕ → Option (List ℕ) → Option (List ℕ)
behind chars = option_map (λ more. chars ++ more)

numbers_of_items-cons : (item : List ℕ) (items : List (List ℕ))
    → numbers_of_items (item ∷ items) ≡ option_and_then (λ range. option_map (λ more. numbers_between range ++ more)
    (numbers_of_items items)) (range_of item)
unfolding numbers_of_items
numbers_of_items-cons item items = refl

numbers_of_items-nil : numbers_of_items [] ≡ Some []
unfolding numbers_of_items
numbers_of_items-nil = refl

numbers_of_list-is : (text : List ℕ) → numbers_of_list text ≡ option_and_then few (numbers_of_items (items_of text))
unfolding numbers_of_list
numbers_of_list-is text = refl

regrouped : (xs ys : List ℕ) (o : Option (List ℕ)) → behind xs (behind ys o) ≡ behind (xs ++ ys) o
regrouped xs ys None = refl
regrouped xs ys (Some zs) = ap (λ (l : List ℕ). Some l) (sym (append_assoc xs ys zs))

-- one item more
pub behind_item : (chars : List ℕ) (range : ℕ × ℕ) (item : List ℕ) (items : List (List ℕ)) → range_of item ≡ Some range
    → behind chars (numbers_of_items (item ∷ items)) ≡ behind (chars ++ numbers_between range) (numbers_of_items items)
behind_item chars range item items e =
    ap (behind chars) (numbers_of_items-cons item items ∙
    ap (option_and_then (λ r. option_map (λ more. numbers_between r ++ more) (numbers_of_items items))) e)
    ∙ regrouped chars (numbers_between range) (numbers_of_items items)

few_not : (xs : List ℕ) → max_characters < length xs → few xs ≡ None
few_not xs h = grind (arith, common_steps)

few_are : (xs : List ℕ) → length xs ≤ max_characters → few xs ≡ Some xs
few_are xs h = grind (arith, common_steps)

too_many : (chars : List ℕ) (o : Option (List ℕ)) → max_characters < length chars → option_and_then few (behind chars o) ≡ None
too_many chars None h = refl
too_many chars (Some zs) h = few_not (chars ++ zs) (omega (arith, length-append chars zs))

-- an item that is no range
pub none_by_item : (text chars item : List ℕ) (items : List (List ℕ))
    → numbers_of_items (items_of text) ≡ behind chars (numbers_of_items (item ∷ items)) → range_of item ≡ None
    → numbers_of_list text ≡ None
none_by_item text chars item items so_far e =
    numbers_of_list-is text
    ∙ ap (option_and_then few) (so_far ∙ ap (behind chars)
    (numbers_of_items-cons item items ∙ ap (option_and_then (λ r. option_map (λ more. numbers_between r ++ more)
    (numbers_of_items items))) e))

-- an item with too many numbers
pub none_by_count : (text chars item : List ℕ) (range : ℕ × ℕ) (items : List (List ℕ))
    → numbers_of_items (items_of text) ≡ behind chars (numbers_of_items (item ∷ items)) → range_of item ≡ Some range
    → max_characters < length chars + (range.1 - range.0 + 1) → numbers_of_list text ≡ None
none_by_count text chars item range items so_far e h =
    let count : length (numbers_between range) ≡ range.1 - range.0 + 1 = length-numbers_from range.0 (range.1 - range.0 + 1) in
    numbers_of_list-is text
    ∙ ap (option_and_then few) (so_far ∙ behind_item chars range item items e)
    ∙ too_many (chars ++ numbers_between range) (numbers_of_items items)
    (omega (arith, count, length-append chars (numbers_between range)))

-- no item is left
pub all_items : (text chars : List ℕ) → numbers_of_items (items_of text) ≡ behind chars (numbers_of_items [])
    → length chars ≤ max_characters → numbers_of_list text ≡ Some chars
all_items text chars so_far h =
    numbers_of_list-is text
    ∙ ap (option_and_then few) (so_far ∙ ap (behind chars) numbers_of_items-nil ∙ ap (λ (l : List ℕ). Some l) (append-nil chars))
    ∙ few_are chars h

-- an item with a '-', and one without
pub range_cut : (item low high : List ℕ) → low ≡ before_first (λ b. b == 45) item → high ≡ after_first (λ b. b == 45) item
    → position_or_len (λ b. b == 45) item < length item → range_of item ≡ pair_of (number_of low) (number_of high)
unfolding range_of
range_cut item low high l h within =
    ap (λ (t : Bool). if t then pair_of (number_of (before_first (λ b. b == 45) item)) (number_of (after_first (λ b. b == 45) item))
    else pair_of (number_of item) (number_of item)) (lt-ltb _ _ within)
    ∙ ap₂ (λ (x y : List ℕ). pair_of (number_of x) (number_of y)) (sym l) (sym h)

pub range_whole : (item : List ℕ) → position_or_len (λ b. b == 45) item ≡ length item
    → range_of item ≡ pair_of (number_of item) (number_of item)
unfolding range_of
range_whole item none =
    ap (λ (t : Bool). if t then pair_of (number_of (before_first (λ b. b == 45) item)) (number_of (after_first (λ b. b == 45) item))
    else pair_of (number_of item) (number_of item)) (le-ltb _ _ (omega (arith, none)))

-- how much of a text is left to split: each part takes its separator away, and the last one the text
abbrev pub size_left : Option (List ℕ) → ℕ
size_left None = 0
size_left (Some text) = length text + 1

-- a text with a separator, and one without
pub parts_cut : (separator : ℕ) (text part more : List ℕ) → part ≡ before_first (λ b. b == separator) text
    → more ≡ after_first (λ b. b == separator) text → position_or_len (λ b. b == separator) text < length text
    → parts_of separator text ≡ part ∷ parts_of separator more
parts_cut separator text part more p m within =
    slice_split_first (λ b. b == separator) text 0 within ∙ ap₂ (λ (x y : List ℕ). x ∷ parts_of separator y) (sym p) (sym m)

pub parts_whole : (separator : ℕ) (text : List ℕ) → position_or_len (λ b. b == separator) text ≡ length text
    → parts_of separator text ≡ text ∷ []
parts_whole separator text none =
    slice_split_none (λ b. b == separator) text
    (λ k d lt. fails_before_first (λ b. b == separator) text k d (omega (arith, none, lt)))

-- The first range whose last code is not below a code is the one that counts for it: `found_by_number`.
-- For `Codes`, `RisingCodes`, and the `find` and `gap_end` of segments and groups.
use Rattle.std.proofs.Common.{◌≡◌, ℕ, zero, suc, ◌+◌, ◌*◌, ◌<◌, ◌≤◌, Bool, true, false, cond, nat_lt, nat_le, List, [], ◌∷◌}
use Rattle.std.proofs.Common.{Option, Some, None, option_map, length, map, get_or, slice_get, not, refl, sym, ap, ◌∙◌, arith}
use Rattle.std.specs.List.{find, position, position_or_len, range_with_len}
use Rattle.std.proofs.lemmas.Bool.{or_parts, ltb-true, ltb-false, lt-ltb, lt-leb, le-leb, leb-true, leb-false, cond-true, cond-false}
use Rattle.std.proofs.lemmas.List.{length-map}
use Rattle.std.proofs.lemmas.List.FromFn.{get_or-map-range_with_len, length-map-range_with_len}
use Rattle.std.proofs.lemmas.List.Sums.{position_or_len_is}
use Rattle.std.proofs.lemmas.List.Folds.{find_at}
use Rattle.std.proofs.lemmas.Option.{none-some, same_Some, slice_get-get_or, slice_get_past}
use Rattle.fx_sfnt.specs.Fields.{field}
use Rattle.fx_cmap.specs.Subtables.{falls}
use Rattle.fx_cmap.specs.inner.Codes.{codes_at}
use Rattle.fx_cmap.specs.Segments.{segment_of, segments_of, glyph_in_segment}
use Rattle.fx_cmap.specs.Groups.{group_of, groups_of, glyph_in_group}
use Rattle.fx_cmap.specs.declared.segment.Segment.{Segment}
use Rattle.fx_cmap.specs.declared.group.Group.{Group}

-- the number of codes
pub count_of_codes : (n : ℕ) (bytes : List ℕ) (first stride count : ℕ) → length (codes_at n bytes first stride count) ≡ count
count_of_codes n bytes first stride count = length-map-range_with_len (λ (k : ℕ). field n bytes (first + stride * k)) 0 count

-- the code with a number
pub code_at : (n : ℕ) (bytes : List ℕ) (first stride count k : ℕ) → k < count
    → get_or (codes_at n bytes first stride count) k 0 ≡ field n bytes (first + stride * k)
code_at n bytes first stride count k lt = grind (arith, get_or-map-range_with_len)

-- codes that do not fall are at least the number below them
pub falls_above : (before : ℕ) (codes : List ℕ) (i : ℕ) → falls before codes ≡ false → i < length codes → before ≤ get_or codes i 0
falls_above before [] i h lt = absurd (omega arith)
falls_above before (code ∷ more) zero h lt = ltb-false code before (or_parts (nat_lt code before) (falls code more) h).0
falls_above before (code ∷ more) (suc i) h lt =
    let parts = or_parts (nat_lt code before) (falls code more) h in
    omega (arith, ltb-false code before parts.0, falls_above code more i parts.1 (omega arith))

-- codes that do not fall are in order
pub rising_between : (before : ℕ) (codes : List ℕ) (i j : ℕ) → falls before codes ≡ false → i ≤ j → j < length codes
    → get_or codes i 0 ≤ get_or codes j 0
rising_between before [] i j h le lt = absurd (omega arith)
rising_between before (code ∷ more) zero zero h le lt = omega arith
rising_between before (code ∷ more) zero (suc j) h le lt = grind (arith, falls_above, or_parts)
rising_between before (code ∷ more) (suc i) zero h le lt = absurd (omega arith)
rising_between before (code ∷ more) (suc i) (suc j) h le lt =
    rising_between code more i j (or_parts (nat_lt code before) (falls code more) h).1 (omega arith) (omega arith)

-- the last codes of ranges that are made by numbers
pub map_made : {X : Type 0} (last : X → ℕ) (f : ℕ → X) (k n : ℕ)
    → map last (map f (range_with_len k n)) ≡ map (λ i. last (f i)) (range_with_len k n)
map_made last f k zero = refl
map_made last f k (suc n) = ap (λ (l : List ℕ). last (f k) ∷ l) (map_made last f (k + 1) n)

-- the last codes of segments
pub end_codes_of : (cmap : List ℕ) (start count : ℕ)
    → map (λ (s : Segment). s.end_code) (segments_of cmap start count) ≡ codes_at 2 cmap (start + 14) 2 count
unfolding segment_of
end_codes_of cmap start count = map_made (λ (s : Segment). s.end_code) (segment_of cmap start count) 0 count

-- the last codes of groups
pub end_char_codes_of : (cmap : List ℕ) (start count : ℕ)
    → map (λ (g : Group). g.end_char_code) (groups_of cmap start count) ≡ codes_at 4 cmap (start + 20) 12 count
unfolding group_of
end_char_codes_of cmap start count = map_made (λ (g : Group). g.end_char_code) (group_of cmap start) 0 count

-- what is made of a number
pub made_at : {X : Type 0} (f : ℕ → X) (n k : ℕ) → k < n → slice_get (map f (range_with_len 0 n)) k ≡ Some (f k)
made_at f n k lt =
    slice_get-get_or (map f (range_with_len 0 n)) k (f k) (omega (arith, length-map-range_with_len f 0 n))
    ∙ ap Some (get_or-map-range_with_len f 0 n k k (f k) lt (omega arith))

-- the number of the range that counts for a code is that of its last code
position_in : {X : Type 0} (last : X → ℕ) (code : ℕ) (ranges : List X)
    → position_or_len (λ r. nat_le code (last r)) ranges ≡ position_or_len (nat_le code) (map last ranges)
position_in last code [] = refl
position_in last code (r ∷ more) = ap (λ (n : ℕ). cond (not (nat_le code (last r))) (1 + n) 0) (position_in last code more)

-- what is made of the numbers below n, at a number
slice_case : {X : Type 0} (f : ℕ → X) (n k : ℕ) (within : Bool) → nat_lt k n ≡ within
    → slice_get (map f (range_with_len 0 n)) k ≡ option_map f (cond within (Some k) None)
slice_case f n k true h = made_at f n k (ltb-true k n h)
slice_case f n k false h = grind (arith, slice_get_past, ltb-false, length-map-range_with_len)

-- the range that counts for a code, by its number
pub found_by_number : {X : Type 0} (last : X → ℕ) (f : ℕ → X) (n code : ℕ)
    → find (λ r. nat_le code (last r)) (map f (range_with_len 0 n))
    ≡ option_map f (position (nat_le code) (map last (map f (range_with_len 0 n))))
found_by_number last f n code = grind (arith, length-map, length-map-range_with_len, find_at, position_in, slice_case)

-- the first code that is at least another
pub first_is : (codes : List ℕ) (code k : ℕ) → k ≤ length codes → ((j : ℕ) → j < k → get_or codes j 0 < code)
    → (k < length codes → code ≤ get_or codes k 0) → position_or_len (nat_le code) codes ≡ k
first_is codes code k le before reaches =
    position_or_len_is (nat_le code) codes k 0 le (λ j lt. lt-leb _ _ (before j lt)) (λ lt. le-leb _ _ (reaches lt))

-- the range that counts for a code counts for each later code up to its last one
found_case : {X : Type 0} (last : X → ℕ) (r x : X) (more : List X) (code later : ℕ) (reaches : Bool)
    → nat_le code (last r) ≡ reaches → cond reaches (Some r) (find (λ y. nat_le code (last y)) more) ≡ Some x
    → code ≤ later → later ≤ last x
    → (find (λ y. nat_le code (last y)) more ≡ Some x → find (λ y. nat_le later (last y)) more ≡ Some x)
    → cond (nat_le later (last r)) (Some r) (find (λ y. nat_le later (last y)) more) ≡ Some x
found_case last r x more code later true e h le on rest = grind (arith, cond-true, le-leb, same_Some)
found_case last r x more code later false e h le on rest = grind (arith, cond-false, lt-leb, leb-false)

pub found_on : {X : Type 0} (last : X → ℕ) (ranges : List X) (x : X) (code later : ℕ)
    → find (λ y. nat_le code (last y)) ranges ≡ Some x → code ≤ later → later ≤ last x
    → find (λ y. nat_le later (last y)) ranges ≡ Some x
found_on last [] x code later h le on = h
found_on last (r ∷ more) x code later h le on =
    found_case last r x more code later (nat_le code (last r)) refl h le on (λ g. found_on last more x code later g le on)

-- if no range counts for a code, none counts for a later one
none_case : {X : Type 0} (last : X → ℕ) (r : X) (more : List X) (code later : ℕ) (reaches : Bool) → nat_le code (last r) ≡ reaches
    → cond reaches (Some r) (find (λ y. nat_le code (last y)) more) ≡ None → code ≤ later
    → (find (λ y. nat_le code (last y)) more ≡ None → find (λ y. nat_le later (last y)) more ≡ None)
    → cond (nat_le later (last r)) (Some r) (find (λ y. nat_le later (last y)) more) ≡ None
none_case last r more code later true e h le rest = absurd (none-some r (sym h))
none_case last r more code later false e h le rest = grind (arith, cond-false, lt-leb, leb-false)

pub none_on : {X : Type 0} (last : X → ℕ) (ranges : List X) (code later : ℕ) → find (λ y. nat_le code (last y)) ranges ≡ None
    → code ≤ later → find (λ y. nat_le later (last y)) ranges ≡ None
none_on last [] code later h le = refl
none_on last (r ∷ more) code later h le =
    none_case last r more code later (nat_le code (last r)) refl h le (λ g. none_on last more code later g le)

-- the range that counts for a code reaches it
reaches_case : {X : Type 0} (last : X → ℕ) (r x : X) (found : Option X) (code : ℕ) (reaches : Bool)
    → nat_le code (last r) ≡ reaches → cond reaches (Some r) found ≡ Some x → (found ≡ Some x → code ≤ last x) → code ≤ last x
reaches_case last r x found code true e h rest = omega (arith, leb-true _ _ e, ap last (same_Some r x h))
reaches_case last r x found code false e h rest = rest h

pub found_reaches : {X : Type 0} (last : X → ℕ) (ranges : List X) (x : X) (code : ℕ)
    → find (λ y. nat_le code (last y)) ranges ≡ Some x → code ≤ last x
found_reaches last [] x code h = absurd (none-some x h)
found_reaches last (r ∷ more) x code h =
    reaches_case last r x (find (λ y. nat_le code (last y)) more) code (nat_le code (last r)) refl h
    (λ g. found_reaches last more x code g)

-- a code below a segment's first one has no glyph in it
pub none_below_segment : (cmap : List ℕ) (s : Segment) (code : ℕ) → code < s.start_code → glyph_in_segment cmap s code ≡ 0
unfolding glyph_in_segment
none_below_segment cmap s code h = rw (lt-ltb code s.start_code h) refl

-- a code below a group's first one has no glyph in it
pub none_below_group : (g : Group) (code : ℕ) → code < g.start_char_code → glyph_in_group g code ≡ 0
unfolding glyph_in_group
none_below_group g code h = rw (lt-ltb code g.start_char_code h) refl

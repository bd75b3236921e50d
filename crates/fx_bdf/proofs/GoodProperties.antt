-- A property that may not follow those before it is the first bad one (`left_bad`); good ones are short: `properties_long`.
-- Serves `first_bad`, `write_header` and `all_properties`.
use Rattle.std.proofs.Common.{◌≡◌, ◌∙◌, ℕ, ◌+◌, ◌<◌, ◌≤◌, ℤ, pos, negsuc, Bool, true, false, List, [], ◌∷◌, ◌++◌, length, take, drop}
use Rattle.std.proofs.Common.{get_or, refl, sym, ap, ap₂, arith, Option, Some, None, length-append}
use Rattle.std.proofs.lemmas.List.{drop_all, drop_more, length-map, length-take-le, map_more}
use Rattle.std.proofs.lemmas.List.Sums.{AllPass-from_list_all}
use Rattle.std.specs.Prelude.{if◌then◌else◌, nat_le}
use Rattle.std.specs.List.{flat_map, list_all}
use Rattle.std.specs.Fmt.{signed_decimal}
use Rattle.std.proofs.lemmas.Bool.Decides.{nat_tests}
use Rattle.std.proofs.lemmas.Fmt.{length_signed_le}
use Rattle.fx_fixed.proofs.Writing.{lines_long}
use Rattle.fx_bdf.specs.Properties.{PropertyView, ValueView, number, text, doubled, quoted, value_text, property_text}
use Rattle.fx_bdf.specs.Properties.{AreLines, AreProperties, first_bad_after, is_integer, is_line, is_short_value}
use Rattle.fx_bdf.specs.Properties.{is_string, is_value, is_word, may_follow}
use Rattle.fx_bdf.specs.Properties.{seen_properties, seen_property}
use Rattle.fx_bdf.specs.declared.property.Property.{Property}

-- ---- the first bad one

abbrev chosen : Bool → Option ℕ → ℕ → Option ℕ
chosen b more n = if b then more else Some n

first_bad_after-cons : (before : List PropertyView) (p : PropertyView) (ps : List PropertyView)
    → first_bad_after before (p ∷ ps) ≡ chosen (may_follow before p) (first_bad_after (before ++ p ∷ []) ps) (length before)
unfolding first_bad_after
first_bad_after-cons before p ps = refl

first_bad_after-nil : (before : List PropertyView) → first_bad_after before [] ≡ None
unfolding first_bad_after
first_bad_after-nil before = refl

-- one property more is good, or it is the first bad one
-- what is left once the properties before one are good
abbrev pub left_after : List Property → ℕ → Option ℕ
left_after ps i = first_bad_after (seen_properties (take i ps)) (seen_properties (drop i ps))

left_is : (ps : List Property) (i : ℕ) (d : Property) → i < length ps
    → left_after ps i ≡ chosen (may_follow (seen_properties (take i ps)) (seen_property (get_or ps i d))) (left_after ps (i + 1)) i
left_is ps i d h =
    let good = may_follow (seen_properties (take i ps)) (seen_property (get_or ps i d)) in
    let count : length (seen_properties (take i ps)) ≡ i =
    length-map (take i ps) seen_property ∙ length-take-le i ps (omega (arith, h)) in
    let front : seen_properties (take i ps) ++ seen_property (get_or ps i d) ∷ [] ≡ seen_properties (take (i + 1) ps) =
    sym (map_more seen_property ps i d h) in
    ap (λ (qs : List Property). first_bad_after (seen_properties (take i ps)) (seen_properties qs)) (drop_more ps i d h)
    ∙ first_bad_after-cons _ _ _
    ∙ ap₂ (λ (qs : List PropertyView) (n : ℕ). chosen good (first_bad_after qs (seen_properties (drop (i + 1) ps))) n) front count

pub left_more : (ps : List Property) (i : ℕ) (d : Property) → i < length ps
    → may_follow (seen_properties (take i ps)) (seen_property (get_or ps i d)) ≡ true → left_after ps i ≡ left_after ps (i + 1)
left_more ps i d h good = rw good at (left_is ps i d h)

pub left_bad : (ps : List Property) (i : ℕ) (d : Property) → i < length ps
    → may_follow (seen_properties (take i ps)) (seen_property (get_or ps i d)) ≡ false → left_after ps i ≡ Some i
left_bad ps i d h bad = rw bad at (left_is ps i d h)

pub left_none : (ps : List Property) (i : ℕ) → length ps ≤ i → left_after ps i ≡ None
left_none ps i h =
    ap (λ (qs : List Property). first_bad_after (seen_properties (take i ps)) (seen_properties qs)) (drop_all i ps h)
    ∙ first_bad_after-nil _

-- ---- how long a line is

doubled_long : (c : ℕ) → length (doubled c) ≤ 2
doubled_long c = grind (arith, nat_tests)

quoted_long : (string : List ℕ) → length string ≤ 32000 → length (quoted string) ≤ 64002
unfolding quoted
quoted_long string few =
    let all = lines_long doubled (λ c. ℕ) 2 (λ c h. doubled_long c) string (λ k d h. 0) in
    omega (arith, few, all, length-append (flat_map doubled string) (34 ∷ []))

integer_long : (n : ℤ) → is_integer n ≡ true → length (signed_decimal n) ≤ 11
integer_long (pos n) h = grind (arith, nat_tests, h, length_signed_le 10 (pos n))
integer_long (negsuc n) h = grind (arith, nat_tests, h, length_signed_le 10 (negsuc n))

value_long : (value : ValueView) → is_short_value value ≡ true → length (value_text value) ≤ 64002
value_long (number n) h = omega (arith, integer_long n h)
value_long (text string) h = grind (arith, nat_tests, h, quoted_long string)

line_long : (p : PropertyView) → is_line p ≡ true → length (property_text p) ≤ 64068
line_long p h = grind (arith, nat_tests, h, value_long p.value, length-append)

pub properties_long : (ps : List PropertyView) → AreLines ps → length (flat_map property_text ps) ≤ 4869168
properties_long ps h =
    let each = AllPass-from_list_all is_line ps h.short in
    omega (arith, h.few, lines_long property_text (λ p. is_line p ≡ true) 64068 line_long ps each)

-- ---- the lines of good ones are short

word_short : (name : List ℕ) → is_word name ≡ true → nat_le (length name) 64 ≡ true
unfolding is_word
word_short name h = grind (arith, nat_tests, h)

value_short : (value : ValueView) → is_value value ≡ true → is_short_value value ≡ true
unfolding is_string
value_short (number n) h = h
value_short (text string) h = grind (arith, nat_tests, h)

good_line : (before : List PropertyView) (p : PropertyView) → may_follow before p ≡ true
    → (length before < 64) × (is_line p ≡ true)
unfolding may_follow
good_line before p h = grind (arith, nat_tests, h, word_short, value_short)

-- there is room for one property more
pub left_room : (ps : List Property) (i : ℕ) (p : PropertyView) → i < length ps
    → may_follow (seen_properties (take i ps)) p ≡ true → i + 1 ≤ 64
left_room ps i p h good = grind (arith, h, length-map, length-take-le, good_line (seen_properties (take i ps)) p good)

good_lines : (before ps : List PropertyView) → first_bad_after before ps ≡ None → length before ≤ 64
    → (length before + length ps ≤ 64) × (list_all is_line ps ≡ true)
good_lines before [] h few = (omega (arith, few), refl)
good_lines before (p ∷ ps) h few =
    let rest = good_lines (before ++ p ∷ []) ps in
    grind (arith, first_bad_after-cons before p ps, h, good_line before p, rest, length-append before (p ∷ []))

pub few_and_short : (ps : List PropertyView) → AreProperties ps → (length ps ≤ 64) × (list_all is_line ps ≡ true)
few_and_short ps h = let fit = good_lines [] ps h (omega arith) in (omega (arith, fit.0), fit.1)

-- The properties so far, and those of the texts that are left, are the properties that arguments ask for: `rest_more`.
-- Serves `properties_by` and what it calls.
use Rattle.std.proofs.Common.{◌≡◌, ◌∙◌, ℕ, ◌+◌, ◌<◌, ◌≤◌, ◌^◌, ℤ, pos, negsuc, List, [], ◌∷◌, ◌++◌, length, refl, sym, ap, ap₂, arith, Bool, true}
use Rattle.std.proofs.Common.{false, Option, Some, None, Result, Ok, Err, codes, option_map, append-nil, append_assoc, drop, get_or}
use Rattle.std.specs.Prelude.{nat_lt, ◌==◌, ◌&&◌, if◌then◌else◌, FitsSigned, MatchOption}
use Rattle.std.specs.List.{list_all, position_or_len, before_first, after_first}
use Rattle.std.specs.Result.{result_ok}
use Rattle.std.specs.Char.{digit_value}
use Rattle.std.specs.Str.Parse.{IsNumeral, ParsesSigned, signed_digits_value, without_leading_sign}
use Rattle.std.specs.Borrow.{Bor}
use Rattle.std.proofs.lemmas.List.{drop-map, drop_all, drop_more, length-map, map-append}
use Rattle.std.proofs.lemmas.Bool.{and_parts, eqb-true, lt-ltb, le-ltb, ltb-true}
use Rattle.clap.specs.Walk.{Text}
use Rattle.fx_fixed.specs.Chain.{◌>>=◌, map_ok}
use mir.Syntax.{w32}
use Rattle.fx_bdf.specs.Properties.{PropertyView, ValueView, is_integer, seen_properties, seen_property}
use Rattle.fx_bdf.specs.declared.property.Property.{Property}
use Rattle.fx_arguments.specs.Arguments.{properties_by, texts}
use Rattle.fx_arguments.specs.Properties.{before_mark, between_marks, has_plus, property_of, value_of, whole_of}
use Rattle.fx_arguments.specs.Wrong.{WrongView, not_taken}
use Rattle.fx_arguments.proofs.Options.{digits_tested, tests_digits}

-- ---- between quotation marks

pub mark_last : (front : Text) → before_mark (front ++ 34 ∷ []) ≡ Some front
unfolding before_mark
mark_last [] = refl
mark_last (c ∷ []) = refl
mark_last (c ∷ d ∷ cs) = ap (option_map (λ front. c ∷ front)) (mark_last (d ∷ cs))

abbrev ended : Bool → Option Text
ended b = if b then Some [] else None

last_by : (c : ℕ) (b : Bool) → (c == 34) ≡ b → ((front : Text) → c ∷ [] ≡ front ++ 34 ∷ [] → ⊥)
    → ended b ≡ None
last_by c true e h = absurd (h [] (ap (λ (n : ℕ). n ∷ []) (eqb-true c 34 e)))
last_by c false e h = refl

pub mark_not_last : (cs : Text) → ((front : Text) → cs ≡ front ++ 34 ∷ [] → ⊥) → before_mark cs ≡ None
unfolding before_mark
mark_not_last [] h = refl
mark_not_last (c ∷ []) h = last_by c (c == 34) refl h
mark_not_last (c ∷ d ∷ cs) h =
    ap (option_map (λ front. c ∷ front)) (mark_not_last (d ∷ cs) (λ front e. h (c ∷ front) (ap (λ (t : Text). c ∷ t) e)))

-- what a mark ends
pub mark_found : (cs : Text) (r : Option (Bor Text))
    → MatchOption r ((front : Text) → cs ≡ front ++ 34 ∷ [] → ⊥) (λ x. cs ≡ x.now ++ 34 ∷ [])
    → option_map (λ front. front.now) r ≡ before_mark cs
mark_found cs None h = sym (mark_not_last cs h)
mark_found cs (Some x) h = sym (ap before_mark h ∙ mark_last x.now)

pub mark_first : (cs : Text) → between_marks (34 ∷ cs) ≡ before_mark cs
unfolding between_marks
mark_first cs = refl

first_by : (c : ℕ) (cs : Text) (b : Bool) → (c == 34) ≡ b → ((rest : Text) → c ∷ cs ≡ 34 ∷ rest → ⊥)
    → (if b then before_mark cs else None) ≡ None
first_by c cs true e h = absurd (h cs (ap (λ (n : ℕ). n ∷ cs) (eqb-true c 34 e)))
first_by c cs false e h = refl

pub mark_not_first : (cs : Text) → ((rest : Text) → cs ≡ 34 ∷ rest → ⊥) → between_marks cs ≡ None
unfolding between_marks
mark_not_first [] h = refl
mark_not_first (c ∷ cs) h = first_by c cs (c == 34) refl h

-- ---- a whole number

integer_fits : (z : ℤ) → is_integer z ≡ true → FitsSigned w32 z
integer_fits (pos n) h = record { sfits = ltb-true n (2 ^ 31) h }
integer_fits (negsuc n) h = record { sfits = ltb-true n (2 ^ 31) h }

fits_integer : (z : ℤ) → FitsSigned w32 z → is_integer z ≡ true
fits_integer (pos n) h = lt-ltb n (2 ^ 31) h.sfits
fits_integer (negsuc n) h = lt-ltb n (2 ^ 31) h.sfits

abbrev whole : Bool → ℤ → Option ℤ
whole b z = if b then Some z else None

abbrev is_whole : Text → Bool
is_whole value =
    nat_lt 0 (length (without_leading_sign value)) && (list_all (λ d. nat_lt (digit_value d) 10) (without_leading_sign value)
    && is_integer (signed_digits_value 10 value))

pub whole_plus : (value : Text) → has_plus value ≡ true → None ≡ whole_of value
unfolding whole_of
whole_plus value h = rw h refl

whole_passes : (value : Text) → IsNumeral 10 (without_leading_sign value) → FitsSigned w32 (signed_digits_value 10 value)
    → is_whole value ≡ true
whole_passes value h g = ap₂ ◌&&◌ (lt-ltb _ _ h.0) (ap₂ ◌&&◌ (tests_digits _ h.1) (fits_integer _ g))

passed_whole : (value : Text) → is_whole value ≡ true
    → IsNumeral 10 (without_leading_sign value) × FitsSigned w32 (signed_digits_value 10 value)
passed_whole value e =
    let p = and_parts _ _ e in
    let q = and_parts _ _ p.1 in
    ((ltb-true _ _ p.0, digits_tested _ q.0), integer_fits _ q.1)

not_whole : (b : Bool) (z : ℤ) → (b ≡ true → ⊥) → whole b z ≡ None
not_whole true z h = absurd (h refl)
not_whole false z h = refl

pub whole_parsed : {E : Type 0} (value : Text) (r : Result ℤ E) → has_plus value ≡ false → ParsesSigned w32 10 value r
    → result_ok r ≡ whole_of value
unfolding whole_of
whole_parsed {E = E} value r plain h = rw plain (by r h)
  where
    by : (r : Result ℤ E) → ParsesSigned w32 10 value r → result_ok r ≡ whole (is_whole value) (signed_digits_value 10 value)
    by (Ok z) h =
        ap (λ (k : ℤ). Some k) h.1
        ∙ sym (ap (λ (b : Bool). whole b (signed_digits_value 10 value)) (whole_passes value h.0.0 h.0.1))
    by (Err e) h = sym (not_whole (is_whole value) (signed_digits_value 10 value) (λ passed. h (passed_whole value passed)))

-- ---- a name and a value

-- a name with a value
abbrev pub with_value : Text → ValueView → Option PropertyView
with_value name value = Some (record { name = name; value = value })

pub property_cut : (given name value : Text) → name ≡ before_first (λ b. b == 61) given → value ≡ after_first (λ b. b == 61) given
    → position_or_len (λ b. b == 61) given < length given
    → with_value name (value_of value) ≡ property_of given
unfolding property_of
property_cut given name value n v within =
    let cut = lt-ltb (position_or_len (λ b. b == 61) given) (length given) within in rw (n, v, cut)

pub property_whole : (given : Text) → position_or_len (λ b. b == 61) given ≡ length given → None ≡ property_of given
unfolding property_of
property_whole given none =
    let uncut : nat_lt (position_or_len (λ b. b == 61) given) (length given) ≡ false = le-ltb _ _ (omega (arith, none)) in
    rw uncut

-- ---- one after another

abbrev pub after : List PropertyView → Result (List PropertyView) WrongView → Result (List PropertyView) WrongView
after before = map_ok (λ more. before ++ more)

-- the properties of `all`, and after them the properties of the given texts from the index i
abbrev pub rest_of : List Property → List (Bor Text) → ℕ → Result (List PropertyView) WrongView
rest_of all given i = after (seen_properties all) (properties_by (drop i (texts given)))

after-nil : (r : Result (List PropertyView) WrongView) → r ≡ after [] r
after-nil (Ok ps) = refl
after-nil (Err w) = refl

after-more : (before : List PropertyView) (p : PropertyView) (r : Result (List PropertyView) WrongView)
    → after before (r >>= λ ps. Ok (p ∷ ps)) ≡ after (before ++ p ∷ []) r
after-more before p (Ok ps) = ap Ok (sym (append_assoc before (p ∷ []) ps))
after-more before p (Err w) = refl

pub rest_all : (all : List Property) (given : List (Bor Text)) → all ≡ [] → properties_by (texts given) ≡ rest_of all given 0
rest_all all given e = rw e (after-nil (properties_by (texts given)))

pub next_text : (given : List (Bor Text)) (i : ℕ) (d : Bor Text) → i < length given
    → drop i (texts given) ≡ (get_or given i d).now ∷ drop (i + 1) (texts given)
next_text given i d h =
    drop-map (λ (t : Bor Text). t.now) i given ∙ ap texts (drop_more given i d h)
    ∙ ap (λ (ts : List Text). (get_or given i d).now ∷ ts) (sym (drop-map (λ (t : Bor Text). t.now) (i + 1) given))

-- one property more
pub rest_more : (all next : List Property) (given : List (Bor Text)) (i : ℕ) (d : Bor Text) (p : Property) → i < length given
    → Some (seen_property p) ≡ property_of (get_or given i d).now → next ≡ all ++ p ∷ []
    → rest_of all given i ≡ rest_of next given (i + 1)
rest_more all next given i d p h e n =
    rw (next_text given i d h, sym e, n, map-append seen_property all (p ∷ []))
    (after-more (seen_properties all) (seen_property p) (properties_by (drop (i + 1) (texts given))))

-- a text that is no property
pub rest_none : (all : List Property) (given : List (Bor Text)) (i : ℕ) (d : Bor Text) → i < length given
    → None ≡ property_of (get_or given i d).now
    → rest_of all given i ≡ Err (not_taken (codes "--property takes KEY=VALUE") (get_or given i d).now)
rest_none all given i d h e = rw (next_text given i d h, sym e)

-- no text is left
pub rest_done : (all : List Property) (given : List (Bor Text)) (i : ℕ) → length given ≤ i
    → rest_of all given i ≡ Ok (seen_properties all)
rest_done all given i h =
    let none = drop_all i (texts given) (omega (arith, h, length-map given (λ (t : Bor Text). t.now))) in
    rw none (ap Ok (append-nil (seen_properties all)))

pub ruleset rest_steps = (rest_all, rest_done, rest_more, rest_none)

-- The first character of UTF-16BE is a pair of surrogates or one unit: `chars_pair`, `chars_lone`, `chars_last`.
-- Serves `first_char` and the loops over a text.
use Rattle.std.proofs.Common.{◌≡◌, ◌∙◌, refl, sym, ap, arith, ℕ, suc, ◌/◌, ◌<◌, ◌≤◌, Bool, true, false, cond, ◌&&◌}
use Rattle.std.proofs.Common.{List, [], ◌∷◌, map, length, drop, length-drop, Some, unwrap_or}
use Rattle.std.proofs.lemmas.List.{drop-drop}
use Rattle.std.specs.Char.Utf16.{is_high_surrogate, is_low_surrogate, lone_unit_char, surrogate_pair_char, utf16_chars}
use Rattle.std.specs.Char.Utf16.{utf16_lossy_chars}
use Rattle.fx_sfnt.specs.Fields.{field}
use Rattle.fx_names.specs.Text.{units, chars_of}

-- ---- code units

abbrev next_by : Bool → ℕ → ℕ → List ℕ → List ℕ
next_by pair u v us =
    map (λ o. unwrap_or o 0xFFFD)
    (cond pair (Some (surrogate_pair_char u v) ∷ utf16_chars us) (lone_unit_char u ∷ utf16_chars (v ∷ us)))

next_is : (u v : ℕ) (us : List ℕ) → utf16_lossy_chars (u ∷ v ∷ us) ≡ next_by (is_high_surrogate u && is_low_surrogate v) u v us
unfolding utf16_chars
next_is u v us = refl

last_is : (u : ℕ) → utf16_lossy_chars (u ∷ []) ≡ unwrap_or (lone_unit_char u) 0xFFFD ∷ utf16_lossy_chars []
unfolding utf16_chars
last_is u = refl

-- ---- bytes

next_unit : (bytes : List ℕ) → field 2 (drop 2 bytes) 0 ≡ field 2 bytes 2
unfolding field
next_unit bytes = refl

one_more : (bytes : List ℕ) → 2 ≤ length bytes
    → units (length bytes / 2) bytes ≡ field 2 bytes 0 ∷ units (length (drop 2 bytes) / 2) (drop 2 bytes)
one_more bytes h =
    let e : length bytes / 2 ≡ suc (length (drop 2 bytes) / 2) = omega (arith, length-drop 2 bytes) in
    ap (λ (n : ℕ). units n bytes) e

two_more : (bytes : List ℕ) → 4 ≤ length bytes
    → units (length bytes / 2) bytes ≡ field 2 bytes 0 ∷ field 2 bytes 2 ∷ units (length (drop 4 bytes) / 2) (drop 4 bytes)
two_more bytes h =
    one_more bytes (omega arith)
    ∙ ap (λ (us : List ℕ). field 2 bytes 0 ∷ us) (one_more (drop 2 bytes) (omega (arith, length-drop 2 bytes)))
    ∙ ap (λ (u : ℕ). field 2 bytes 0 ∷ u ∷ units (length (drop 2 (drop 2 bytes)) / 2) (drop 2 (drop 2 bytes))) (next_unit bytes)
    ∙ ap (λ (bs : List ℕ). field 2 bytes 0 ∷ field 2 bytes 2 ∷ units (length bs / 2) bs) (drop-drop 2 2 bytes)

none_left : (bytes : List ℕ) → length bytes < 2 → units (length bytes / 2) bytes ≡ []
none_left bytes h =
    let e : length bytes / 2 ≡ 0 = omega arith in
    ap (λ (n : ℕ). units n bytes) e

-- ---- the first character

pub chars_pair : (bytes : List ℕ) → 4 ≤ length bytes
    → (is_high_surrogate (field 2 bytes 0) && is_low_surrogate (field 2 bytes 2)) ≡ true
    → chars_of bytes ≡ surrogate_pair_char (field 2 bytes 0) (field 2 bytes 2) ∷ chars_of (drop 4 bytes)
unfolding chars_of
chars_pair bytes h pair =
    ap utf16_lossy_chars (two_more bytes h) ∙ next_is _ _ _
    ∙ ap (λ (b : Bool). next_by b (field 2 bytes 0) (field 2 bytes 2) (units (length (drop 4 bytes) / 2) (drop 4 bytes))) pair

pub chars_lone : (bytes : List ℕ) → 4 ≤ length bytes
    → (is_high_surrogate (field 2 bytes 0) && is_low_surrogate (field 2 bytes 2)) ≡ false
    → chars_of bytes ≡ unwrap_or (lone_unit_char (field 2 bytes 0)) 0xFFFD ∷ chars_of (drop 2 bytes)
unfolding chars_of
chars_lone bytes h apart =
    ap utf16_lossy_chars (two_more bytes h) ∙ next_is _ _ _
    ∙ ap (λ (b : Bool). next_by b (field 2 bytes 0) (field 2 bytes 2) (units (length (drop 4 bytes) / 2) (drop 4 bytes))) apart
    ∙ ap (λ (us : List ℕ). unwrap_or (lone_unit_char (field 2 bytes 0)) 0xFFFD ∷ utf16_lossy_chars us) (sym (after_one bytes h))
  where
    after_one : (bytes : List ℕ) → 4 ≤ length bytes
        → units (length (drop 2 bytes) / 2) (drop 2 bytes) ≡ field 2 bytes 2 ∷ units (length (drop 4 bytes) / 2) (drop 4 bytes)
    after_one bytes h =
        one_more (drop 2 bytes) (omega (arith, length-drop 2 bytes))
        ∙ ap (λ (u : ℕ). u ∷ units (length (drop 2 (drop 2 bytes)) / 2) (drop 2 (drop 2 bytes))) (next_unit bytes)
        ∙ ap (λ (bs : List ℕ). field 2 bytes 2 ∷ units (length bs / 2) bs) (drop-drop 2 2 bytes)

pub chars_last : (bytes : List ℕ) → 2 ≤ length bytes → length bytes < 4
    → chars_of bytes ≡ unwrap_or (lone_unit_char (field 2 bytes 0)) 0xFFFD ∷ chars_of (drop 2 bytes)
unfolding chars_of
chars_last bytes h few =
    let none = none_left (drop 2 bytes) (omega (arith, length-drop 2 bytes)) in
    ap utf16_lossy_chars (one_more bytes h ∙ ap (λ (us : List ℕ). field 2 bytes 0 ∷ us) none) ∙ last_is _
    ∙ ap (λ (us : List ℕ). unwrap_or (lone_unit_char (field 2 bytes 0)) 0xFFFD ∷ utf16_lossy_chars us) (sym none)

pub chars_none : (bytes : List ℕ) → length bytes < 2 → chars_of bytes ≡ []
unfolding chars_of utf16_chars
chars_none bytes h = ap utf16_lossy_chars (none_left bytes h)

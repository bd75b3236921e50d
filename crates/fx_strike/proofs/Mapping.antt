-- The characters found among rising code points are those of the map, and the others are counted: `others_counted`.
-- Serves `run_below`, `look_up`, `characters` and `first_pass`.
use Rattle.std.proofs.Common.{◌≡◌, inl, inr, refl, sym, ap, ◌∙◌, subst, arith, ℕ, suc, zero, ◌+◌, ◌<◌, ◌≤◌, Bool, true, false, not}
use Rattle.std.proofs.Common.{List, [], ◌∷◌, ◌++◌, map, length, take, get_or, Result, Ok, cond}
use Rattle.std.specs.Prelude.{nat_lt, ◌==◌, ◌||◌, filter}
use Rattle.std.specs.List.{list_any, count_by}
use Rattle.std.specs.List.Sorted.{IsStrictlyIncreasing}
use Rattle.std.proofs.Math.Nat.{eq-or-lt_of_le}
use Rattle.std.proofs.lemmas.Bool.{or_parts}
use Rattle.std.proofs.lemmas.Bool.Decides.{nat_tests}
use Rattle.std.proofs.lemmas.List.{map-append, append-nil, length-map}
use Rattle.std.proofs.lemmas.List.Elements.{filter_more}
use Rattle.std.proofs.lemmas.List.Filters.{length-filter_both}
use Rattle.std.proofs.lemmas.List.Sums.{length-filter}
use Rattle.fx_fixed.specs.Chain.{map_chain, refuse}
use Rattle.fx_cmap.specs.Lookup.{glyph_for}
use Rattle.fx_cmap.specs.declared.mapping.Mapping.{Mapping}
use Rattle.fx_request.specs.declared.refusal.Refusal.TheVariants.{BadChars}
use Rattle.fx_request.specs.Limits.{max_characters}
use Rattle.fx_request.proofs.Rising.{length_rising, small_rising}
use Rattle.fx_strike.specs.Strike.{Setting, checked_chars, fates_of, is_missing, rising, max_code, Refusal, OnRefused}
use Rattle.fx_strike.specs.inner.Mapping.{fates_in, lacks, mapped_at, mapped_fate_of, mapped_of, Mapped}
use Rattle.fx_strike.specs.inner.Surveying.{AreChars}
use Rattle.fx_strike.specs.inner.Writing.{AreMapped}

-- ---- characters within their limits

pub chars_pass : (chars : List ℕ) → checked_chars chars ≡ Ok tt → AreChars chars
unfolding checked_chars
chars_pass chars h = by_tests (nat_lt max_characters (length chars)) (list_any (nat_lt max_code) chars) refl refl h
  where
    by_tests : (a b : Bool) → nat_lt max_characters (length chars) ≡ a → list_any (nat_lt max_code) chars ≡ b
        → ◌≡◌ {A = Result (Unit {0}) Refusal} (refuse (a || b) BadChars) (Ok tt) → AreChars chars
    by_tests false false e f h = record { few = grind (arith, nat_tests); small = f }
    by_tests false true e f h = absurd (cc)
    by_tests true b e f h = absurd (cc)

-- ---- rising code points

-- none is above a later one
pub rising_on : (codes : List ℕ) → IsStrictlyIncreasing codes → (i j : ℕ) → i ≤ j → j < length codes
    → get_or codes i 0 ≤ get_or codes j 0
rising_on codes h i zero p l = let e : i ≡ 0 = omega arith in rw e (omega arith)
rising_on codes h i (suc j) p l =
    elim (eq-or-lt_of_le p) [
      | inl e ↦ rw e (omega arith)
      | inr q ↦ further codes i j (rising_on codes h i j (omega arith) (omega arith)) (h j (omega arith))
    ]
  where
    further : (codes : List ℕ) (i j : ℕ) → get_or codes i 0 ≤ get_or codes j 0 → get_or codes j 0 < get_or codes (j + 1) 0
        → get_or codes i 0 ≤ get_or codes (suc j) 0
    further codes i j a b =
        let e : j + 1 ≡ suc j = omega arith in
        let P : ℕ → Type 0 = λ n. get_or codes i 0 ≤ get_or codes n 0 in subst P e (omega arith)

-- ---- one code point more

module _ (table : Mapping) (codes : List ℕ) where
  -- those that have a glyph, with one more code point
  more_by : (k : ℕ) (b : Bool) → k < length codes → lacks table (get_or codes k 0) ≡ b
      → mapped_of table (take (k + 1) codes)
      ≡ mapped_of table (take k codes) ++ map (mapped_at table) (cond (not b) (get_or codes k 0 ∷ []) [])
  more_by k b l h =
      ap (map (mapped_at table)) (filter_more (λ c. not (lacks table c)) codes k 0 l
      ∙ ap (λ (x : Bool). filter (λ c. not (lacks table c)) (take k codes) ++ cond (not x) (get_or codes k 0 ∷ []) []) h)
      ∙ map-append (mapped_at table) (filter (λ c. not (lacks table c)) (take k codes)) (cond (not b) (get_or codes k 0 ∷ []) [])

  -- it has none
  mapped_past : (k : ℕ) → k < length codes → glyph_for table (get_or codes k 0) ≡ 0
      → mapped_of table (take (k + 1) codes) ≡ mapped_of table (take k codes)
  mapped_past k l e = more_by k true l (ap (λ (g : ℕ). g == 0) e) ∙ append-nil (mapped_of table (take k codes))

  -- some that have none
  mapped_until : (from to : ℕ) → from ≤ to → to ≤ length codes
      → ((i : ℕ) → from ≤ i → i < to → glyph_for table (get_or codes i 0) ≡ 0)
      → mapped_of table (take to codes) ≡ mapped_of table (take from codes)
  mapped_until from zero p l h = let e : from ≡ 0 = omega arith in rw e refl
  mapped_until from (suc to) p l h =
      elim (eq-or-lt_of_le p) [
        | inl e ↦ rw e refl
        | inr q ↦
            let e : suc to ≡ to + 1 = omega arith in
            ap (λ (n : ℕ). mapped_of table (take n codes)) e
            ∙ mapped_past to (omega arith) (h to (omega arith) (omega arith))
            ∙ mapped_until from to (omega arith) (omega arith) (λ i a b. h i a (omega arith))
      ]

  -- those of a run in a gap
  pub mapped_run : (from to end : ℕ) → IsStrictlyIncreasing codes → from < to → to ≤ length codes
      → glyph_for table (get_or codes from 0) ≡ 0
      → ((c : ℕ) → get_or codes from 0 ≤ c → c < end → glyph_for table c ≡ 0)
      → ((i : ℕ) → from < i → i < to → get_or codes i 0 < end)
      → mapped_of table (take to codes) ≡ mapped_of table (take from codes)
  mapped_run from to end rise p l first gap below = mapped_until from to (omega arith) l each
    where
      each : (i : ℕ) → from ≤ i → i < to → glyph_for table (get_or codes i 0) ≡ 0
      each i a b =
          elim (eq-or-lt_of_le a) [
            | inl e ↦ rw (sym e) first
            | inr q ↦ gap (get_or codes i 0) (rising_on codes rise from i a (omega arith)) (below i q b)
          ]

-- ---- all of them

-- no more than there are code points
few_mapped : (table : Mapping) (codes : List ℕ) → length (mapped_of table codes) + count_by (lacks table) codes ≡ length codes
few_mapped table codes =
    let others = filter (λ c. not (lacks table c)) codes in
    omega (
      arith,
      length-map others (mapped_at table),
      length-filter (lacks table) codes,
      length-filter_both (lacks table) (λ c. not (lacks table c)) (λ c. refl) codes,
    )

-- the others are counted
pub others_counted : (table : Mapping) (chars codes : List ℕ) (mapped : List Mapped) (n m : ℕ) → codes ≡ rising chars
    → mapped ≡ mapped_of table codes → n ≡ length codes → m ≡ length mapped → m + count_by (lacks table) (rising chars) ≡ n
others_counted table chars codes mapped n m e f g h =
    omega (arith, g, h, ap length f, few_mapped table codes, ap (count_by (lacks table)) e)

-- none is past the limit if no code point is
small_mapped : (table : Mapping) (codes : List ℕ) → list_any (nat_lt max_code) codes ≡ false
    → list_any (λ m. nat_lt max_code m.code) (mapped_of table codes) ≡ false
small_mapped table [] h = refl
small_mapped table (c ∷ cs) h =
    let p = or_parts (nat_lt max_code c) (list_any (nat_lt max_code) cs) h in
    by_first (lacks table c) refl p.0 (small_mapped table cs p.1)
  where
    by_first : (b : Bool) → lacks table c ≡ b → nat_lt max_code c ≡ false
        → list_any (λ m. nat_lt max_code m.code) (mapped_of table cs) ≡ false
        → list_any (λ m. nat_lt max_code m.code) (mapped_of table (c ∷ cs)) ≡ false
    by_first true e here more = rw e more
    by_first false e here more = rw (e, here) more

-- the characters of a strike are within the limits
pub mapped_within : (table : Mapping) {chars : List ℕ} {mapped : List Mapped} → AreChars chars
    → mapped ≡ mapped_of table (rising chars) → AreMapped mapped
mapped_within table {chars} {mapped} h e =
    let P : List Mapped → Type 0 = λ xs. AreMapped xs in subst P (sym e) (record {
      few = omega (arith, h.few, length_rising chars, few_mapped table (rising chars));
      small = small_mapped table (rising chars) (small_rising (nat_lt max_code) chars (rising chars) refl h.small);
    })

-- ---- what becomes of them

chain_map : {A B C : Type 0} (f : B → Result C Refusal) (g : A → B) (xs : List A)
    → map_chain f (map g xs) ≡ map_chain (λ x. f (g x)) xs
chain_map f g [] = refl
chain_map f g (x ∷ xs) = rw (chain_map f g xs) refl

pub fates_are : (setting : Setting) (refused : OnRefused) (codes : List ℕ)
    → fates_in setting refused (mapped_of setting.map codes) ≡ fates_of setting refused codes
fates_are setting refused codes =
    chain_map (mapped_fate_of setting refused) (mapped_at setting.map) (filter (λ c. not (is_missing setting c)) codes)

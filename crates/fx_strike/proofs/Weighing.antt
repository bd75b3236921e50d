-- The characters that take too much work are found one after the other, as the definition says: `over_next`.
-- Serves the census, the code points that it finds, and the machine whose work is bounded.
use Rattle.std.proofs.Common.{◌≡◌, refl, sym, ap, ◌∙◌, arith, ℕ, ◌+◌, ◌-◌, ◌<◌, ◌≤◌, true, false}
use Rattle.std.proofs.Common.{List, [], ◌∷◌, ◌++◌, length, drop, get_or, map, Option, Some, None, Result}
use Rattle.std.proofs.Common.{Ok, Err, append_assoc, append-nil}
use Rattle.std.specs.Prelude.{◌==◌, not, filter, is_none, is_ok, unwrap_or, All, if◌then◌else◌}
use Rattle.std.specs.List.{list_any}
use Rattle.std.specs.List.Sorted.{IsStrictlyIncreasing, IsBinarySearchResult}
use Rattle.std.specs.Ordering.{nat_cmp}
use Rattle.std.proofs.lemmas.Bool.Decides.{nat_tests}
use Rattle.std.proofs.lemmas.List.{drop_all, drop_more, get_or-map, length-map}
use Rattle.std.proofs.lemmas.List.Elements.{All-from_get_or, All-push}
use Rattle.std.proofs.lemmas.List.Folds.{list_any_at, list_any_none}
use Rattle.std.proofs.lemmas.List.Kept.{IsStrictlyIncreasing-filter}
use Rattle.std.proofs.lemmas.List.Sorted.{searched}
use Rattle.fx_cmap.specs.declared.mapping.Mapping.{Mapping}
use Rattle.fx_strike.specs.Careful.{Budget, after_drawing, after_programs, filled, over_in, programs_for, weighed}
use Rattle.fx_strike.specs.Characters.{lacks, mapped_at, mapped_of, Mapped}
use Rattle.fx_strike.specs.Strike.{Setting, bounded, OnRefused}
use Rattle.fx_strike.specs.inner.Mapping.{mapped_in}
use Rattle.fx_strike.specs.inner.Weighing.{AreRising}
use Rattle.fx_strike.proofs.Mapping.{rising_on}

-- ---- code points in rising order

-- all are still below another with one more
pub below_on : (xs : List ℕ) (x n : ℕ) → All (λ c. c < n) xs → x < n → All (λ c. c < n) (xs ++ x ∷ [])
below_on xs x n h l = All-push (λ c. c < n) xs x h l

-- one is found by halving exactly if it is there
pub found_is : (xs : List ℕ) (code : ℕ) (r : Result ℕ ℕ) → IsStrictlyIncreasing xs → IsBinarySearchResult (λ y. nat_cmp y code) xs r
    → is_ok r ≡ list_any (λ c. c == code) xs
found_is xs code (Ok i) h s =
    let f = searched xs code (Ok i) s (rising_on xs h) in
    sym (list_any_at (λ c. c == code) xs i 0 f.0 (grind (arith, f.1, nat_tests)))
found_is xs code (Err i) h s =
    let f = searched xs code (Err i) s (rising_on xs h) in
    let each : (k : ℕ) → k < length xs → (get_or xs k 0 == code) ≡ false = λ k l. grind (arith, f, l, nat_tests) in
    sym (list_any_none (λ c. c == code) xs (All-from_get_or (λ c. (c == code) ≡ false) xs 0 each))

-- ---- characters in rising order

pub mapped_rise : (table : Mapping) (codes : List ℕ) → IsStrictlyIncreasing codes → AreRising (mapped_of table codes)
mapped_rise table codes h i j p l =
    let xs = filter (λ c. not (lacks table c)) codes in
    let rise = IsStrictlyIncreasing-filter (λ c. not (lacks table c)) codes h in
    let few : j < length xs = omega (arith, l, length-map xs (mapped_at table)) in
    let code : (k : ℕ) → k < length xs → (mapped_in (map (mapped_at table) xs) k).code ≡ get_or xs k 0 =
    λ k m. ap (λ (x : Mapped). x.code) (get_or-map (mapped_at table) xs k 0 (record { code = 0; glyph = 0 }) m) in
    omega (
      arith,
      code i (omega (arith, p, few)),
      code j few,
      rise i (omega (arith, p, few)),
      rising_on xs rise (i + 1) j (omega (arith, p)) few,
    )

-- ---- one character more

module _ (programs : ℕ → ℕ → Option ℕ) (drawing : Mapped → ℕ) where
  -- those of the characters from one on
  pub over_next : (mapped : List Mapped) (i : ℕ) (b : Budget) → i < length mapped
      → over_in programs drawing (drop i mapped) b
      ≡ (if (weighed programs drawing (mapped_in mapped i) b).0 then (mapped_in mapped i).code ∷ [] else [])
      ++ over_in programs drawing (drop (i + 1) mapped) (weighed programs drawing (mapped_in mapped i) b).1
  unfolding over_in
  over_next mapped i b l =
      ap (λ (ms : List Mapped). over_in programs drawing ms b) (drop_more mapped i (record { code = 0; glyph = 0 }) l)

  -- those before one, and then those from it on, are all
  abbrev pub AreOver : List Mapped → Budget → ℕ → List ℕ → Budget → Type 0
  AreOver mapped all i over b = over_in programs drawing mapped all ≡ over ++ over_in programs drawing (drop i mapped) b

  pub over_more : (mapped : List Mapped) (all : Budget) (i : ℕ) (over : List ℕ) (b now : Budget) → i < length mapped
      → AreOver mapped all i over b → weighed programs drawing (mapped_in mapped i) b ≡ (true, now)
      → AreOver mapped all (i + 1) (over ++ (mapped_in mapped i).code ∷ []) now
  over_more mapped all i over b now l h w =
      h ∙ ap (λ (cs : List ℕ). over ++ cs) (rw w at (over_next mapped i b l)) ∙ sym (append_assoc over _ _)

  pub over_same : (mapped : List Mapped) (all : Budget) (i : ℕ) (over : List ℕ) (b now : Budget) → i < length mapped
      → AreOver mapped all i over b → weighed programs drawing (mapped_in mapped i) b ≡ (false, now)
      → AreOver mapped all (i + 1) over now
  over_same mapped all i over b now l h w = h ∙ ap (λ (cs : List ℕ). over ++ cs) (rw w at (over_next mapped i b l))

  -- behind the last one
  pub all_over : (mapped : List Mapped) (all : Budget) (i : ℕ) (over : List ℕ) (b : Budget) → length mapped ≤ i
      → AreOver mapped all i over b → over_in programs drawing mapped all ≡ over
  unfolding over_in
  all_over mapped all i over b l h =
      h ∙ ap (λ (ms : List Mapped). over ++ over_in programs drawing ms b) (drop_all i mapped l) ∙ append-nil over

  -- a character whose programs take too much
  pub weighed_over : (m : Mapped) (b full : Budget) (most taken : ℕ) (left : Option ℕ) → full ≡ filled b → most ≡ programs_for full
      → left ≡ programs m.glyph most → taken ≡ most - unwrap_or left 0 → is_none left ≡ true
      → weighed programs drawing m b ≡ (true, record full { programs = full.programs - taken })
  unfolding weighed
  weighed_over m b full most taken None u f l t n =
      let none : programs m.glyph (programs_for full) ≡ None = ap (programs m.glyph) (sym f) ∙ sym l in
      let same : taken ≡ programs_for full = omega (arith, t, f) in
      ap (λ (f : Budget). after_programs (programs m.glyph (programs_for f)) (drawing m) f) (sym u) ∙ rw (none, same) refl
  weighed_over m b full most taken (Some x) u f l t n = absurd (cc (n))

  -- and one that is drawn
  pub weighed_drawn : (m : Mapped) (b full : Budget) (most taken : ℕ) (left : Option ℕ) → full ≡ filled b → most ≡ programs_for full
      → left ≡ programs m.glyph most → taken ≡ most - unwrap_or left 0 → is_none left ≡ false
      → weighed programs drawing m b ≡ after_drawing (drawing m) (record full { programs = full.programs - taken })
  unfolding weighed
  weighed_drawn m b full most taken (Some x) u f l t n =
      let some : programs m.glyph (programs_for full) ≡ Some x = ap (programs m.glyph) (sym f) ∙ sym l in
      let same : taken ≡ programs_for full - x = t ∙ ap (λ (n : ℕ). n - x) f in
      ap (λ (f : Budget). after_programs (programs m.glyph (programs_for f)) (drawing m) f) (sym u) ∙ rw (some, same) refl
  weighed_drawn m b full most taken None u f l t n = absurd (cc (n))

-- ---- the setting of one call

-- it is the one before with other code points
pub is_bounded : (s now : Setting) (over due : List ℕ) → now ≡ s → over ≡ due
    → record now { over = over } ≡ record s { over = due }
is_bounded s now over due e f =
    ap (λ (x : Setting). record x { over = over }) e ∙ ap (λ (o : List ℕ). record s { over = o }) f

-- and it is the same again afterwards
pub restored : (s now : Setting) (refused : OnRefused) (mapped : List Mapped) (before : List ℕ) → now ≡ bounded s refused mapped
    → before ≡ s.over → record now { over = before } ≡ s
unfolding bounded
restored s now refused mapped before e f =
    ap (λ (x : Setting). record x { over = before }) e ∙ ap (λ (o : List ℕ). record s { over = o }) f

-- without bounds all characters are alike
pub unbounded : (s : Setting) (refused : OnRefused) (some mapped : List Mapped) → s.careful ≡ false
    → bounded s refused some ≡ bounded s refused mapped
unfolding bounded
unbounded s refused some mapped e = rw e refl

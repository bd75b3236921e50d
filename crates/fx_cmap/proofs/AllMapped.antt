-- The codes with a glyph, put one after the other, are all characters of the map: `filled_all`.
-- Serves `mapped_below`.
use Rattle.std.proofs.Common.{◌≡◌, ◌∙◌, ◌⊎◌, inl, inr, refl, sym, ap, subst, arith, ℕ, zero, suc, ◌+◌, ◌-◌, ◌==◌, ◌<◌, ◌≤◌, nat_le}
use Rattle.std.proofs.Common.{Bool, true, false, List, [], ◌∷◌, ◌++◌, length, take, drop, set, length-append, add-one, add-zero}
use Rattle.std.proofs.Common.{if◌then◌else◌}
use Rattle.std.proofs.lemmas.Bool.Decides.{nat_tests}
use Rattle.std.proofs.lemmas.Bool.{eq-eqb, ne_eqb}
use Rattle.std.proofs.lemmas.List.{length-set, set_past, take-append-le, take_all, take_more_set, drop_all, drop-drop, drop-set-lt}
use Rattle.fx_cmap.specs.Lookup.{glyph_for}
use Rattle.fx_cmap.specs.declared.mapping.Mapping.{Mapping}
use Rattle.fx_cmap.specs.Mapped.{mapped_below}

-- ---- a code more

abbrev next_by : Bool → List ℕ → ℕ → List ℕ
next_by b codes n = if b then codes else codes ++ n ∷ []

mapped_next : (map : Mapping) (n : ℕ) → mapped_below map (n + 1) ≡ next_by (glyph_for map n == 0) (mapped_below map n) n
unfolding mapped_below
mapped_next map n = rw (add-one n) refl

-- it has no glyph, or it has one
mapped_none : (map : Mapping) (n : ℕ) → glyph_for map n ≡ 0 → mapped_below map (n + 1) ≡ mapped_below map n
mapped_none map n e =
    mapped_next map n ∙ ap (λ (b : Bool). next_by b (mapped_below map n) n) (eq-eqb (glyph_for map n) 0 e)

pub mapped_some : (map : Mapping) (n : ℕ) → (glyph_for map n ≡ 0 → ⊥) → mapped_below map (n + 1) ≡ mapped_below map n ++ n ∷ []
mapped_some map n h =
    mapped_next map n ∙ ap (λ (b : Bool). next_by b (mapped_below map n) n) (ne_eqb (glyph_for map n) 0 h)

-- many have none
none_from : (map : Mapping) (n k : ℕ) → ((c : ℕ) → n ≤ c → c < n + k → glyph_for map c ≡ 0)
    → mapped_below map (n + k) ≡ mapped_below map n
none_from map n zero h = ap (mapped_below map) (add-zero n)
none_from map n (suc k) h =
    let e : n + suc k ≡ n + k + 1 = omega arith in
    ap (mapped_below map) e ∙ mapped_none map (n + k) (h (n + k) (omega arith) (omega arith))
    ∙ none_from map n k (λ c l s. h c l (omega arith))

mapped_gap : (map : Mapping) (n m : ℕ) → n ≤ m → ((c : ℕ) → n ≤ c → c < m → glyph_for map c ≡ 0)
    → mapped_below map m ≡ mapped_below map n
mapped_gap map n m l h =
    let e : n + (m - n) ≡ m = omega arith in
    ap (mapped_below map) (sym e) ∙ none_from map n (m - n) (λ c low high. h c low (omega arith))

-- after a code without a glyph, and a gap
pub mapped_after : (map : Mapping) (code gap next : ℕ) → glyph_for map code ≡ 0
    → ((k : ℕ) → code + 1 ≤ k → k < gap → glyph_for map k ≡ 0) → code < next → (next ≤ gap) ⊎ (next ≡ code + 1)
    → mapped_below map next ≡ mapped_below map code
mapped_after map code gap next z h l (inl within) =
    mapped_gap map (code + 1) next (omega arith) (λ k low high. h k low (omega arith)) ∙ mapped_none map code z
mapped_after map code gap next z h l (inr e) = ap (mapped_below map) e ∙ mapped_none map code z

-- ---- a buffer

-- as much of a list as fits is at the front of a buffer, and what lies after it is as it was
pub record Fills (whole old new : List ℕ) : Type 0 where
  pub same : length new ≡ length old
  pub front : take (length whole) new ≡ take (length old) whole
  pub rest : drop (length whole) new ≡ drop (length whole) old

more_within : (whole old new : List ℕ) (c : ℕ) → Fills whole old new → length whole < length new
    → Fills (whole ++ c ∷ []) old (set new (length whole) c)
more_within whole old new c h room =
    let long : length (whole ++ c ∷ []) ≡ length whole + 1 = length-append whole (c ∷ []) in
    let fits = h.same in
    record {
      same = length-set new (length whole) c ∙ h.same;
      front =
          ap (λ (n : ℕ). take n (set new (length whole) c)) long ∙ take_more_set new (length whole) c room
          ∙ ap (λ (xs : List ℕ). xs ++ c ∷ []) (h.front ∙ take_all (length old) whole (omega (arith, fits, room)))
          ∙ sym (take_all (length old) (whole ++ c ∷ []) (omega (arith, long, fits, room)));
      rest =
          ap (λ (n : ℕ). drop n (set new (length whole) c)) long
          ∙ drop-set-lt (length whole + 1) new (length whole) c (omega arith)
          ∙ sym (drop-drop 1 (length whole) new) ∙ ap (drop 1) h.rest ∙ drop-drop 1 (length whole) old
          ∙ ap (λ (n : ℕ). drop n old) (sym long);
    }

more_past : (whole old new : List ℕ) (c : ℕ) → Fills whole old new → length new ≤ length whole
    → Fills (whole ++ c ∷ []) old (set new (length whole) c)
more_past whole old new c h full =
    let long : length (whole ++ c ∷ []) ≡ length whole + 1 = length-append whole (c ∷ []) in
    let kept = set_past new (length whole) c full in
    let fits = h.same in
    record {
      same = length-set new (length whole) c ∙ h.same;
      front =
          ap (take (length (whole ++ c ∷ []))) kept
          ∙ take_all (length (whole ++ c ∷ [])) new (omega (arith, long, full))
          ∙ sym (take_all (length whole) new full) ∙ h.front
          ∙ sym (take-append-le (length old) whole (c ∷ []) (omega (arith, fits, full)));
      rest =
          drop_all (length (whole ++ c ∷ [])) (set new (length whole) c)
          (omega (arith, long, full, length-set new (length whole) c))
          ∙ sym (drop_all (length (whole ++ c ∷ [])) old (omega (arith, long, fits, full)));
    }

-- one more
pub fills_more : (whole old new : List ℕ) (c : ℕ) → Fills whole old new → Fills (whole ++ c ∷ []) old (set new (length whole) c)
fills_more whole old new c h = by_room (nat_le (length new) (length whole)) refl
  where
    by_room : (b : Bool) → nat_le (length new) (length whole) ≡ b → Fills (whole ++ c ∷ []) old (set new (length whole) c)
    by_room true e = more_past whole old new c h (grind (arith, nat_tests))
    by_room false e = more_within whole old new c h (grind (arith, nat_tests))

pub fills_none : (old : List ℕ) → Fills [] old old
fills_none old = record { same = refl; front = sym (take_all (length old) [] (omega arith)); rest = refl }

-- ---- the loop

-- a code with a glyph was put into its place
pub filled_some : (map : Mapping) (code count : ℕ) (old so_far new : List ℕ) → (glyph_for map code ≡ 0 → ⊥)
    → count ≡ length (mapped_below map code) → Fills (mapped_below map code) old so_far → new ≡ set so_far count code
    → (count + 1 ≡ length (mapped_below map (code + 1))) × Fills (mapped_below map (code + 1)) old new
filled_some map code count old so_far new h counted filled is =
    let some = sym (mapped_some map code h) in (
      ap (λ (n : ℕ). n + 1) counted ∙ sym (length-append (mapped_below map code) (code ∷ [])) ∙ ap length some,
      subst (λ (xs : List ℕ). Fills xs old new) some
          (subst (λ (xs : List ℕ). Fills (mapped_below map code ++ code ∷ []) old xs)
          (ap (λ (n : ℕ). set so_far n code) (sym counted) ∙ sym is)
          (fills_more (mapped_below map code) old so_far code filled)),
    )

-- those below the last code that was looked at are all
pub filled_all : (map : Mapping) (code end count : ℕ) (old new : List ℕ) → code ≡ end → count ≡ length (mapped_below map code)
    → Fills (mapped_below map code) old new
    → (count ≡ length (mapped_below map end)) × (take count new ≡ take (length old) (mapped_below map end))
    × (drop count new ≡ drop count old)
filled_all map code end count old new is counted filled = (
  counted ∙ ap (λ (n : ℕ). length (mapped_below map n)) is,
  ap (λ (n : ℕ). take n new) counted ∙ filled.front ∙ ap (λ (n : ℕ). take (length old) (mapped_below map n)) is,
  ap (λ (n : ℕ). drop n new) counted ∙ filled.rest ∙ ap (λ (n : ℕ). drop n old) (sym counted),
)

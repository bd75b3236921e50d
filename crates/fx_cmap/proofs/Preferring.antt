-- A candidate that has a subtable is passed over only for those before it: `gives_way`.
-- It serves the law `preferences`.
use Rattle.std.proofs.Common.{◌≡◌, ℕ, zero, suc, ◌<◌, Bool, true, false, List, [], ◌∷◌, ◌++◌, length, drop, refl, sym, ap, ◌∙◌, subst, arith}
use Rattle.std.proofs.Common.{Option, Some, None, option_map, slice_index_or, inl, inr}
use Rattle.std.specs.Prelude.{IsSome}
use Rattle.std.specs.Option.{option_or}
use Rattle.std.specs.List.{find}
use Rattle.fx_sfnt.specs.Fields.{field}
use Rattle.fx_sfnt.specs.Tables.{records}
use Rattle.fx_cmap.specs.declared.candidates.Candidate.{Candidate}
use Rattle.fx_cmap.specs.declared.candidates.Format.{Format}
use Rattle.fx_cmap.specs.Lookup.{is_record_of, first_subtable_of, chosen_of}
use Rattle.fx_cmap.specs.Preferences.{Has, IsFirstOf}

-- what is listed and passes a test is found
found_by : {X : Type 0} (p : X → Bool) (y : X) (ys : List X) (b : Bool) → p y ≡ b → (b ≡ false → IsSome (find p ys))
    → IsSome (find p (y ∷ ys))
found_by p y ys true h more = rw h refl
found_by p y ys false h more = rw h (more refl)

found_at : {X : Type 0} (p : X → Bool) (xs : List X) (k : ℕ) (x : X) → k < length xs → slice_index_or xs k x ≡ x → p x ≡ true
    → IsSome (find p xs)
found_at p [] k x lt e t = absurd (omega (arith, lt))
found_at p (y ∷ ys) zero x lt e t = rw (ap p e ∙ t) refl
found_at p (y ∷ ys) (suc k) x lt e t = found_by p y ys (p y) refl (λ _. found_at p ys k x (omega (arith, lt)) e t)

mapped : {X Y : Type 0} (f : X → Y) (o : Option X) → IsSome o → IsSome (option_map f o)
mapped f (Some x) s = refl
mapped f None s = absurd cc

has_first : (cmap : List ℕ) (c : Candidate) → Has cmap c → IsSome (first_subtable_of cmap c)
has_first cmap c h =
    let entries = records 8 (field 2 cmap 2) (drop 4 cmap) in
    mapped (λ entry. (c.format, field 4 entry 4)) (find (is_record_of c cmap) entries)
    (found_at (is_record_of c cmap) entries h.there.0 h.entry h.there.1 h.there.2 h.is)

-- ---- the first candidate with a subtable

-- the first candidate has one
some_first : (cmap : List ℕ) (c : Candidate) (rest f : Option (Format × ℕ)) (kinds : List Candidate) → first_subtable_of cmap c ≡ f
    → IsSome f → IsFirstOf cmap (option_or (first_subtable_of cmap c) rest) (c ∷ kinds)
some_first cmap c rest (Some x) kinds e s = inl (rw e (refl, refl))
some_first cmap c rest None kinds e s = absurd cc

-- or one after it
by_first : (cmap : List ℕ) (c : Candidate) (rest f : Option (Format × ℕ)) (kinds : List Candidate) → first_subtable_of cmap c ≡ f
    → IsFirstOf cmap rest kinds → IsFirstOf cmap (option_or (first_subtable_of cmap c) rest) (c ∷ kinds)
by_first cmap c rest (Some x) kinds e more = some_first cmap c rest (Some x) kinds e refl
by_first cmap c rest None kinds e more =
    let P : Option (Format × ℕ) → Type 0 = λ o. IsFirstOf cmap (option_or o rest) kinds in inr (subst P (sym e) more)

pub gives_way : (cmap : List ℕ) (better : List Candidate) (c : Candidate) (worse : List Candidate) → Has cmap c
    → IsFirstOf cmap (chosen_of cmap (better ++ c ∷ worse)) (better ++ c ∷ [])
gives_way cmap [] c worse h = some_first cmap c (chosen_of cmap worse) (first_subtable_of cmap c) [] refl (has_first cmap c h)
gives_way cmap (b ∷ bs) c worse h =
    by_first cmap b (chosen_of cmap (bs ++ c ∷ worse)) (first_subtable_of cmap b) (bs ++ c ∷ []) refl (gives_way cmap bs c worse h)

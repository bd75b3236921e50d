-- The place of values, a value and an axis at a time, as `values_on` and `filled_on` say.
-- For `check_values` and `fill`.
use Rattle.std.proofs.Common.{◌≡◌, ℕ, zero, suc, ◌+◌, ◌-◌, ◌<◌, ◌≤◌, ℤ, List, [], ◌∷◌, ◌++◌, length, take, drop, set, get_or}
use Rattle.std.proofs.Common.{Option, None, Some}
use Rattle.std.proofs.Common.{Result, Ok, Err, refl, sym, ap, ◌∙◌, arith, add-one, append_assoc, true}
use Rattle.std.proofs.Math.Seq.{take-suc, drop-cons}
use Rattle.std.proofs.lemmas.List.{append-nil, take_all, drop_all}
use Rattle.fx_fixed.specs.Chain.{◌>>=◌, map_ok}
use Rattle.fx_axes.specs.declared.fault.AxesFault.{AxesFault}
use Rattle.fx_axes.specs.declared.records.AxisValue.{AxisValue}
use Rattle.fx_axes.specs.Fvar.{axis_of}
use Rattle.fx_axes.specs.Avar.{AreMaps, IsMap}
use Rattle.std.specs.List.{All}
use Rattle.std.proofs.lemmas.List.Elements.{All-push}
use Rattle.fx_axes.specs.Places.{IsNormalized, check_value, check_values, coordinate_of, maps_after, coordinates_from}
use Rattle.fx_axes.proofs.Maps.{maps_on, first_map}

-- ---- tags

values_at : (fvar : List ℕ) (before values : List AxisValue) (v : AxisValue)
    → check_values fvar before (v ∷ values) ≡ (check_value fvar before v >>= λ _. check_values fvar (before ++ v ∷ []) values)
unfolding check_values
values_at fvar before values v = refl

module _ (fvar : List ℕ) (values : List AxisValue) (k : ℕ) (v : AxisValue) (t : Result (Unit {0}) AxesFault)
    (h : k < length values)
    (at : v ≡ get_or values k v) (s : check_values fvar (take k values) (drop k values) ≡ t) where
  front : drop k values ≡ v ∷ drop (k + 1) values
  front = drop-cons values k v h ∙ ap (λ (w : AxisValue). w ∷ drop (suc k) values) (sym at)
      ∙ ap (λ (n : ℕ). v ∷ drop n values) (sym (add-one k))

  next : (check_value fvar (take k values) v >>= λ _. check_values fvar (take k values ++ v ∷ []) (drop (k + 1) values)) ≡ t
  next = sym (values_at fvar (take k values) (drop (k + 1) values) v) ∙ ap (check_values fvar (take k values)) (sym front) ∙ s

  pub values_on : check_value fvar (take k values) v ≡ Ok tt → check_values fvar (take (k + 1) values) (drop (k + 1) values) ≡ t
  values_on e =
      let more : take (k + 1) values ≡ take k values ++ v ∷ [] =
      ap (λ (n : ℕ). take n values) (add-one k) ∙ take-suc values k v h
      ∙ ap (λ (w : AxisValue). take k values ++ w ∷ []) (sym at) in
      ap (λ (b : List AxisValue). check_values fvar b (drop (k + 1) values)) more
      ∙ ap (λ (r : Result (Unit {0}) AxesFault). r
      >>= λ _. check_values fvar (take k values ++ v ∷ []) (drop (k + 1) values)) (sym e) ∙ next

  pub values_off : (f : AxesFault) → check_value fvar (take k values) v ≡ Err f → Err f ≡ t
  values_off f e =
      ap (λ (r : Result (Unit {0}) AxesFault). r
      >>= λ _. check_values fvar (take k values ++ v ∷ []) (drop (k + 1) values)) (sym e) ∙ next

pub values_end : (fvar : List ℕ) (values : List AxisValue) (k : ℕ) (t : Result (Unit {0}) AxesFault) → length values ≤ k
    → check_values fvar (take k values) (drop k values) ≡ t → Ok tt ≡ t
unfolding check_values
values_end fvar values k t h s = sym (ap (check_values fvar (take k values)) (drop_all k values h)) ∙ s

-- ---- coordinates

coordinates_at : (fvar : List ℕ) (values : List AxisValue) (maps : Option (List ℕ)) (k n : ℕ)
    → coordinates_from fvar values maps k (suc n)
    ≡ (coordinate_of values maps (axis_of fvar k) >>= λ c. coordinates_from fvar values (maps_after maps) (suc k) n
    >>= λ cs. Ok (c ∷ cs))
unfolding coordinates_from
coordinates_at fvar values maps k n = refl

-- one more in front
fronted : (xs : List ℤ) (c : ℤ) (r : Result (List ℤ) AxesFault)
    → map_ok (λ cs. (xs ++ c ∷ []) ++ cs) r ≡ map_ok (λ cs. xs ++ cs) (r >>= λ cs. Ok (c ∷ cs))
fronted xs c (Ok cs) = ap Ok (append_assoc xs (c ∷ []) cs)
fronted xs c (Err e) = refl

taken : (xs : List ℤ) (k : ℕ) (c : ℤ) → k < length xs → take (suc k) (set xs k c) ≡ take k xs ++ c ∷ []
taken [] k c h = absurd (omega arith)
taken (x ∷ xs) zero c h = refl
taken (x ∷ xs) (suc k) c h = ap (λ (ys : List ℤ). x ∷ ys) (taken xs k c (omega arith))

module _ (fvar : List ℕ) (values : List AxisValue) (maps : Option (List ℕ)) (k n : ℕ) (xs : List ℤ) (t : Result (List ℤ) AxesFault)
    (h : k < n) (s : map_ok (λ cs. take k xs ++ cs) (coordinates_from fvar values maps k (n - k)) ≡ t) where
  left : n - k ≡ suc (n - (k + 1))
  left = omega (arith, h)

  begun : map_ok (λ cs. take k xs ++ cs) (coordinate_of values maps (axis_of fvar k)
      >>= λ c. coordinates_from fvar values (maps_after maps) (suc k) (n - (k + 1)) >>= λ cs. Ok (c ∷ cs)) ≡ t
  begun =
      sym (ap (map_ok (λ cs. take k xs ++ cs)) (ap (coordinates_from fvar values maps k) left
      ∙ coordinates_at fvar values maps k (n - (k + 1)))) ∙ s

  pub filled_off : (f : AxesFault) → coordinate_of values maps (axis_of fvar k) ≡ Err f → Err f ≡ t
  filled_off f e =
      sym (ap (λ (r : Result ℤ AxesFault). map_ok (λ cs. take k xs ++ cs)
      (r >>= λ c. coordinates_from fvar values (maps_after maps) (suc k) (n - (k + 1)) >>= λ cs. Ok (c ∷ cs))) e) ∙ begun

  pub filled_on : (c : ℤ) (ys : List ℤ) (next : Option (List ℕ)) → coordinate_of values maps (axis_of fvar k) ≡ Ok c
      → k < length xs
      → ys ≡ set xs k c → next ≡ maps_after maps
      → map_ok (λ cs. take (k + 1) ys ++ cs) (coordinates_from fvar values next (k + 1) (n - (k + 1))) ≡ t
  filled_on c ys next e room y m =
      let front : take (k + 1) ys ≡ take k xs ++ c ∷ [] =
      ap (λ (j : ℕ). take j ys) (add-one k) ∙ ap (take (suc k)) y ∙ taken xs k c room in
      ap (λ (zs : List ℤ). map_ok (λ cs. zs ++ cs) (coordinates_from fvar values next (k + 1) (n - (k + 1)))) front
      ∙ ap (λ (o : Option (List ℕ)). map_ok (λ cs. (take k xs ++ c ∷ []) ++ cs) (coordinates_from fvar values o (k + 1) (n -
      (k + 1)))) m
      ∙ ap (λ (j : ℕ). map_ok (λ cs. (take k xs ++ c ∷ []) ++ cs) (coordinates_from fvar values (maps_after maps) j (n -
      (k + 1)))) (add-one k)
      ∙ fronted (take k xs) c (coordinates_from fvar values (maps_after maps) (suc k) (n - (k + 1)))
      ∙ sym (ap (λ (r : Result ℤ AxesFault). map_ok (λ cs. take k xs ++ cs)
      (r >>= λ c. coordinates_from fvar values (maps_after maps) (suc k) (n - (k + 1)) >>= λ cs. Ok (c ∷ cs))) e) ∙ begun

pub filled_end : (fvar : List ℕ) (values : List AxisValue) (maps : Option (List ℕ)) (k n : ℕ) (xs : List ℤ)
    (t : Result (List ℤ) AxesFault) → n ≤ k → length xs ≡ n
    → map_ok (λ cs. take k xs ++ cs) (coordinates_from fvar values maps k (n - k)) ≡ t → Ok xs ≡ t
unfolding coordinates_from
filled_end fvar values maps k n xs t h e s =
    let none : n - k ≡ 0 = omega arith in
    let all : take k xs ≡ xs = take_all k xs (omega arith) in
    sym (ap Ok (append-nil (take k xs) ∙ all))
    ∙ sym (ap (λ (m : ℕ). map_ok (λ cs. take k xs ++ cs) (coordinates_from fvar values maps k m)) none) ∙ s

-- ---- within -1 and 1

pub within_on : (xs ys : List ℤ) (k : ℕ) (c : ℤ) → k < length xs → ys ≡ set xs k c → All IsNormalized (take k xs)
    → IsNormalized c → All IsNormalized (take (k + 1) ys)
within_on xs ys k c h y w b =
    let front : take (k + 1) ys ≡ take k xs ++ c ∷ [] =
    ap (λ (j : ℕ). take j ys) (add-one k) ∙ ap (take (suc k)) y ∙ taken xs k c h in
    rw front (All-push IsNormalized (take k xs) c w b)

pub within_end : (xs : List ℤ) (k n : ℕ) → n ≤ k → length xs ≡ n → All IsNormalized (take k xs) → All IsNormalized xs
within_end xs k n h e w =
    let all : take k xs ≡ xs = take_all k xs (omega arith) in
    rw all at w

-- ---- maps

pub first_of_maps : (k n : ℕ) (maps : Option (List ℕ)) → k < n → AreMaps (n - k) maps → IsMap maps
first_of_maps k n None h s = tt
first_of_maps k n (Some m) h s = first_map k n m h s

pub maps_of_others : (k n : ℕ) (maps next : Option (List ℕ)) → k < n → AreMaps (n - k) maps → next ≡ maps_after maps
    → AreMaps (n - (k + 1)) next
maps_of_others k n None next h s e = rw e tt
maps_of_others k n (Some m) next h s e = rw e (maps_on k n m _ true h (first_map k n m h s) refl s)

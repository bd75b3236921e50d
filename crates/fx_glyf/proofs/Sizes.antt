-- Deltas are complete exactly if there are as many bytes as their flags say: `deltas_fit`, `deltas_cut`.
-- For `measured`, `PointBytes::read` and the counts of a simple glyph.
use Rattle.std.proofs.Common.{◌≡◌, ℕ, zero, suc, ◌+◌, ◌-◌, ◌*◌, ◌<◌, ◌≤◌, min, List, [], ◌∷◌, length, drop, Option, Some, None}
use Rattle.std.proofs.Common.{Bool, true, false, cond, ◌⊎◌, inl, inr, refl, sym, ap, ◌∙◌, arith, length-drop, add_assoc, add-zero}
use Rattle.std.proofs.Common.{get_or}
use Rattle.std.proofs.lemmas.Bool.{cases_lt, lt-ltb, le-ltb}
use Rattle.std.proofs.lemmas.List.{drop-drop}
use Rattle.std.proofs.lemmas.Option.{same_Some}
use Rattle.std.specs.Prelude.{option_map, IsSome}
use Rattle.byteorder.specs.Endian.{big_number}
use Rattle.fx_glyf.specs.Words.{has, with_front, list_in, words}
use Rattle.fx_glyf.specs.Points.{x_short_vector, x_is_same_or_positive_x_short_vector, y_short_vector}
use Rattle.fx_glyf.specs.Points.{y_is_same_or_positive_y_short_vector, next_flag, flags_from, delta_by, delta_of, deltas_from}
use Rattle.fx_glyf.specs.Points.{start, repeat_flag}
use Rattle.fx_glyf.specs.inner.Sizes.{AreSizes, Measured, delta_size, deltas_size, measured_on}
use Rattle.fx_glyf.proofs.Held.{alone_at}
use Rattle.fx_glyf.proofs.Steps.{front_rest, flags_at, flags_short, deltas_at, deltas_short, deltas_done}

-- ---- the measure of flags, run by run

-- the bytes of the x delta and of the y delta of a flag
abbrev x_size : ℕ → ℕ
x_size f = delta_size x_short_vector x_is_same_or_positive_x_short_vector f

abbrev y_size : ℕ → ℕ
y_size f = delta_size y_short_vector y_is_same_or_positive_y_short_vector f

-- one flag more
measured_front : (xs ys f : ℕ) (o : Option (List ℕ × List ℕ))
    → measured_on xs ys (with_front f o) ≡ measured_on (xs + x_size f) (ys + y_size f) o
unfolding deltas_size
measured_front xs ys f None = refl
measured_front xs ys f (Some r) = simp add_assoc

-- m flags of a run, of which n points are left after them
measured_passed : (m n k r r' f : ℕ) (bytes : List ℕ) (xs ys xs' ys' : ℕ) → k ≡ m + n → r' ≡ m + r → xs' ≡ xs + m * x_size f
    → ys' ≡ ys + m * y_size f
    → measured_on xs' ys' (flags_from n (record { again = r; flag = f; bytes = bytes }))
    ≡ measured_on xs ys (flags_from k (record { again = r'; flag = f; bytes = bytes }))
unfolding flags_from next_flag
measured_passed zero n k r r' f bytes xs ys xs' ys' p q ex ey = grind arith
measured_passed (suc m) n k r r' f bytes xs ys xs' ys' p q ex ey =
    let p' : k ≡ suc (m + n) = omega arith in
    let q' : r' ≡ suc (m + r) = omega arith in
    let more = measured_passed m n (m + n) r (m + r) f bytes (xs + x_size f) (ys + y_size f) xs' ys' refl refl
    (omega arith) (omega arith) in
    rw (p', q') (more ∙ sym (measured_front xs ys f _))

-- no point or no flag of a run is left
run_ended : (n r f : ℕ) (bytes : List ℕ) → (n ≡ 0) ⊎ (r ≡ 0)
    → flags_from n (start bytes) ≡ flags_from n (record { again = r; flag = f; bytes = bytes })
unfolding flags_from next_flag
run_ended zero r f bytes h = refl
run_ended (suc n) r f [] (inl h) = absurd (omega arith)
run_ended (suc n) r f [] (inr h) = rw h refl
run_ended (suc n) r f (b ∷ []) (inl h) = absurd (omega arith)
run_ended (suc n) r f (b ∷ []) (inr h) = rw h refl
run_ended (suc n) r f (b ∷ (c ∷ bytes)) (inl h) = absurd (omega arith)
run_ended (suc n) r f (b ∷ (c ∷ bytes)) (inr h) = rw h refl

-- a whole run, or as much of it as there are points
pub measured_run : (n m p r f : ℕ) (bytes rest : List ℕ) (xs ys xs' ys' : ℕ)
    → Some (record { again = r; flag = f; bytes = rest }) ≡ next_flag (start bytes) → 0 < n → p ≡ min n (r + 1) → m ≡ n - p
    → xs' ≡ xs + p * x_size f → ys' ≡ ys + p * y_size f
    → measured_on xs' ys' (flags_from m (start rest)) ≡ measured_on xs ys (flags_from n (start bytes))
measured_run n m p r f bytes rest xs ys xs' ys' e h ep em ex ey =
    let one : p ≡ suc (p - 1) = omega arith in
    let over : (m ≡ 0) ⊎ (r - (p - 1) ≡ 0) = over_of n m p r h ep em in
    let ex' : xs' ≡ xs + x_size f + (p - 1) * x_size f = size_split p (p - 1) xs (x_size f) xs' one ex in
    let ey' : ys' ≡ ys + y_size f + (p - 1) * y_size f = size_split p (p - 1) ys (y_size f) ys' one ey in
    let passed = measured_passed (p - 1) m (n - 1) (r - (p - 1)) r f rest (xs + x_size f) (ys + y_size f) xs' ys'
    (omega arith) (omega arith) ex' ey' in
    ap (measured_on xs' ys') (run_ended m (r - (p - 1)) f rest over)
    ∙ passed
    ∙ sym (ap (measured_on xs ys) (flags_at n (n - 1) (start bytes) _ (omega arith) e) ∙ measured_front xs ys f _)
  where
    over_of : (n m p r : ℕ) → 0 < n → p ≡ min n (r + 1) → m ≡ n - p → (m ≡ 0) ⊎ (r - (p - 1) ≡ 0)
    over_of n m p r h ep em = elim (cases_lt r n) [ inl l ↦ inr (omega arith) | inr l ↦ inl (omega arith) ]

    size_split : (p q xs d xs' : ℕ) → p ≡ suc q → xs' ≡ xs + p * d → xs' ≡ xs + d + q * d
    size_split p q xs d xs' e h = omega (arith, ap (λ (k : ℕ). k * d) e)

-- one flag more that stands alone
pub one_measured : (bytes : List ℕ) (most at f x y x1 y1 : ℕ) → at < length bytes → at < most → f ≡ get_or bytes at 0
    → has f repeat_flag ≡ false → AreSizes f x1 y1 → Measured bytes most at x y → Measured bytes most (at + 1) (x + x1) (y + y1)
one_measured bytes most at f x y x1 y1 inside few e r s i left xs ys h =
    let ex = s.0 in
    let ey = s.1 in
    measured_run (left - at) (left - (at + 1)) 1 0 f (drop at bytes) (drop (at + 1) bytes) (xs + x) (ys + y) (xs + (x + x1))
    (ys + (y + y1))
    (ap (λ (g : ℕ). Some (record { again = 0; flag = g; bytes = drop (at + 1) bytes })) e
    ∙ alone_at bytes at inside (ap (λ (g : ℕ). has g repeat_flag) (sym e) ∙ r)) (omega (arith, few, h))
    (omega (arith, few, h)) (omega (arith, few, h)) (omega (arith, ex)) (omega (arith, ey))
    ∙ i left xs ys h

-- there is no further flag
pub measured_stopped : (n : ℕ) (bytes : List ℕ) (xs ys : ℕ) → None ≡ next_flag (start bytes) → 0 < n
    → None ≡ measured_on xs ys (flags_from n (start bytes))
measured_stopped n bytes xs ys e h =
    sym (ap (measured_on xs ys) (flags_short n (n - 1) (start bytes) (omega arith) e))

-- all flags were measured
pub measured_done : (n : ℕ) (bytes : List ℕ) (xs ys : ℕ) → n ≡ 0
    → Some (record { xs = xs; ys = ys; rest = bytes }) ≡ measured_on xs ys (flags_from n (start bytes))
unfolding flags_from deltas_size
measured_done n bytes xs ys h = rw h (simp add-zero)

-- ---- what a measure says

pub not_measured : (o : Option (List ℕ × List ℕ)) → None ≡ measured_on 0 0 o → None ≡ option_map (λ p. p.1) o
not_measured None e = refl
not_measured (Some p) e = absurd (cc)

pub record IsMeasured (o : Option (List ℕ × List ℕ)) (xs ys : ℕ) (rest : List ℕ) : Type 0 where
  pub after : Some rest ≡ option_map (λ p. p.1) o
  pub xs_are : xs ≡ deltas_size x_short_vector x_is_same_or_positive_x_short_vector (list_in o)
  pub ys_are : ys ≡ deltas_size y_short_vector y_is_same_or_positive_y_short_vector (list_in o)

pub is_measured : (o : Option (List ℕ × List ℕ)) (xs ys : ℕ) (rest : List ℕ)
    → Some (record { xs = xs; ys = ys; rest = rest }) ≡ measured_on 0 0 o → IsMeasured o xs ys rest
is_measured None xs ys rest e = absurd (cc)
is_measured (Some p) xs ys rest e = grind (arith, same_Some)

-- ---- deltas in bytes that suffice, or don't

size_by : Bool → Bool → ℕ
size_by short same = cond short 1 (cond same 0 2)

fits_by : (short same : Bool) (bytes : List ℕ) → size_by short same ≤ length bytes
    → (d : ℕ) × (Some (d, drop (size_by short same) bytes) ≡ delta_by short same bytes)
unfolding delta_by size_by
fits_by true same [] h = absurd (omega arith)
fits_by true same (b ∷ bytes) h = (_, refl)
fits_by false true bytes h = (0, refl)
fits_by false false bytes h =
    (big_number 2 bytes, sym (ap (λ (b : Bool). cond b None (Some (big_number 2 bytes, drop 2 bytes))) (le-ltb _ _ h)))

short_by : (short same : Bool) (bytes : List ℕ) → length bytes < size_by short same → None ≡ delta_by short same bytes
unfolding delta_by size_by
short_by true same [] h = refl
short_by true same (b ∷ bytes) h = absurd (omega arith)
short_by false true bytes h = absurd (omega arith)
short_by false false bytes h = grind (arith, lt-ltb)

delta_fits : (short same f : ℕ) (bytes : List ℕ) → delta_size short same f ≤ length bytes
    → (d : ℕ) × (Some (d, drop (delta_size short same f) bytes) ≡ delta_of short same f bytes)
unfolding delta_size size_by
delta_fits short same f bytes h = fits_by (has f short) (has f same) bytes h

delta_cut : (short same f : ℕ) (bytes : List ℕ) → length bytes < delta_size short same f → None ≡ delta_of short same f bytes
unfolding delta_size size_by
delta_cut short same f bytes h = short_by (has f short) (has f same) bytes h

-- one delta of bytes that suffice for it
delta_passed : (short same f : ℕ) (fs bytes : List ℕ) → delta_size short same f ≤ length bytes
    → option_map (λ p. p.1) (deltas_from short same (f ∷ fs) bytes)
    ≡ option_map (λ p. p.1) (deltas_from short same fs (drop (delta_size short same f) bytes))
delta_passed short same f fs bytes h =
    let d = delta_fits short same f bytes h in
    ap (option_map (λ (p : List ℕ × List ℕ). p.1)) (deltas_at short same f fs bytes d.0 _ d.1) ∙ front_rest d.0 _

pub deltas_fit : (short same : ℕ) (fs bytes : List ℕ) → deltas_size short same fs ≤ length bytes
    → Some (drop (deltas_size short same fs) bytes) ≡ option_map (λ p. p.1) (deltas_from short same fs bytes)
unfolding deltas_size
deltas_fit short same [] bytes h = sym (deltas_done short same bytes)
deltas_fit short same (f ∷ fs) bytes h =
    let n = delta_size short same f in
    let m = deltas_size short same fs in
    let more = deltas_fit short same fs (drop n bytes) (omega (arith, length-drop n bytes)) in
    ap Some (sym (drop-drop m n bytes)) ∙ more ∙ sym (delta_passed short same f fs bytes (omega arith))

pub deltas_cut : (short same : ℕ) (fs bytes : List ℕ) → length bytes < deltas_size short same fs
    → None ≡ option_map (λ p. p.1) (deltas_from short same fs bytes)
unfolding deltas_size
deltas_cut short same [] bytes h = absurd (omega arith)
deltas_cut short same (f ∷ fs) bytes h =
    let n = delta_size short same f in
    let cut = λ (l : length bytes < n). deltas_short short same f fs bytes (delta_cut short same f bytes l) in
    let rest = λ (l : n ≤ length bytes). deltas_cut short same fs (drop n bytes) (omega (arith, length-drop n bytes)) in
    elim (cases_lt (length bytes) n) [
      | inl l ↦ sym (ap (option_map (λ (p : List ℕ × List ℕ). p.1)) (cut l))
      | inr l ↦ rest l ∙ sym (delta_passed short same f fs bytes l)
    ]

-- ---- what the measure of flags says of the bytes after them

pub x_deltas : (o : Option (List ℕ × List ℕ)) (xs ys : ℕ) (rest after : List ℕ) → IsMeasured o xs ys rest → xs ≤ length rest
    → after ≡ drop xs rest
    → Some after ≡ option_map (λ p. p.1) (deltas_from x_short_vector x_is_same_or_positive_x_short_vector (list_in o) rest)
x_deltas o xs ys rest after m h e = grind (arith, deltas_fit)

pub no_x_deltas : (o : Option (List ℕ × List ℕ)) (xs ys : ℕ) (rest : List ℕ) → IsMeasured o xs ys rest → length rest < xs
    → None ≡ option_map (λ p. p.1) (deltas_from x_short_vector x_is_same_or_positive_x_short_vector (list_in o) rest)
no_x_deltas o xs ys rest m h = deltas_cut _ _ (list_in o) rest (omega (arith, m.xs_are))

pub y_deltas : (o : Option (List ℕ × List ℕ)) (xs ys : ℕ) (rest bytes : List ℕ) → IsMeasured o xs ys rest → ys ≤ length bytes
    → Some (drop ys bytes)
    ≡ option_map (λ p. p.1) (deltas_from y_short_vector y_is_same_or_positive_y_short_vector (list_in o) bytes)
y_deltas o xs ys rest bytes m h = grind (arith, deltas_fit)

pub no_y_deltas : (o : Option (List ℕ × List ℕ)) (xs ys : ℕ) (rest bytes : List ℕ) → IsMeasured o xs ys rest → length bytes < ys
    → None ≡ option_map (λ p. p.1) (deltas_from y_short_vector y_is_same_or_positive_y_short_vector (list_in o) bytes)
no_y_deltas o xs ys rest bytes m h = deltas_cut _ _ (list_in o) bytes (omega (arith, m.ys_are))

-- what was read up to the bytes after it is there
pub is_there : {X : Type 0} (o : Option (List X × List ℕ)) (rest : List ℕ) → Some rest ≡ option_map (λ p. p.1) o → IsSome o
is_there {X} None rest e = absurd (cc)
is_there {X} (Some p) rest e = refl

-- ---- how many contours there are

pub length-words : (n : ℕ) (bytes : List ℕ) → length (words n bytes) ≡ n
unfolding words
length-words zero bytes = refl
length-words (suc n) bytes = ap suc (length-words n (drop 2 bytes))

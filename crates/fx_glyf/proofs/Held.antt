-- Bytes that hold a flag or a delta are long enough for it: `flag_held`, `delta_held`.
-- For `next_flag`, `moved` and the iterators over flags and points.
use Rattle.std.proofs.Common.{◌≡◌, ◌∙◌, ℕ, zero, suc, ◌+◌, ◌-◌, ◌<◌, ◌≤◌, ◌%◌, List, [], ◌∷◌, length, drop, get_or}
use Rattle.std.proofs.Common.{Option, Some, None}
use Rattle.std.proofs.Common.{Bool, true, false, cond, refl, sym, ap, subst, arith, add-zero}
use Rattle.std.specs.Prelude.{IsSome, option_and_then}
use Rattle.std.proofs.lemmas.Bool.{cases_lt, lt-ltb, le-ltb}
use Rattle.std.proofs.lemmas.List.{get_or-drop, drop-drop, length-drop}
use Rattle.fx_sfnt.specs.Fields.{field}
use Rattle.fx_glyf.specs.Words.{has, with_front}
use Rattle.fx_glyf.specs.inner.Moves.{moved_by}
use Rattle.fx_glyf.specs.Points.{Cursor, start, repeat_flag, next_flag, flags_from, delta_by, delta_of, deltas_from}

-- ---- flags

-- the bytes hold a flag if they hold that of another point
pub flag_held : (left : ℕ) (c : Cursor) → (left ≡ 0 → ⊥) → IsSome (flags_from left c) → IsSome (next_flag c)
unfolding flags_from
flag_held zero c more h = absurd (more refl)
flag_held (suc left) c more h = first_held (λ (d : Cursor). with_front d.flag (flags_from left d)) (next_flag c) h
  where
    first_held : {X : Type 0} {Y : Type 0} (f : X → Option Y) (o : Option X) → IsSome (option_and_then f o) → IsSome o
    first_held f None h = absurd (cc)
    first_held f (Some x) h = refl

-- a flag takes a byte
pub one_byte : (again flag : ℕ) (bytes : List ℕ) → again ≤ 0
    → IsSome (next_flag (record { again = again; flag = flag; bytes = bytes })) → 1 ≤ length bytes
unfolding next_flag
one_byte (suc again) flag bytes low h = absurd (omega arith)
one_byte zero flag [] low h = absurd (cc)
one_byte zero flag (f ∷ bytes) low h = omega arith

-- a flag that is repeated takes two
pub two_bytes : (again flag : ℕ) (bytes : List ℕ) → again ≤ 0 → has (get_or bytes 0 0) repeat_flag ≡ true
    → IsSome (next_flag (record { again = again; flag = flag; bytes = bytes })) → 2 ≤ length bytes
unfolding next_flag
two_bytes (suc again) flag bytes low r h = absurd (omega arith)
two_bytes zero flag [] low r h = absurd (cc)
two_bytes zero flag (f ∷ []) low r h = grind arith
two_bytes zero flag (f ∷ g ∷ bytes) low r h = omega arith

-- the flag of the point before, once more
pub flag_again : (again flag : ℕ) (bytes : List ℕ) → 0 < again
    → Some (record { again = again - 1; flag = flag; bytes = bytes })
    ≡ next_flag (record { again = again; flag = flag; bytes = bytes })
unfolding next_flag
flag_again zero flag bytes h = absurd (omega arith)
flag_again (suc again) flag bytes h = grind arith

-- a flag that is repeated, with the number after it
pub flag_repeated : (again flag : ℕ) (bytes rest : List ℕ) → again ≤ 0 → has (get_or bytes 0 0) repeat_flag ≡ true
    → 2 ≤ length bytes → rest ≡ drop 2 bytes
    → Some (record { again = get_or bytes 1 0; flag = get_or bytes 0 0; bytes = rest })
    ≡ next_flag (record { again = again; flag = flag; bytes = bytes })
unfolding next_flag
flag_repeated (suc again) flag bytes rest low r h e = absurd (omega arith)
flag_repeated zero flag [] rest low r h e = absurd (omega arith)
flag_repeated zero flag (f ∷ []) rest low r h e = absurd (omega arith)
flag_repeated zero flag (f ∷ g ∷ bytes) rest low r h e = rw (r, e) refl

-- a flag that is not repeated
pub flag_alone : (again flag : ℕ) (bytes rest : List ℕ) → again ≤ 0 → has (get_or bytes 0 0) repeat_flag ≡ false
    → 1 ≤ length bytes → rest ≡ drop 1 bytes
    → Some (record { again = 0; flag = get_or bytes 0 0; bytes = rest })
    ≡ next_flag (record { again = again; flag = flag; bytes = bytes })
unfolding next_flag
flag_alone (suc again) flag bytes rest low r h e = absurd (omega arith)
flag_alone zero flag [] rest low r h e = absurd (omega arith)
flag_alone zero flag (f ∷ []) rest low r h e = rw (r, e) refl
flag_alone zero flag (f ∷ g ∷ bytes) rest low r h e = rw (r, e) refl

-- the same at an index
pub alone_at : (xs : List ℕ) (at : ℕ) → at < length xs → has (get_or xs at 0) repeat_flag ≡ false
    → Some (record { again = 0; flag = get_or xs at 0; bytes = drop (at + 1) xs }) ≡ next_flag (start (drop at xs))
alone_at xs at h r =
    let first : get_or (drop at xs) 0 0 ≡ get_or xs at 0 = get_or-drop at xs 0 0 ∙ ap (λ (k : ℕ). get_or xs k 0) (add-zero at) in
    ap (λ (f : ℕ). Some (record { again = 0; flag = f; bytes = drop (at + 1) xs })) (sym first)
    ∙ flag_alone 0 0 (drop at xs) (drop (at + 1) xs) (omega arith) (ap (λ (f : ℕ). has f repeat_flag) first ∙ r)
    (omega (arith, h, length-drop at xs)) (sym (drop-drop 1 at xs))

pub ruleset next_flag_steps = (one_byte, two_bytes, flag_again, flag_repeated, flag_alone)

-- ---- deltas

-- the bytes hold the first of some deltas
pub delta_held : (short same f : ℕ) (gs fs bytes : List ℕ) → gs ≡ f ∷ fs → IsSome (deltas_from short same gs bytes)
    → IsSome (delta_of short same f bytes)
unfolding deltas_from
delta_held short same f gs fs bytes e h =
    let P : List ℕ → Type 0 = λ hs. IsSome (deltas_from short same hs bytes) in
    first_held (λ (d : ℕ × List ℕ). with_front d.0 (deltas_from short same fs d.1)) (delta_of short same f bytes) (subst P e h)
  where
    first_held : {X : Type 0} {Y : Type 0} (f : X → Option Y) (o : Option X) → IsSome (option_and_then f o) → IsSome o
    first_held f None h = absurd (cc)
    first_held f (Some x) h = refl

-- a short delta takes a byte
pub short_held : (short same : Bool) (bytes : List ℕ) → short ≡ true → IsSome (delta_by short same bytes) → 1 ≤ length bytes
unfolding delta_by
short_held false same bytes e h = absurd (cc)
short_held true same [] e h = absurd (cc)
short_held true same (b ∷ bytes) e h = omega arith

-- a delta that is neither short nor the same takes two
pub word_held : (short same : Bool) (bytes : List ℕ) → short ≡ false → same ≡ false → IsSome (delta_by short same bytes)
    → 2 ≤ length bytes
unfolding delta_by
word_held true same bytes e f h = absurd (cc)
word_held false true bytes e f h = absurd (cc)
word_held false false bytes e f h = grind (arith, cases_lt, lt-ltb)

pub short_moves : (short same positive : Bool) (bytes rest : List ℕ) (at to : ℕ) → short ≡ true → positive ≡ same
    → 1 ≤ length bytes → rest ≡ drop 1 bytes
    → to ≡ cond positive ((at + get_or bytes 0 0) % 65536) ((at + (65536 - get_or bytes 0 0) % 65536) % 65536)
    → Some (to, rest) ≡ moved_by at (delta_by short same bytes)
unfolding delta_by
short_moves false same positive bytes rest at to e f h r b = absurd (cc)
short_moves true same positive [] rest at to e f h r b = absurd (omega arith)
short_moves true same true (x ∷ bytes) rest at to e f h r b = rw (b, r, sym f) refl
short_moves true same false (x ∷ bytes) rest at to e f h r b = rw (b, r, sym f) refl

pub same_moves : (short same : Bool) (bytes : List ℕ) (at : ℕ) → short ≡ false → same ≡ true → at ≤ 65535
    → Some (at, bytes) ≡ moved_by at (delta_by short same bytes)
unfolding delta_by
same_moves true same bytes at e f h = absurd (cc)
same_moves false true bytes at e f h = let k : (at + 0) % 65536 ≡ at = omega arith in rw k refl
same_moves false false bytes at e f h = absurd (cc)

pub word_moves : (short same : Bool) (bytes rest : List ℕ) (at to : ℕ) → short ≡ false → same ≡ false → 2 ≤ length bytes
    → to ≡ (at + field 2 bytes 0) % 65536 → rest ≡ drop 2 bytes → Some (to, rest) ≡ moved_by at (delta_by short same bytes)
unfolding delta_by field
word_moves true same bytes rest at to e f h b r = absurd (cc)
word_moves false true bytes rest at to e f h b r = absurd (cc)
word_moves false false bytes rest at to e f h b r = grind (arith, le-ltb)

pub ruleset delta_steps = (short_held, word_held, short_moves, same_moves, word_moves)

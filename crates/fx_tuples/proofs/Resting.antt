-- A tuple counts at most 1, and at the defaults not at all if one of its axes does not: `at_most_one`, `tuple_rests`.
-- For the laws of how far tuples count.
use Rattle.std.proofs.Common.{◌≡◌, ◌≢◌, ℕ, zero, suc, ◌<◌, ◌≤◌, Bool, true, false, ℤ, pos, List, refl, sym, ap, ◌∙◌, arith}
use Rattle.std.proofs.Common.{◌==◌, subst, mul-zero}
use Rattle.std.proofs.lemmas.Bool.{eqb-true, eq-eqb}
use Rattle.std.specs.Prelude.{◌||◌, ◌&&◌, int_lt, int_le, slice_index_or}
use Rattle.std.proofs.lemmas.Int.{ints}
use Rattle.fx_tuples.specs.declared.regions.Tent.{Tent}
use Rattle.fx_tuples.specs.Regions.{is_disordered, straddles, is_at_peak, counts_fully, factor_of, scaled_of, scalar_of, whole}
use Rattle.fx_tuples.specs.Regions.{tent_of}
use Rattle.fx_tuples.specs.Headers.{HeaderView, header_of}
use Rattle.fx_tuples.specs.Tuples.{PointNumbersView, TupleView, TupleSettingView, TupleCursorView, scalar_at, tuple_of, next_tuple}
use Rattle.fx_tuples.specs.declared.fault.TupleFault.{TupleFault}
use Rattle.fx_tuples.specs.declared.fault.TupleFault.TheVariants.{DataShort}
use Rattle.fx_fixed.specs.Chain.{◌>>=◌, refuse}
use Rattle.std.specs.Prelude.{nat_lt}
use Rattle.std.proofs.Common.{◌*◌, Option, Some, None, Result, Ok, [], length, take, drop}
use Rattle.fx_tuples.proofs.Quotients.{scaled_bound}

by_test : {C : Type 0} (b : Bool) → (b ≡ true → C) → (b ≡ false → C) → C
by_test true t f = t refl
by_test false t f = f refl

neither : (a b : Bool) → (a || b) ≡ false → (a ≡ false) × (b ≡ false)
neither true b e = absurd (cc e)
neither false b e = (refl, e)

-- a factor is a part of 1
pub record IsPart (f : ℕ × ℕ) : Type 0 where
  pub nonzero : f.1 ≢ 0
  pub part : f.0 ≤ f.1

factor_is : (t : Tent) (v : ℤ) → IsPart (factor_of t v)
unfolding factor_of
factor_is t v = by_test (counts_fully t v)
    (λ e. rw e (record { nonzero = omega arith; part = omega arith }))
    (λ e. rw e (by_test (int_le v t.start)
    (λ a. rw a (record { nonzero = omega arith; part = omega arith }))
    (λ a. rw a (by_test (int_le t.end v)
    (λ b. rw b (record { nonzero = omega arith; part = omega arith }))
    (λ b. rw b (by_test (int_lt v t.peak)
    (λ d. rw d (record { nonzero = omega (arith, ints, a, d); part = omega (arith, ints, a, d) }))
    (λ d. rw d (record { nonzero = omega (arith, ints, b, d); part = omega (arith, ints, b, d) }))))))))

scaled_small : (s : ℕ) (f : ℕ × ℕ) → IsPart f → scaled_of s f ≤ s
unfolding scaled_of
scaled_small s f p = scaled_bound s f.0 f.1 p.nonzero p.part

at_suc : (tents : ℕ → Tent) (place : List ℤ) (n : ℕ)
    → scalar_of tents place (suc n) ≡ scaled_of (scalar_of tents place n) (factor_of (tents n) (slice_index_or place n (pos 0)))
unfolding scalar_of
at_suc tents place n = refl

at_zero : (tents : ℕ → Tent) (place : List ℤ) → scalar_of tents place 0 ≡ whole
unfolding scalar_of
at_zero tents place = refl

shrinks : (tents : ℕ → Tent) (place : List ℤ) (n : ℕ) → scalar_of tents place (suc n) ≤ scalar_of tents place n
shrinks tents place n =
    let f = factor_of (tents n) (slice_index_or place n (pos 0)) in
    rw (at_suc tents place n) (scaled_small (scalar_of tents place n) f (factor_is (tents n) (slice_index_or place n (pos 0))))

pub at_most_one : (tents : ℕ → Tent) (place : List ℤ) (n : ℕ) → scalar_of tents place n ≤ whole
at_most_one tents place zero = rw (at_zero tents place) (omega arith)
at_most_one tents place (suc n) =
    let a : scalar_of tents place (suc n) ≤ scalar_of tents place n = shrinks tents place n in
    let b : scalar_of tents place n ≤ whole = at_most_one tents place n in
    omega (arith, a, b)

-- at 0 an axis counts fully or not at all
none_at_zero : (t : Tent) → counts_fully t (pos 0) ≡ false → factor_of t (pos 0) ≡ (0, 1)
unfolding factor_of
none_at_zero t e =
    let p = neither (is_at_peak t (pos 0)) (is_disordered t || straddles t) e in
    let q = neither (is_disordered t) (straddles t) p.1 in
    rw e (by_test (int_le (pos 0) t.start) (λ a. rw a refl)
    (λ a. rw a (by_test (int_le t.end (pos 0)) (λ b. rw b refl)
    (λ b. absurd (within t a b q.1)))))
  where
    within : (t : Tent) → int_le (pos 0) t.start ≡ false → int_le t.end (pos 0) ≡ false → straddles t ≡ false → ⊥
    within t a b s = by_test (int_lt t.start (pos 0))
        (λ c. by_test (int_lt (pos 0) t.end)
        (λ d. absurd (cc (sym s ∙ ap (λ (x : Bool). x && int_lt (pos 0) t.end) c ∙ d)))
        (λ d. omega (arith, ints, b, d)))
        (λ c. omega (arith, ints, a, c))

nothing_scaled : (s : ℕ) → scaled_of s (0, 1) ≡ 0
unfolding scaled_of
nothing_scaled s = rw (mul-zero s) refl

at_last : (tents : ℕ → Tent) (place : List ℤ) (n : ℕ) → slice_index_or place n (pos 0) ≡ pos 0
    → counts_fully (tents n) (pos 0) ≡ false → scalar_of tents place (suc n) ≡ 0
at_last tents place n z e =
    at_suc tents place n
    ∙ ap (λ (v : ℤ). scaled_of (scalar_of tents place n) (factor_of (tents n) v)) z
    ∙ ap (scaled_of (scalar_of tents place n)) (none_at_zero (tents n) e) ∙ nothing_scaled (scalar_of tents place n)

rests : (tents : ℕ → Tent) (place : List ℤ) (n k : ℕ) → ((j : ℕ) → slice_index_or place j (pos 0) ≡ pos 0) → k < n
    → counts_fully (tents k) (pos 0) ≡ false → scalar_of tents place n ≡ 0
rests tents place zero k z h e = absurd (omega (arith, h))
rests tents place (suc n) k z h e = by_test (k == n)
    (λ s. let P : ℕ → Type 0 = λ m. counts_fully (tents m) (pos 0) ≡ false in
    at_last tents place n (z n) (subst P (eqb-true k n s) e))
    (λ s. let d : k ≢ n = λ q. absurd (cc (sym (eq-eqb k n q) ∙ s)) in
    let b : scalar_of tents place n ≡ 0 = rests tents place n k z (omega (arith, h, d)) e in
    let a : scalar_of tents place (suc n) ≤ scalar_of tents place n = shrinks tents place n in
    omega (arith, a, b))

-- a tuple whose scalar is 0 is read so
read_still : (place : List ℤ) (shared : Option PointNumbersView) (h : HeaderView) (bytes : List ℕ) → scalar_at place h ≡ 0
    → tuple_of place shared h bytes ≡ Ok (record { scalar = 0; numbers = None; deltas = [] })
unfolding tuple_of
read_still place shared h bytes e = rw e refl

-- what one result holds is one value
pub same_value : {A E : Type 0} (x y : A) (r : Result A E) → Ok x ≡ r → r ≡ Ok y → x ≡ y
same_value x y r e f = cc

pub tuple_rests : (s : TupleSettingView) (numbers : Option PointNumbersView) (c : TupleCursorView) (h : HeaderView)
    (r : TupleView × TupleCursorView) (k : ℕ) → ((j : ℕ) → slice_index_or s.place j (pos 0) ≡ pos 0) → k < length s.place
    → header_of s.shared (2 * length s.place) c.headers ≡ Some h
    → counts_fully (tent_of h.is_intermediate h.peaks h.starts h.ends k) (pos 0) ≡ false → next_tuple s numbers c ≡ Ok r
    → r.0.scalar ≡ 0
unfolding next_tuple scalar_at
tuple_rests s numbers c h r k z i e f g = by (nat_lt (length c.bytes) h.size) (rw e at g)
  where
    none : scalar_at s.place h ≡ 0
    none = rests (tent_of h.is_intermediate h.peaks h.starts h.ends) s.place (length s.place) k z i f

    by : (b : Bool) → (refuse b DataShort >>= λ _. tuple_of s.place numbers h (take h.size c.bytes)
        >>= λ t. Ok (t, record { headers = h.rest; bytes = drop h.size c.bytes })) ≡ Ok r → r.0.scalar ≡ 0
    by true g = absurd (cc g)
    by false g =
        let q = ap
        (λ (o : Result TupleView TupleFault). o >>= λ t. Ok (t, record { headers = h.rest; bytes = drop h.size c.bytes }))
        (read_still s.place numbers h (take h.size c.bytes) none) in
        ap (λ (p : TupleView × TupleCursorView). p.0.scalar) (sym (same_value _ _ _ (sym q) g))

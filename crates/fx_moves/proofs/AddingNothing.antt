-- Tuples none of which counts move no point: `adds_nothing`.
-- For the law that says so.
use Rattle.std.proofs.Common.{◌≡◌, ℕ, zero, suc, ◌==◌, Bool, true, false, List, take, drop, length, [], ℤ, ◌*◌, Option, Some, None, Result, Ok, Err}
use Rattle.std.proofs.Common.{refl, sym, ap, ◌∙◌}
use Rattle.std.specs.Prelude.{nat_lt, if◌then◌else◌}
use Rattle.std.proofs.lemmas.Bool.{eq-eqb}
use Rattle.fx_fixed.specs.Chain.{◌>>=◌, refuse, wanted}
use Rattle.fx_tuples.specs.declared.fault.TupleFault.{TupleFault}
use Rattle.fx_tuples.specs.declared.fault.TupleFault.TheVariants.{HeaderShort, DataShort}
use Rattle.fx_tuples.specs.Headers.{HeaderView, header_of}
use Rattle.fx_tuples.specs.Tuples.{PointNumbersView, TupleView, TupleSettingView, TupleCursorView, point_numbers_of}
use Rattle.fx_tuples.specs.Tuples.{scalar_at, tuple_by, tuple_of, next_tuple}
use Rattle.fx_tuples.proofs.Resting.{same_value}
use Rattle.fx_moves.specs.declared.point.GivenPoint.{GivenPoint}
use Rattle.fx_moves.specs.Moves.{added_by, tuple_added, tuples_added}
use Rattle.fx_moves.specs.Laws.{NoneCounts, after_read}

-- a tuple that was read by its own numbers or by shared ones counts as far as it was asked for
counts_as : (own : Bool) (shared : Option PointNumbersView) (scalar : ℕ) (bytes : List ℕ) (t : TupleView)
    → tuple_by own shared scalar bytes ≡ Ok t → t.scalar ≡ scalar
unfolding tuple_by
counts_as false shared scalar bytes t e = ap (λ (u : TupleView). u.scalar) (sym (same_value _ _ _ e refl))
counts_as true shared scalar bytes t e = by (point_numbers_of bytes) e
  where
    by : (r : Result (PointNumbersView × List ℕ) TupleFault)
        → (r >>= λ n. Ok (record { scalar = scalar; numbers = Some n.0; deltas = n.1 })) ≡ Ok t → t.scalar ≡ scalar
    by (Ok n) e = ap (λ (u : TupleView). u.scalar) (sym (same_value _ _ _ e refl))
    by (Err f) e = absurd (cc e)

-- one that does not count has no numbers
no_numbers : (place : List ℤ) (shared : Option PointNumbersView) (h : HeaderView) (bytes : List ℕ) (t : TupleView)
    → tuple_of place shared h bytes ≡ Ok t → t.scalar ≡ 0 → t.numbers ≡ None
unfolding tuple_of
no_numbers place shared h bytes t e z = by (scalar_at place h == 0) refl e
  where
    by : (b : Bool) → (scalar_at place h == 0) ≡ b
        → (if b then Ok (record { scalar = 0; numbers = None; deltas = [] })
        else tuple_by h.is_private shared (scalar_at place h) bytes)
        ≡ Ok t → t.numbers ≡ None
    by true s e = ap (λ (u : TupleView). u.numbers) (sym (same_value _ _ _ e refl))
    by false s e =
        let c : scalar_at place h ≡ 0 = sym (counts_as h.is_private shared (scalar_at place h) bytes t e) ∙ z in
        absurd (cc (sym s ∙ eq-eqb _ _ c))

next_none : (s : TupleSettingView) (numbers : Option PointNumbersView) (c : TupleCursorView) (r : TupleView × TupleCursorView)
    → next_tuple s numbers c ≡ Ok r → r.0.scalar ≡ 0 → r.0.numbers ≡ None
unfolding next_tuple
next_none s numbers c r e z = by_header (header_of s.shared (2 * length s.place) c.headers) e
  where
    by_tuple : (h : HeaderView) (q : Result TupleView TupleFault) → tuple_of s.place numbers h (take h.size c.bytes) ≡ q
        → (q >>= λ t. Ok (t, record { headers = h.rest; bytes = drop h.size c.bytes })) ≡ Ok r → r.0.numbers ≡ None
    by_tuple h (Err f) g e = absurd (cc e)
    by_tuple h (Ok t) g e =
        let same : t ≡ r.0 = ap (λ (p : TupleView × TupleCursorView). p.0) (same_value _ _ _ e refl) in
        ap (λ (u : TupleView). u.numbers) (sym same)
        ∙ no_numbers s.place numbers h (take h.size c.bytes) t g (ap (λ (u : TupleView). u.scalar) same ∙ z)

    by_size : (h : HeaderView) (b : Bool)
        → (refuse b DataShort >>= λ _. tuple_of s.place numbers h (take h.size c.bytes)
        >>= λ t. Ok (t, record { headers = h.rest; bytes = drop h.size c.bytes })) ≡ Ok r → r.0.numbers ≡ None
    by_size h true e = absurd (cc e)
    by_size h false e = by_tuple h (tuple_of s.place numbers h (take h.size c.bytes)) refl e

    by_header : (o : Option HeaderView)
        → (wanted o HeaderShort >>= λ h. refuse (nat_lt (length c.bytes) h.size) DataShort
        >>= λ _. tuple_of s.place numbers h (take h.size c.bytes)
        >>= λ t. Ok (t, record { headers = h.rest; bytes = drop h.size c.bytes })) ≡ Ok r → r.0.numbers ≡ None
    by_header None e = absurd (cc e)
    by_header (Some h) e = by_size h (nat_lt (length c.bytes) h.size) e

none_added : (ends : List ℕ) (second : Bool) (t : TupleView) (ps : List GivenPoint) → t.numbers ≡ None
    → tuple_added ends second t ps ≡ Ok ps
unfolding tuple_added
none_added ends second t ps e = ap (added_by ends second t.scalar t.deltas ps) e

read_tuple : (s : TupleSettingView) (ends : List ℕ) (second : Bool) (numbers : Option PointNumbersView) (n : ℕ)
    (c : TupleCursorView) (ps qs : List GivenPoint)
    → ((d : TupleCursorView) → NoneCounts s numbers n d → tuples_added s ends second numbers n d ps ≡ Ok qs → qs ≡ ps)
    → (r : Result (TupleView × TupleCursorView) TupleFault) → next_tuple s numbers c ≡ r
    → after_read (λ t d. (t.scalar ≡ 0) × NoneCounts s numbers n d) r
    → (r >>= λ r. tuple_added ends second r.0 ps >>= λ next. tuples_added s ends second numbers n r.1 next) ≡ Ok qs
    → qs ≡ ps
read_tuple s ends second numbers n c ps qs more (Err f) g h e = absurd (cc e)
read_tuple s ends second numbers n c ps qs more (Ok r) g h e =
    let t : tuple_added ends second r.0 ps ≡ Ok ps = none_added ends second r.0 ps (next_none s numbers c r g h.0) in
    more r.1 h.1
    (sym (ap (λ (q : Result (List GivenPoint) TupleFault). q >>= λ next. tuples_added s ends second numbers n r.1 next) t) ∙ e)

pub adds_nothing : (s : TupleSettingView) (ends : List ℕ) (second : Bool) (numbers : Option PointNumbersView) (n : ℕ)
    (c : TupleCursorView) (ps qs : List GivenPoint)
    → NoneCounts s numbers n c → tuples_added s ends second numbers n c ps ≡ Ok qs → qs ≡ ps
unfolding tuples_added
adds_nothing s ends second numbers zero c ps qs h e = sym (same_value _ _ _ e refl)
adds_nothing s ends second numbers (suc n) c ps qs h e =
    read_tuple s ends second numbers n c ps qs (λ d g k. adds_nothing s ends second numbers n d ps qs g k)
    (next_tuple s numbers c) refl h e

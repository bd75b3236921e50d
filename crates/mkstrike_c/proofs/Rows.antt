-- The bytes of a glyph's rows are put one, or eight pixels, at a time: `bytes_more`, `eight_more`.
-- Serves `put_packed`, `put_each`, `put_whole`.
use Rattle.std.proofs.Common.{◌≡◌, ◌⊎◌, inl, inr, ap, sym, ◌∙◌, ℕ, ◌+◌, ◌-◌, ◌*◌, ◌<◌, ◌≤◌, min, Bool, false, List, [], ◌∷◌, ◌++◌}
use Rattle.std.proofs.Common.{length, set, take, drop, map, get_or, arith, length-take}
use Rattle.std.specs.List.{range_with_len}
use Rattle.std.proofs.lemmas.Grind.{same_number_lists}
use Rattle.std.proofs.lemmas.List.{take_more_set, length-take-le, get_or-take, get_or_append_left, get_or-append_right}
use Rattle.std.proofs.Common.{append_assoc, length-append}
use Rattle.std.proofs.Math.Seq.{take-append_seam}
use Rattle.std.proofs.lemmas.Slice.{drop-append-drop}
use Rattle.std.proofs.lemmas.List.FromFn.{map-range_with_len_more, length-map-range_with_len, get_or-map-range_with_len}
use Rattle.fx_fixed.proofs.Order.{below_or_not}
use Rattle.mkstrike_c.specs.Pixels.{row_byte, row_bytes}

-- one byte more
pub bytes_more : (f : ℕ → ℕ) (k : ℕ) (buffer : List ℕ) (d : ℕ) → k < length buffer → d ≡ f k
    → take k buffer ≡ map f (range_with_len 0 k) → take (k + 1) (set buffer k d) ≡ map f (range_with_len 0 (k + 1))
bytes_more f k buffer d within is so_far =
    take_more_set buffer k d within ∙ (λ j. so_far j ++ is j ∷ []) ∙ sym (map-range_with_len_more f 0 k k (omega arith))

-- eight pixels more, or as many as the row has left
pub eight_more : (row : List Bool) (k : ℕ) (old new eight : List ℕ) → length old ≡ length row → length new ≡ length old
    → 8 * k < length row → eight ≡ map (row_byte false row) (range_with_len (8 * k) 8)
    → new ≡ take (8 * k) old ++ (take (length old - 8 * k) eight ++ drop (8 * k + 8) old)
    → take (8 * k) old ≡ take (8 * k) (row_bytes false row)
    → take (8 * (k + 1)) new ≡ take (8 * (k + 1)) (row_bytes false row)
eight_more row k old new eight long same low is put so_far =
    same_number_lists (take (8 * (k + 1)) new) (take (8 * (k + 1)) all)
    (length-take (8 * (k + 1)) new ∙ ap (min (8 * (k + 1))) (same ∙ long ∙ sym width) ∙ sym (length-take (8 * (k + 1)) all))
    each
  where
    all : List ℕ
    all = row_bytes false row

    width : length all ≡ length row
    width = length-map-range_with_len (row_byte false row) 0 (length row)

    front : length (take (8 * k) old) ≡ 8 * k
    front = length-take-le (8 * k) old (omega (arith, long, low))

    some : length (take (length old - 8 * k) eight) ≡ min (length old - 8 * k) 8
    some =
        length-take (length old - 8 * k) eight
        ∙ ap (min (length old - 8 * k)) (ap length is ∙ length-map-range_with_len (row_byte false row) (8 * k) 8)

    rest : List ℕ
    rest = take (length old - 8 * k) eight ++ drop (8 * k + 8) old

    by : (j : ℕ) → j < length row → j < 8 * k + 8 → (j < 8 * k) ⊎ (8 * k ≤ j) → get_or new j 0 ≡ get_or all j 0
    by j h m (inl l) =
        ap (λ (n : List ℕ). get_or n j 0) put
        ∙ get_or_append_left (take (8 * k) old) rest 0 j (omega (arith, front, l))
        ∙ ap (λ (n : List ℕ). get_or n j 0) so_far
        ∙ get_or-take (8 * k) all j 0 l
    by j h m (inr l) =
        ap (λ (n : List ℕ). get_or n j 0) put
        ∙ get_or-append_right (take (8 * k) old) rest (8 * k) j 0 front l
        ∙ get_or_append_left (take (length old - 8 * k) eight) (drop (8 * k + 8) old) 0 (j - 8 * k)
        (omega (arith, some, long, h, m, l))
        ∙ get_or-take (length old - 8 * k) eight (j - 8 * k) 0 (omega (arith, long, h, l))
        ∙ ap (λ (n : List ℕ). get_or n (j - 8 * k) 0) is
        ∙ get_or-map-range_with_len (row_byte false row) (8 * k) 8 (j - 8 * k) j 0 (omega (arith, m, l)) (omega (arith, l))
        ∙ sym (get_or-map-range_with_len (row_byte false row) 0 (length row) j j 0 h (omega arith))

    each : (j : ℕ) → j < length (take (8 * (k + 1)) new)
        → get_or (take (8 * (k + 1)) new) j 0 ≡ get_or (take (8 * (k + 1)) all) j 0
    each j h =
        let few = length-take (8 * (k + 1)) new in
        let m : j < 8 * k + 8 = omega (arith, few, h) in
        let n : j < 8 * (k + 1) = omega (arith, m) in
        get_or-take (8 * (k + 1)) new j 0 n
        ∙ by j (omega (arith, few, h, same, long)) m (below_or_not j (8 * k))
        ∙ sym (get_or-take (8 * (k + 1)) all j 0 n)

-- ---- eight bytes put in two steps

pub put_twice : (start : ℕ) (old mid new a b eight : List ℕ) → start + 8 ≤ length old → length a ≡ 4 → length b ≡ 4
    → mid ≡ take start old ++ (a ++ drop (start + length a) old)
    → new ≡ take (start + 4) mid ++ (b ++ drop (start + 4 + length b) mid)
    → a ++ b ≡ eight → new ≡ take start old ++ (eight ++ drop (start + 8) old)
put_twice start old mid new a b eight room four more put again both =
    again
    ∙ (λ t. front t ++ (b ++ back t))
    ∙ append_assoc (take start old) a (b ++ drop (start + 8) old)
    ∙ ap (λ (l : List ℕ). take start old ++ l) (sym (append_assoc a b (drop (start + 8) old)))
    ∙ ap (λ (l : List ℕ). take start old ++ (l ++ drop (start + 8) old)) both
  where
    begun : List ℕ
    begun = take start old ++ a

    long : start + 4 ≡ length begun
    long = omega (arith, length-append (take start old) a, length-take-le start old (omega (arith, room)), four)

    is : mid ≡ begun ++ drop (start + 4) old
    is =
        put ∙ sym (append_assoc (take start old) a (drop (start + length a) old))
        ∙ ap (λ n. begun ++ drop (start + n) old) four

    front : take (start + 4) mid ≡ begun
    front = (λ t. take (long t) (is t)) ∙ take-append_seam begun (drop (start + 4) old)

    back : drop (start + 4 + length b) mid ≡ drop (start + 8) old
    back =
        let at : start + 4 + length b ≡ start + 8 = omega (arith, more) in
        (λ t. drop (at t) (is t)) ∙ drop-append-drop (start + 4) old begun (start + 8) (omega arith) (sym long)

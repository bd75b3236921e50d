-- The points' bytes are complete exactly if flags, x deltas and y deltas are: `all_there`, `no_flags`, `no_xs`, `no_ys`.
-- For `PointBytes::read` and what it keeps.
use Rattle.std.proofs.Common.{◌≡◌, ℕ, zero, suc, List, [], ◌∷◌, length, Option, Some, None, refl, sym, ap, ◌∙◌, arith}
use Rattle.std.proofs.lemmas.Option.{option_and_then_some, same_Some}
use Rattle.std.specs.Prelude.{option_map, option_and_then, IsSome}
use Rattle.fx_glyf.specs.declared.point.GlyphPoint.{GlyphPoint}
use Rattle.fx_glyf.specs.Words.{list_in, with_front}
use Rattle.fx_glyf.specs.Points.{Cursor, x_short_vector, x_is_same_or_positive_x_short_vector, y_short_vector}
use Rattle.fx_glyf.specs.Points.{y_is_same_or_positive_y_short_vector, next_flag, flags_from, delta_of, deltas_from, points_of}
use Rattle.fx_glyf.specs.Points.{glyph_points_of, start, points_seen}
use Rattle.fx_glyf.proofs.Steps.{front_is}

pub known : {X : Type 0} (o : Option (List X × List ℕ)) (r : List ℕ) → Some r ≡ option_map (λ p. p.1) o → o ≡ Some (list_in o, r)
known None r e = absurd (cc)
known (Some p) r e = let h : r ≡ p.1 = cc in ap (λ (s : List ℕ). Some (p.0, s)) (sym h)

pub unknown : {X : Type 0} (o : Option (List X × List ℕ)) → None ≡ option_map (λ p. p.1) o → o ≡ None
unknown None e = refl
unknown (Some p) e = absurd (cc)

-- the three steps
abbrev pub of_ys : List ℕ → List ℕ → List ℕ × List ℕ → Option (List GlyphPoint)
of_ys fs dxs ys = Some (points_of fs dxs ys.0 0 0)

abbrev pub of_xs : List ℕ → List ℕ × List ℕ → Option (List GlyphPoint)
of_xs fs xs = option_and_then (of_ys fs xs.0) (deltas_from y_short_vector y_is_same_or_positive_y_short_vector fs xs.1)

abbrev pub of_flags : List ℕ × List ℕ → Option (List GlyphPoint)
of_flags fs = option_and_then (of_xs fs.0) (deltas_from x_short_vector x_is_same_or_positive_x_short_vector fs.0 fs.1)

pub outline_is : (n : ℕ) (bytes : List ℕ) → glyph_points_of n bytes ≡ option_and_then of_flags (flags_from n (start bytes))
unfolding glyph_points_of
outline_is n bytes = refl

pub no_flags : (n : ℕ) (bytes : List ℕ) → None ≡ option_map (λ p. p.1) (flags_from n (start bytes)) → None ≡ glyph_points_of n bytes
no_flags n bytes e = sym (outline_is n bytes ∙ ap (option_and_then of_flags) (unknown _ e))

pub after_flags : (n : ℕ) (bytes xs : List ℕ) → Some xs ≡ option_map (λ p. p.1) (flags_from n (start bytes))
    → glyph_points_of n bytes ≡ of_flags (list_in (flags_from n (start bytes)), xs)
after_flags n bytes xs e = outline_is n bytes ∙ ap (option_and_then of_flags) (known _ xs e)

pub no_xs : (n : ℕ) (bytes xs : List ℕ) → Some xs ≡ option_map (λ p. p.1) (flags_from n (start bytes))
    → None ≡ option_map (λ p. p.1) (deltas_from x_short_vector x_is_same_or_positive_x_short_vector
    (list_in (flags_from n (start bytes))) xs)
    → None ≡ glyph_points_of n bytes
no_xs n bytes xs e f =
    sym (after_flags n bytes xs e ∙ ap (option_and_then (of_xs (list_in (flags_from n (start bytes))))) (unknown _ f))

pub after_xs : (n : ℕ) (bytes xs ys : List ℕ) → Some xs ≡ option_map (λ p. p.1) (flags_from n (start bytes))
    → Some ys ≡ option_map (λ p. p.1) (deltas_from x_short_vector x_is_same_or_positive_x_short_vector
    (list_in (flags_from n (start bytes))) xs)
    → glyph_points_of n bytes ≡ of_xs (list_in (flags_from n (start bytes)))
    (list_in (deltas_from x_short_vector x_is_same_or_positive_x_short_vector (list_in (flags_from n (start bytes))) xs), ys)
after_xs n bytes xs ys e f =
    after_flags n bytes xs e ∙ ap (option_and_then (of_xs (list_in (flags_from n (start bytes))))) (known _ ys f)

pub no_ys : (n : ℕ) (bytes xs ys : List ℕ) → Some xs ≡ option_map (λ p. p.1) (flags_from n (start bytes))
    → Some ys ≡ option_map (λ p. p.1) (deltas_from x_short_vector x_is_same_or_positive_x_short_vector
    (list_in (flags_from n (start bytes))) xs)
    → None ≡ option_map (λ p. p.1) (deltas_from y_short_vector y_is_same_or_positive_y_short_vector
    (list_in (flags_from n (start bytes))) ys) → None ≡ glyph_points_of n bytes
no_ys n bytes xs ys e f g = sym (after_xs n bytes xs ys e f ∙ ap (option_and_then (of_ys _ _)) (unknown _ g))

pub all_there : (n : ℕ) (bytes xs ys rest : List ℕ) → Some xs ≡ option_map (λ p. p.1) (flags_from n (start bytes))
    → Some ys ≡ option_map (λ p. p.1) (deltas_from x_short_vector x_is_same_or_positive_x_short_vector
    (list_in (flags_from n (start bytes))) xs)
    → Some rest ≡ option_map (λ p. p.1) (deltas_from y_short_vector y_is_same_or_positive_y_short_vector
    (list_in (flags_from n (start bytes))) ys)
    → Some (points_seen (list_in (flags_from n (start bytes))) xs ys 0 0) ≡ glyph_points_of n bytes
all_there n bytes xs ys rest e f g = sym (after_xs n bytes xs ys e f ∙ ap (option_and_then (of_ys _ _)) (known _ rest g))

-- as many flags, deltas and points are read as asked for
flags_count : (n : ℕ) (c : Cursor) (fs rest : List ℕ) → flags_from n c ≡ Some (fs, rest) → length fs ≡ n
unfolding flags_from
flags_count zero c fs rest e = ap length (sym (ap (λ (r : List ℕ × List ℕ). r.0) (same_Some _ _ e)))
flags_count (suc n) c fs rest e =
    option_and_then_some (λ (d : Cursor). with_front d.flag (flags_from n d)) (next_flag c) (fs, rest) e (λ d q w.
    let f = front_is d.flag _ fs rest w in
    ap length f.2 ∙ ap suc (flags_count n d f.0 rest f.1))

deltas_count : (short same : ℕ) (fs bytes ds rest : List ℕ) → deltas_from short same fs bytes ≡ Some (ds, rest)
    → length ds ≡ length fs
unfolding deltas_from
deltas_count short same [] bytes ds rest e = ap length (sym (ap (λ (r : List ℕ × List ℕ). r.0) (same_Some _ _ e)))
deltas_count short same (f ∷ fs) bytes ds rest e =
    option_and_then_some (λ (d : ℕ × List ℕ). with_front d.0 (deltas_from short same fs d.1)) (delta_of short same f bytes)
    (ds, rest) e (λ d q w.
    let g = front_is d.0 _ ds rest w in
    ap length g.2 ∙ ap suc (deltas_count short same fs d.1 g.0 rest g.1))

points_count : (fs dxs dys : List ℕ) (x y : ℕ) → length dxs ≡ length fs → length dys ≡ length fs
    → length (points_of fs dxs dys x y) ≡ length fs
unfolding points_of
points_count [] dxs dys x y h k = refl
points_count (f ∷ fs) [] dys x y h k = absurd (omega arith)
points_count (f ∷ fs) (dx ∷ dxs) [] x y h k = absurd (omega arith)
points_count (f ∷ fs) (dx ∷ dxs) (dy ∷ dys) x y h k = ap suc (points_count fs dxs dys _ _ (omega arith) (omega arith))

pub outline_count : (count : ℕ) (bytes : List ℕ) (points : List GlyphPoint) → glyph_points_of count bytes ≡ Some points
    → length points ≡ count
unfolding glyph_points_of
outline_count count bytes points e = grind (arith, option_and_then_some, same_Some, points_count, deltas_count, flags_count)

-- points whose bytes are complete are as many as asked for
pub seen_count : (count : ℕ) (bytes xs ys : List ℕ) → IsSome (flags_from count (start bytes))
    → IsSome (deltas_from x_short_vector x_is_same_or_positive_x_short_vector (list_in (flags_from count (start bytes))) xs)
    → IsSome (deltas_from y_short_vector y_is_same_or_positive_y_short_vector (list_in (flags_from count (start bytes))) ys)
    → length (points_seen (list_in (flags_from count (start bytes))) xs ys 0 0) ≡ count
seen_count count bytes xs ys hf hx hy =
    let f = some_read _ hf in
    let x = some_read _ hx in
    let y = some_read _ hy in
    let flags = flags_count count (start bytes) _ f.0 f.1 in
    points_count _ _ _ 0 0 (deltas_count _ _ _ _ _ x.0 x.1) (deltas_count _ _ _ _ _ y.0 y.1) ∙ flags
  where
    some_read : {X : Type 0} (o : Option (List X × List ℕ)) → IsSome o → (rest : List ℕ) × (o ≡ Some (list_in o, rest))
    some_read {X} None h = absurd (cc)
    some_read {X} (Some p) h = (p.1, refl)

-- The pieces of an outline with reversed contours are its pieces reversed, in another order: `reversal_reverses_spans`.
-- For the law `reversal`.
use Rattle.std.proofs.Common.{◌≡◌, refl, sym, ap, ◌∙◌, subst, ℤ, Bool, ℕ, ◌+◌, ◌-◌, ◌≤◌, List, []}
use Rattle.std.proofs.Common.{◌∷◌, ◌++◌, Option, Some, None, All, map, take, drop, length, option_to_list, append_assoc, arith}
use Rattle.std.specs.Prelude.{reverse, if◌then◌else◌}
use Rattle.std.specs.List.Sorted.{IsPermutation}
use Rattle.std.proofs.lemmas.List.{append-nil, map-append, reverse-append, length-append, length-reverse, take_at, drop_at}
use Rattle.std.proofs.lemmas.List.Elements.{All-nil, All-append, All-take, All-drop}
use Rattle.std.proofs.lemmas.List.Sorted.{IsPermutation-refl, IsPermutation-sym, IsPermutation-trans, IsPermutation-map}
use Rattle.std.proofs.lemmas.List.Sorted.{IsPermutation-reverse, IsPermutation-append, IsPermutation-to_front, All-permutation}
use Rattle.fx_winding.specs.Winding.{Span, centre}
use Rattle.fx_winding.specs.Outside.{joined}
use Rattle.fx_winding.specs.Moves.{reversed}
use Rattle.fx_winding.proofs.Reversal.{reversal_keeps_cover}
use Rattle.fx_outline.specs.declared.points.OutlinePoint.{OutlinePoint}
use Rattle.fx_outline.specs.Ends.{AreEnds}
use Rattle.fx_outline.proofs.Ends.{ends_reach}
use Rattle.fx_contour.specs.Curve.{doubled_of, middle_of, joint_of, span_at, first_or, last_or, spans_between, curve_of}
use Rattle.fx_contour.specs.Contours.{contours_from, spans_of, IsInReach}
use Rattle.fx_contour.specs.Moves.{reversed_from, reversed_points, ReversalReversesContours, ReversalReversesSpans}
use Rattle.fx_contour.specs.Moves.{ReversalKeepsBits}
use Rattle.fx_contour.proofs.Closed.{point, line_of, arc_of}
use Rattle.fx_contour.proofs.Decided.{reach_is_tested}
use Rattle.fx_contour.proofs.DrawnSpans.{drawn_spans, drawn_from}
use Rattle.fx_contour.proofs.Gather.{slice_few}

-- the line from p to q, if both are on the curve
abbrev line : OutlinePoint → OutlinePoint → Option Span
line p q = if q.on_curve then (if p.on_curve then line_of (doubled_of p) (doubled_of q) else None) else None

-- what a point q between p and r adds where each line belongs to its start, and not to its end
abbrev span_from : OutlinePoint → OutlinePoint → OutlinePoint → Option Span
span_from p q r = if q.on_curve then (if r.on_curve then line_of (doubled_of q) (doubled_of r) else None)
    else arc_of (joint_of p q) (doubled_of q) (joint_of q r)

abbrev spans_after : OutlinePoint → List OutlinePoint → OutlinePoint → List Span
spans_after p [] r = []
spans_after p (q ∷ qs) r = option_to_list (span_from p q (first_or qs r)) ++ spans_after q qs r

-- ---- lines by their ends and by their starts differ by the first line and the last
one : (px py qx qy rx ry : ℤ) (a b c : Bool) → option_to_list (line (point px py a) (point qx qy b)) ++ option_to_list
    (span_from (point px py a) (point qx qy b) (point rx ry c))
    ≡ option_to_list (span_at (point px py a) (point qx qy b) (point rx ry c)) ++ option_to_list
    (line (point qx qy b) (point rx ry c))
unfolding point
one px py qx qy rx ry a b c = grind (arith)

one_at : (p q r : OutlinePoint)
    → option_to_list (line p q) ++ option_to_list (span_from p q r) ≡ option_to_list (span_at p q r) ++ option_to_list (line q r)
unfolding point
one_at p q r = one p.x p.y q.x q.y r.x r.y p.on_curve q.on_curve r.on_curve

moved_lines : (p : OutlinePoint) (qs : List OutlinePoint) (r : OutlinePoint)
    → option_to_list (line p (first_or qs r)) ++ spans_after p qs r ≡ spans_between p qs r ++ option_to_list (line (last_or p qs) r)
moved_lines p [] r = append-nil (option_to_list (line p r))
moved_lines p (q ∷ qs) r =
    let n = first_or qs r in
    sym (append_assoc (option_to_list (line p q)) (option_to_list (span_from p q n)) (spans_after q qs r))
    ∙ ap (λ xs. xs ++ spans_after q qs r) (one_at p q n)
    ∙ append_assoc (option_to_list (span_at p q n)) (option_to_list (line q n)) (spans_after q qs r)
    ∙ ap (λ xs. option_to_list (span_at p q n) ++ xs) (moved_lines q qs r)
    ∙ sym (append_assoc (option_to_list (span_at p q n)) (spans_between q qs r) (option_to_list (line (last_or q qs) r)))

-- ---- the points in reverse give the spans in reverse
middle_back : (p q : OutlinePoint) → middle_of p q ≡ middle_of q p
middle_back p q = grind (arith)

turned : (px py qx qy rx ry : ℤ) (a b c : Bool) → option_to_list (span_at (point rx ry c) (point qx qy b) (point px py a)) ≡ reverse
    (map reversed (option_to_list (span_from (point px py a) (point qx qy b) (point rx ry c))))
unfolding point
turned px py qx qy rx ry a b c = grind (arith, arc_of, middle_back, point)

turned_at : (p q r : OutlinePoint) → option_to_list (span_at r q p) ≡ reverse (map reversed (option_to_list (span_from p q r)))
unfolding point
turned_at p q r = turned p.x p.y q.x q.y r.x r.y p.on_curve q.on_curve r.on_curve

first_push : (xs : List OutlinePoint) (q r : OutlinePoint) → first_or (xs ++ q ∷ []) r ≡ first_or xs q
first_push [] q r = refl
first_push (x ∷ xs) q r = refl

last_push : (d : OutlinePoint) (xs : List OutlinePoint) (q : OutlinePoint) → last_or d (xs ++ q ∷ []) ≡ q
last_push d [] q = refl
last_push d (x ∷ xs) q = last_push x xs q

reverse_more : (q : OutlinePoint) (qs : List OutlinePoint) → reverse (q ∷ qs) ≡ reverse qs ++ q ∷ []
reverse_more q qs = reverse-append (q ∷ []) qs

first_back : (xs : List OutlinePoint) (d : OutlinePoint) → first_or (reverse xs) d ≡ last_or d xs
first_back [] d = refl
first_back (x ∷ xs) d = ap (λ l. first_or l d) (reverse_more x xs) ∙ first_push (reverse xs) x d ∙ first_back xs x

last_back : (d : OutlinePoint) (xs : List OutlinePoint) → last_or d (reverse xs) ≡ first_or xs d
last_back d [] = refl
last_back d (x ∷ xs) = ap (last_or d) (reverse_more x xs) ∙ last_push d (reverse xs) x

between_push : (p : OutlinePoint) (xs : List OutlinePoint) (q r : OutlinePoint)
    → spans_between p (xs ++ q ∷ []) r ≡ spans_between p xs q ++ option_to_list (span_at (last_or p xs) q r)
between_push p [] q r = append-nil (option_to_list (span_at p q r))
between_push p (x ∷ xs) q r = (λ i. option_to_list (span_at p x (first_push xs q r i)) ++ between_push x xs q r i)
    ∙ sym (append_assoc (option_to_list (span_at p x (first_or xs q))) (spans_between x xs q)
    (option_to_list (span_at (last_or x xs) q r)))

between_back : (p : OutlinePoint) (qs : List OutlinePoint) (r : OutlinePoint)
    → spans_between r (reverse qs) p ≡ reverse (map reversed (spans_after p qs r))
between_back p [] r = refl
between_back p (q ∷ qs) r =
    let n = first_or qs r in
    ap (λ l. spans_between r l p) (reverse_more q qs)
    ∙ between_push r (reverse qs) q p
    ∙ (λ i. between_back q qs r i ++ option_to_list (span_at (last_back r qs i) q p))
    ∙ ap (λ xs. reverse (map reversed (spans_after q qs r)) ++ xs) (turned_at p q n)
    ∙ sym (reverse-append (map reversed (option_to_list (span_from p q n))) (map reversed (spans_after q qs r)))
    ∙ ap reverse (sym (map-append reversed (option_to_list (span_from p q n)) (spans_after q qs r)))

-- ---- a contour
rotated : (l : Option Span) (xs ys : List Span) → option_to_list l ++ xs ≡ ys ++ option_to_list l → IsPermutation xs ys
rotated None xs ys e = subst (IsPermutation xs) (e ∙ append-nil ys) (IsPermutation-refl xs)
rotated (Some l) xs [] e = let k : xs ≡ [] = cc in subst (IsPermutation xs) k (IsPermutation-refl xs)
rotated (Some l) xs (y ∷ ys) e =
    let h : l ≡ y = cc in
    let k : xs ≡ ys ++ l ∷ [] = cc in
    subst (λ zs. IsPermutation zs (y ∷ ys)) (sym k)
    (subst (λ z. IsPermutation (ys ++ l ∷ []) (z ∷ ys)) h (IsPermutation-to_front ys l))

curve_cyclic : (xs : List OutlinePoint) (d : OutlinePoint) → 2 ≤ length xs
    → curve_of xs ≡ spans_between (last_or d xs) xs (first_or xs d)
curve_cyclic xs d h = grind (arith, h)

curve_back : (points : List OutlinePoint) → IsPermutation (map reversed (curve_of points)) (curve_of (reverse points))
curve_back [] = IsPermutation-refl []
curve_back (p ∷ []) = IsPermutation-refl []
curve_back (p ∷ q ∷ qs) =
    let xs = p ∷ q ∷ qs in
    let last = last_or q qs in
    let after = spans_after last xs p in
    let long : 2 ≤ length (reverse xs) = omega (arith, length-reverse xs) in
    let e : curve_of (reverse xs) ≡ reverse (map reversed after) =
    curve_cyclic (reverse xs) p long
    ∙ (λ i. spans_between (last_back p xs i) (reverse xs) (first_back xs p i))
    ∙ between_back last xs p in
    let same = rotated (line last p) after (curve_of xs) (moved_lines last xs p) in
    subst (IsPermutation (map reversed (curve_of xs))) (sym e)
    (IsPermutation-trans (map reversed (curve_of xs)) (map reversed after) (reverse (map reversed after))
    (IsPermutation-map reversed (curve_of xs) after (IsPermutation-sym after (curve_of xs) same))
    (IsPermutation-reverse (map reversed after)))

-- ---- an outline
all_back : (cs : List (List OutlinePoint))
    → IsPermutation (map reversed (joined (map curve_of cs))) (joined (map curve_of (map reverse cs)))
all_back [] = IsPermutation-refl []
all_back (c ∷ cs) = subst (λ xs. IsPermutation xs (curve_of (reverse c) ++ joined (map curve_of (map reverse cs))))
    (sym (map-append reversed (curve_of c) (joined (map curve_of cs))))
    (IsPermutation-append (map reversed (curve_of c)) (curve_of (reverse c)) (map reversed (joined (map curve_of cs)))
    (joined (map curve_of (map reverse cs))) (curve_back c) (all_back cs))

length_part : (start next : ℕ) (points : List OutlinePoint) → start ≤ next → next ≤ length points
    → length (reverse (take (next - start) (drop start points))) ≡ next - start
length_part start next points h k = length-reverse (take (next - start) (drop start points)) ∙ slice_few start next points h k

contours_back : (before : List OutlinePoint) (start : ℕ) (es : List ℕ) (points : List OutlinePoint) → length before ≡ start
    → AreEnds start es (length points)
    → contours_from start es (before ++ reversed_from start es points) ≡ map reverse (contours_from start es points)
contours_back before start [] points n h = refl
contours_back before start (e ∷ es) points n h =
    let reach = ends_reach (e + 1) es (length points) h.1 in
    let part = reverse (take (e + 1 - start) (drop start points)) in
    let rest = reversed_from (e + 1) es points in
    let long = length_part start (e + 1) points h.0 reach in
    let first : take (e + 1 - start) (drop start (before ++ (part ++ rest))) ≡ part =
    ap (take (e + 1 - start)) (drop_at before (part ++ rest) start n) ∙ take_at part rest (e + 1 - start) long in
    let low = h.0 in
    let whole : length (before ++ part) ≡ e + 1 = omega (arith, length-append before part, long, low, n) in
    let others : contours_from (e + 1) es (before ++ (part ++ rest)) ≡ map reverse (contours_from (e + 1) es points) =
    ap (contours_from (e + 1) es) (sym (append_assoc before part rest))
    ∙ contours_back (before ++ part) (e + 1) es points whole h.1 in
    λ i. first i ∷ others i

pub reversal_reverses_contours : ReversalReversesContours
reversal_reverses_contours ends points h = contours_back [] 0 ends points refl h

pub reversal_reverses_spans : ReversalReversesSpans
reversal_reverses_spans ends points h = grind (arith, ends, points, h, reversal_reverses_contours, all_back)

-- ---- within the limits
all_reversed : (start : ℕ) (es : List ℕ) (points : List OutlinePoint) → All IsInReach points
    → All IsInReach (reversed_from start es points)
all_reversed start [] points h = All-nil IsInReach
all_reversed start (e ∷ es) points h =
    let part = take (e + 1 - start) (drop start points) in
    let near = All-take IsInReach (e + 1 - start) (drop start points) (All-drop IsInReach start points h) in
    All-append IsInReach (reverse part) (reversed_from (e + 1) es points)
    (All-permutation IsInReach part (reverse part) (IsPermutation-reverse part) near) (all_reversed (e + 1) es points h)

pub reversal_keeps_bits : ReversalKeepsBits
reversal_keeps_bits ends points ss h d =
    let s = drawn_spans ends points ss d in
    let near = (reach_is_tested points).0 s.0 in
    let tested = (reach_is_tested (reversed_points ends points)).1 (all_reversed 0 ends points near) in
    let same = subst (λ xs. IsPermutation (map reversed xs) (spans_of ends (reversed_points ends points))) s.1
    (reversal_reverses_spans ends points h) in (
      spans_of ends (reversed_points ends points),
      drawn_from ends (reversed_points ends points) tested,
      λ i j. reversal_keeps_cover (centre i j) ss (spans_of ends (reversed_points ends points)) same,
    )

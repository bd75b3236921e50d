-- A walk along a contour adds a piece for each point: `walk_more`.
-- For the loop of `add_contour`.
use Rattle.std.proofs.Common.{◌≡◌, refl, sym, ap, subst, ◌∙◌, ℕ, ◌+◌, ◌<◌, ◌≤◌, List, [], ◌∷◌, ◌++◌, All, map, drop}
use Rattle.std.proofs.Common.{length, get_or, arith, Option, Some, None, option_map, option_to_list, append_assoc, length-append}
use Rattle.std.proofs.lemmas.List.{drop_more, map-append}
use Rattle.fx_winding.specs.declared.point.Piece.{Piece}
use Rattle.fx_winding.specs.Winding.{Span, span_of}
use Rattle.fx_outline.specs.declared.points.OutlinePoint.{OutlinePoint}
use Rattle.fx_contour.specs.Curve.{span_at, last_or, spans_between, curve_of}
use Rattle.fx_contour.specs.Contours.{IsInReach}

pub item_near : (points : List OutlinePoint) (i : ℕ) (p d : OutlinePoint) → All IsInReach points → i < length points
    → p ≡ get_or points i d → IsInReach p
item_near points i p d h k e = subst IsInReach (sym e) (h i d k)

-- the pieces made since start are those of the points before `here`, after which come the points from i on
pub record Walked (made start : List Piece) (points : List OutlinePoint) (i : ℕ) (before here first : OutlinePoint) : Type 0 where
  pub spans : map span_of made ++ spans_between before (here ∷ drop i points) first ≡ map span_of start ++ curve_of points
  pub few : length made + 1 ≤ length start + i
  pub near : IsInReach here

last_get : (p : OutlinePoint) (qs : List OutlinePoint) (d : OutlinePoint) → last_or p qs ≡ get_or (p ∷ qs) (length qs) d
last_get p [] d = refl
last_get p (q ∷ qs) d = last_get q qs d

curve_from_last : (points : List OutlinePoint) (k : ℕ) (before first d e : OutlinePoint) → 0 < k → k + 1 ≡ length points
    → first ≡ get_or points 0 d → before ≡ get_or points k e → spans_between before points first ≡ curve_of points
curve_from_last [] k before first d e h n f b = absurd (omega arith)
curve_from_last (p ∷ []) k before first d e h n f b = absurd (omega arith)
curve_from_last (p ∷ q ∷ qs) k before first d e h n f b =
    let m : k ≡ length (q ∷ qs) = omega arith in
    let l = last_get p (q ∷ qs) e in
    let s : before ≡ last_or q qs = b ∙ (ap (λ j. get_or (p ∷ q ∷ qs) j e) m ∙ sym l) in
    rw (s, f) refl

pub walk_init : (made : List Piece) (points : List OutlinePoint) (k : ℕ) (before first d e : OutlinePoint) → All IsInReach points
    → 0 < k → k + 1 ≡ length points → first ≡ get_or points 0 d → before ≡ get_or points k e
    → Walked made made points 1 before first first
walk_init made points k before first d e a h n f b =
    let all = map span_of made ++ curve_of points in
    let P : List OutlinePoint → Type 0 = λ xs. map span_of made ++ spans_between before xs first ≡ all in
    let Q : OutlinePoint → Type 0 = λ x. map span_of made ++ spans_between before (x ∷ drop 1 points) first ≡ all in
    let whole : P points = ap (λ ss. map span_of made ++ ss) (curve_from_last points k before first d e h n f b) in
    record {
      spans = subst Q (sym f) (subst P (drop_more points 0 d (omega arith)) whole);
      few = omega arith;
      near = item_near points 0 first d a (omega arith) f;
    }

option_list : (o : Option Piece) → map span_of (option_to_list o) ≡ option_to_list (option_map span_of o)
option_list None = refl
option_list (Some s) = refl

option_few : (o : Option Piece) → length (option_to_list o) ≤ 1
option_few None = omega arith
option_few (Some s) = omega arith

-- the pieces of a point added to those made
pub added : (made after : List Piece) (piece : Option Piece) (o : Option Span) → option_map span_of piece ≡ o
    → after ≡ made ++ option_to_list piece → map span_of after ≡ map span_of made ++ option_to_list o
added made after piece o s a = grind (arith, s, a, map-append, option_list)

pub walk_more : (made after start : List Piece) (points : List OutlinePoint) (i : ℕ) (before here next first d : OutlinePoint)
    (piece : Option Piece) → i < length points → next ≡ get_or points i d → option_map span_of piece ≡ span_at before here next
    → after ≡ made ++ option_to_list piece → IsInReach next → Walked made start points i before here first
    → Walked after start points (i + 1) here next first
walk_more made after start points i before here next first d piece h e s a near w =
    let rest = drop (i + 1) points in
    let all = map span_of start ++ curve_of points in
    let P : List OutlinePoint → Type 0 = λ xs. map span_of made ++ spans_between before (here ∷ xs) first ≡ all in
    let Q : OutlinePoint → Type 0 = λ x. map span_of made ++ spans_between before (here ∷ x ∷ rest) first ≡ all in
    let one = option_to_list (span_at before here next) in
    let whole : map span_of made ++ (one ++ spans_between here (next ∷ rest) first) ≡ all =
    subst Q (sym e) (subst P (drop_more points i d h) w.spans) in
    record {
      spans = ap (λ (xs : List Span). xs ++ spans_between here (next ∷ rest) first)
          (added made after piece (span_at before here next) s a)
          ∙ append_assoc (map span_of made) one (spans_between here (next ∷ rest) first) ∙ whole;
      few = omega (arith, ap length a, length-append made (option_to_list piece), option_few piece, w.few);
      near = near;
    }

-- The pieces of the contours so far, and at the end of all, are those of the outline: `gather_more`, `gather_end`.
-- For the loop of `pieces`.
use Rattle.std.proofs.Common.{◌≡◌, sym, subst, ◌∙◌, ℕ, ◌+◌, ◌-◌, ◌<◌, ◌≤◌, List, ◌∷◌, ◌++◌, map, drop, take}
use Rattle.std.proofs.Common.{length, get_or, append_assoc, drop_of_length-le, arith}
use Rattle.std.proofs.lemmas.List.{drop_more, append-nil, length-take, length-drop}
use Rattle.fx_winding.specs.declared.point.Piece.{Piece}
use Rattle.fx_outline.specs.declared.points.OutlinePoint.{OutlinePoint}
use Rattle.fx_outline.specs.Ends.{AreEnds}
use Rattle.fx_outline.proofs.Ends.{ends_reach}
use Rattle.fx_winding.specs.Winding.{Span, span_of}
use Rattle.fx_winding.specs.Outside.{joined}
use Rattle.fx_contour.specs.Curve.{curve_of}
use Rattle.fx_contour.specs.Contours.{contours_from}

-- the pieces made are those of the first k contours, and the next one begins at start
pub record PiecesMade (made : List Piece) (start : ℕ) (ends : List ℕ) (k : ℕ) (points : List OutlinePoint) : Type 0 where
  pub spans : map span_of made ++ joined (map curve_of (contours_from start (drop k ends) points)) ≡ joined
      (map curve_of (contours_from 0 ends points))
  pub ends_left : AreEnds start (drop k ends) (length points)
  pub few : length made ≤ start
  pub within : start ≤ length points

pub ends_left_at : (start : ℕ) (ends : List ℕ) (k : ℕ) (points : List OutlinePoint) (e d : ℕ)
    → AreEnds start (drop k ends) (length points) → k < length ends → e ≡ get_or ends k d
    → AreEnds start (e ∷ drop (k + 1) ends) (length points)
ends_left_at start ends k points e d a h s = grind (arith, a, h, s, drop_more)

pub next_within : (start : ℕ) (ends : List ℕ) (k : ℕ) (points : List OutlinePoint) (e d : ℕ)
    → AreEnds start (drop k ends) (length points) → k < length ends → e ≡ get_or ends k d
    → (start ≤ e + 1) × (e + 1 ≤ length points)
next_within start ends k points e d a h s =
    let l = ends_left_at start ends k points e d a h s in
    (l.0, ends_reach (e + 1) (drop (k + 1) ends) (length points) l.1)

pub slice_few : (start next : ℕ) (points : List OutlinePoint) → start ≤ next → next ≤ length points
    → length (take (next - start) (drop start points)) ≡ next - start
slice_few start next points h k =
    let a = length-take (next - start) (drop start points) in let b = length-drop start points in omega arith

pub gather_more : (made after : List Piece) (start : ℕ) (ends : List ℕ) (k : ℕ) (points : List OutlinePoint) (e d : ℕ)
    → PiecesMade made start ends k points → k < length ends → e ≡ get_or ends k d
    → map span_of after ≡ map span_of made ++ curve_of (take (e + 1 - start) (drop start points))
    → length after ≤ length made + length (take (e + 1 - start) (drop start points)) → PiecesMade after (e + 1) ends (k + 1) points
gather_more made after start ends k points e d g h s m n =
    let l = ends_left_at start ends k points e d g.ends_left h s in
    let w = next_within start ends k points e d g.ends_left h s in
    let c = curve_of (take (e + 1 - start) (drop start points)) in
    let rest = joined (map curve_of (contours_from (e + 1) (drop (k + 1) ends) points)) in
    let all = joined (map curve_of (contours_from 0 ends points)) in
    let P : List ℕ → Type 0 = λ xs. map span_of made ++ joined (map curve_of (contours_from start xs points)) ≡ all in
    let Q : ℕ → Type 0 =
    λ x. map span_of made ++ joined (map curve_of (contours_from start (x ∷ drop (k + 1) ends) points)) ≡ all in
    let all_spans : map span_of made ++ (c ++ rest) ≡ all = subst Q (sym s) (subst P (drop_more ends k d h) g.spans) in
    let R : List Span → Type 0 = λ xs. xs ++ rest ≡ all in
    let f = slice_few start (e + 1) points w.0 w.1 in
    record {
      spans = subst R (sym m) (append_assoc (map span_of made) c rest ∙ all_spans);
      ends_left = l.1;
      few = (let x = g.few in let y = w.0 in omega arith);
      within = w.1;
    }

pub gather_end : (made : List Piece) (start : ℕ) (ends : List ℕ) (k : ℕ) (points : List OutlinePoint)
    → PiecesMade made start ends k points → length ends ≤ k → map span_of made ≡ joined (map curve_of (contours_from 0 ends points))
gather_end made start ends k points g h = grind (arith, g, h, append-nil, drop_of_length-le)

-- An outline whose points are moved draws its pieces moved, if the places of its curve move along: `drawn_moved`.
-- Serves the law `shift`, and the laws of `fx_symmetry`.
use Rattle.std.proofs.Common.{◌≡◌, refl, sym, ap, ◌∙◌, Bool, true, false, ℕ, ◌+◌, List, [], ◌∷◌, ◌++◌, arith}
use Rattle.std.proofs.Common.{Option, Some, None, map, option_map, option_to_list, if◌then◌else◌, Ok}
use Rattle.std.proofs.lemmas.List.{map-append, take-map, drop-map}
use Rattle.fx_winding.specs.Area.{Place}
use Rattle.fx_winding.specs.Winding.{Span}
use Rattle.fx_winding.specs.Outside.{joined}
use Rattle.fx_outline.specs.declared.points.OutlinePoint.{OutlinePoint}
use Rattle.fx_contour.specs.Curve.{doubled_of, middle_of, joint_of, span_at, first_or, last_or, spans_between, curve_of}
use Rattle.fx_contour.specs.Contours.{contours_from, spans_of, drawn_of}
use Rattle.fx_contour.proofs.Closed.{line_of, arc_of}
use Rattle.fx_contour.proofs.DrawnSpans.{drawn_spans}

-- the places of moved points, and the middles between them, are the moved places
pub record Follows (f : OutlinePoint → OutlinePoint) (g : Place → Place) : Type 0 where
  pub kept : (p : OutlinePoint) → (f p).on_curve ≡ p.on_curve
  pub twice : (p : OutlinePoint) → doubled_of (f p) ≡ g (doubled_of p)
  pub middle : (p q : OutlinePoint) → middle_of (f p) (f q) ≡ g (middle_of p q)

-- a piece with its places moved
abbrev pub moved : (Place → Place) → Span → Span
moved g s = record { a = g s.a; b = option_map g s.b; c = g s.c }

-- a function of one of two values
either_of : {X Y : Type 0} (g : X → Y) (b : Bool) (x y : X) → (if b then g x else g y) ≡ g (if b then x else y)
either_of g true x y = refl
either_of g false x y = refl

joint_moved : (f : OutlinePoint → OutlinePoint) (g : Place → Place) → Follows f g → (p q : OutlinePoint)
    → joint_of (f p) (f q) ≡ g (joint_of p q)
joint_moved f g h p q = grind (arith, h, either_of)

span_moved : (f : OutlinePoint → OutlinePoint) (g : Place → Place) → Follows f g → (p q r : OutlinePoint)
    → span_at (f p) (f q) (f r) ≡ option_map (moved g) (span_at p q r)
span_moved f g h p q r = grind (arith, h, line_of, arc_of, joint_moved, either_of)

list_moved : (f : Span → Span) (o : Option Span) → option_to_list (option_map f o) ≡ map f (option_to_list o)
list_moved f None = refl
list_moved f (Some s) = refl

first_moved : (f : OutlinePoint → OutlinePoint) (qs : List OutlinePoint) (r : OutlinePoint)
    → first_or (map f qs) (f r) ≡ f (first_or qs r)
first_moved f [] r = refl
first_moved f (q ∷ qs) r = refl

last_moved : (f : OutlinePoint → OutlinePoint) (p : OutlinePoint) (qs : List OutlinePoint)
    → last_or (f p) (map f qs) ≡ f (last_or p qs)
last_moved f p [] = refl
last_moved f p (q ∷ qs) = last_moved f q qs

between_moved : (f : OutlinePoint → OutlinePoint) (g : Place → Place) → Follows f g → (p : OutlinePoint) (qs : List OutlinePoint)
    (r : OutlinePoint) → spans_between (f p) (map f qs) (f r) ≡ map (moved g) (spans_between p qs r)
between_moved f g h p [] r = refl
between_moved f g h p (q ∷ qs) r = grind (arith, h, first_moved, span_moved, list_moved, map-append, between_moved f g h q qs r)

curve_moved : (f : OutlinePoint → OutlinePoint) (g : Place → Place) → Follows f g → (points : List OutlinePoint)
    → curve_of (map f points) ≡ map (moved g) (curve_of points)
curve_moved f g h [] = refl
curve_moved f g h (p ∷ []) = refl
curve_moved f g h (p ∷ q ∷ qs) = ap (λ d. spans_between d (map f (p ∷ q ∷ qs)) (f p)) (last_moved f q qs)
    ∙ between_moved f g h (last_or q qs) (p ∷ q ∷ qs) p

contours_moved : (f : OutlinePoint → OutlinePoint) (start : ℕ) (es : List ℕ) (points : List OutlinePoint)
    → contours_from start es (map f points) ≡ map (map f) (contours_from start es points)
contours_moved f start [] points = refl
contours_moved f start (e ∷ es) points = grind (arith, drop-map, take-map, contours_moved f (e + 1) es points)

all_moved : (f : OutlinePoint → OutlinePoint) (g : Place → Place) → Follows f g → (cs : List (List OutlinePoint))
    → joined (map curve_of (map (map f) cs)) ≡ map (moved g) (joined (map curve_of cs))
all_moved f g h [] = refl
all_moved f g h (c ∷ cs) =
    (λ i. curve_moved f g h c i ++ all_moved f g h cs i) ∙ sym (map-append (moved g) (curve_of c) (joined (map curve_of cs)))

pub moved_spans : (f : OutlinePoint → OutlinePoint) (g : Place → Place) → Follows f g → (ends : List ℕ) (points : List OutlinePoint)
    → spans_of ends (map f points) ≡ map (moved g) (spans_of ends points)
moved_spans f g h ends points =
    ap (λ cs. joined (map curve_of cs)) (contours_moved f 0 ends points) ∙ all_moved f g h (contours_from 0 ends points)

-- ---- within the limits
-- what the moved outline draws is moved
pub drawn_moved : (f : OutlinePoint → OutlinePoint) (g : Place → Place) → Follows f g → (ends : List ℕ) (points : List OutlinePoint)
    (ss ts : List Span) → drawn_of ends points ≡ Ok ss → drawn_of ends (map f points) ≡ Ok ts → map (moved g) ss ≡ ts
drawn_moved f g h ends points ss ts d e = grind (arith, h, d, e, drawn_spans, moved_spans)

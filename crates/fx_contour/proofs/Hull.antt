-- A curve reaches as far as its contour's points: its other points lie half way between two of them: `hull_of`.
-- For `Extent::with_contour` and `Extent::of_curves`.
use Rattle.std.proofs.Common.{◌≡◌, ◌⊎◌, inl, inr, ℤ, Bool, true, false, List, [], ◌∷◌, ◌++◌, Option, Some, refl}
use Rattle.std.proofs.Common.{length, ◌≤◌, sym, subst, arith, option_to_list, ◌↔◌}
use Rattle.std.proofs.lemmas.Int.{by_lt_z}
use Rattle.fx_winding.specs.Area.{Place}
use Rattle.fx_winding.specs.Winding.{Span}
use Rattle.fx_outline.specs.declared.points.OutlinePoint.{OutlinePoint}
use Rattle.fx_contour.specs.Curve.{doubled_of, middle_of, joint_of, span_at, first_or, last_or, spans_between, curve_of}
use Rattle.fx_contour.specs.Frames.{HasAny, HaveAny}
use Rattle.fx_contour.specs.Bounds.{Side, IsOut, HavePoint}
use Rattle.fx_contour.proofs.Closed.{line_of, arc_of}

-- a midpoint that has P lies between two points of which one has P
abbrev pub IsOfEnds : (Place → Type 0) → Type 0
IsOfEnds P = (p q : OutlinePoint) → P (middle_of p q) → P (doubled_of p) ⊎ P (doubled_of q)

pub out_of_ends : (side : Side) (t : ℤ) → IsOfEnds (IsOut side t)
out_of_ends side t h i j = grind (arith, h, i, j, by_lt_z)

-- ---- lists of spans, one after the other

pub have_either : (P : Place → Type 0) (xs ys : List Span) → HaveAny P (xs ++ ys) → HaveAny P xs ⊎ HaveAny P ys
have_either P [] ys h = inr h
have_either P (x ∷ xs) ys (inl h) = inl (inl h)
have_either P (x ∷ xs) ys (inr h) = elim (have_either P xs ys h) [ inl a ↦ inl (inr a) | inr b ↦ inr b ]

pub have_left : (P : Place → Type 0) (xs ys : List Span) → HaveAny P xs → HaveAny P (xs ++ ys)
have_left P [] ys h = absurd h
have_left P (x ∷ xs) ys (inl h) = inl h
have_left P (x ∷ xs) ys (inr h) = inr (have_left P xs ys h)

pub have_right : (P : Place → Type 0) (xs ys : List Span) → HaveAny P ys → HaveAny P (xs ++ ys)
have_right P [] ys h = h
have_right P (x ∷ xs) ys h = inr (have_right P xs ys h)

-- ---- each point of the curve

joint_one : (P : Place → Type 0) → IsOfEnds P → (p q : OutlinePoint) → P (joint_of p q) → P (doubled_of p) ⊎ P (doubled_of q)
joint_one P d p q h = grind (arith, d, h)

-- a point of what q adds gives one of the three
span_one : (P : Place → Type 0) → IsOfEnds P → (p q r : OutlinePoint) → HaveAny P (option_to_list (span_at p q r))
    → P (doubled_of p) ⊎ (P (doubled_of q) ⊎ P (doubled_of r))
span_one P d p q r h = grind (arith, d, h, joint_one, line_of, arc_of)

first_one : (P : Place → Type 0) (qs : List OutlinePoint) (r : OutlinePoint) → P (doubled_of (first_or qs r))
    → HavePoint P qs ⊎ P (doubled_of r)
first_one P [] r h = inr h
first_one P (q ∷ qs) r h = inl (inl h)

last_one : (P : Place → Type 0) (q : OutlinePoint) (qs : List OutlinePoint) → P (doubled_of (last_or q qs)) → HavePoint P (q ∷ qs)
last_one P q [] h = inl h
last_one P q (s ∷ qs) h = inr (last_one P s qs h)

-- a point of one of two lists, of p, of q or of what follows, or of what follows q alone
of_either : {X Y A B N Q R : Type 0} → (X → A ⊎ (B ⊎ N)) → (N → Q ⊎ R) → (Y → B ⊎ (Q ⊎ R)) → X ⊎ Y → A ⊎ ((B ⊎ Q) ⊎ R)
of_either f g h k = grind arith

between_one : (P : Place → Type 0) → IsOfEnds P → (p : OutlinePoint) (qs : List OutlinePoint) (r : OutlinePoint)
    → HaveAny P (spans_between p qs r) → P (doubled_of p) ⊎ (HavePoint P qs ⊎ P (doubled_of r))
between_one P d p [] r h = absurd h
between_one P d p (q ∷ qs) r h = of_either (span_one P d p q (first_or qs r)) (first_one P qs r) (between_one P d q qs r)
    (have_either P (option_to_list (span_at p q (first_or qs r))) (spans_between q qs r) h)

curve_point : (P : Place → Type 0) → IsOfEnds P → (p q : OutlinePoint) (qs : List OutlinePoint) → HaveAny P (curve_of (p ∷ q ∷ qs))
    → HavePoint P (p ∷ q ∷ qs)
curve_point P d p q qs h = grind (arith, between_one P d (last_or q qs) (p ∷ q ∷ qs) p h, last_one P q qs)

-- ---- each point of the contour

on_or_off : (b : Bool) → (b ≡ true) ⊎ (b ≡ false)
on_or_off true = inl refl
on_or_off false = inr refl

arc_at : (p q r : OutlinePoint) → q.on_curve ≡ false → span_at p q r ≡ arc_of (joint_of p q) (doubled_of q) (joint_of q r)
arc_at p q r e = rw e refl

line_at : (p q r : OutlinePoint) → q.on_curve ≡ true → p.on_curve ≡ true → span_at p q r ≡ line_of (doubled_of p) (doubled_of q)
line_at p q r e f = rw (e, f) refl

joint_at : (p q : OutlinePoint) → p.on_curve ≡ false → q.on_curve ≡ true → joint_of p q ≡ doubled_of q
joint_at p q e f = rw (e, f) refl

have_span : (P : Place → Type 0) (o : Option Span) (s : Span) → o ≡ Some s → HasAny P s → HaveAny P (option_to_list o)
have_span P o s e h = subst (λ (x : Option Span). HaveAny P (option_to_list x)) (sym e) (inl h)

-- p is off the curve and q on it, so that the arc of p ends in q; and q has P
record Ends (P : Place → Type 0) (p q : OutlinePoint) : Type 0 where
  off : p.on_curve ≡ false
  on : q.on_curve ≡ true
  has : P (doubled_of q)

arc_ends : (P : Place → Type 0) (p q r : OutlinePoint) → Ends P q r → HaveAny P (option_to_list (span_at p q r))
arc_ends P p q r e = grind (arith, e, have_span, arc_at, joint_at)

-- the last point's arc ends in r
last_arc : (P : Place → Type 0) (p q : OutlinePoint) (qs : List OutlinePoint) (r : OutlinePoint) → Ends P (last_or q qs) r
    → HaveAny P (spans_between p (q ∷ qs) r)
last_arc P p q [] r e = have_left P (option_to_list (span_at p q r)) [] (arc_ends P p q r e)
last_arc P p q (s ∷ qs) r e = have_right P (option_to_list (span_at p q s)) (spans_between q (s ∷ qs) r) (last_arc P q s qs r e)

-- a point of the list is one of a span, or p's arc ends in it
point_one : (P : Place → Type 0) (p : OutlinePoint) (qs : List OutlinePoint) (r : OutlinePoint) → HavePoint P qs
    → HaveAny P (spans_between p qs r) ⊎ Ends P p (first_or qs r)
point_one P p [] r h = absurd h
point_one P p (q ∷ qs) r (inl h) = grind (arith, on_or_off, have_left, have_span, arc_at, line_at)
point_one P p (q ∷ qs) r (inr h) = elim (point_one P q qs r h) [
  | inl k ↦ inl (have_right P (option_to_list (span_at p q (first_or qs r))) (spans_between q qs r) k)
  | inr e ↦ inl (have_left P _ (spans_between q qs r) (arc_ends P p q (first_or qs r) e))
]

point_curve : (P : Place → Type 0) (p q : OutlinePoint) (qs : List OutlinePoint) → HavePoint P (p ∷ q ∷ qs)
    → HaveAny P (curve_of (p ∷ q ∷ qs))
point_curve P p q qs h = elim (point_one P (last_or q qs) (p ∷ q ∷ qs) p h) [
  | inl k ↦ k
  | inr e ↦ last_arc P (last_or q qs) p (q ∷ qs) p e
]

-- a side of the curve is one of its points
pub hull_of : (side : Side) (t : ℤ) (points : List OutlinePoint) → 2 ≤ length points
    → HaveAny (IsOut side t) (curve_of points) ↔ HavePoint (IsOut side t) points
hull_of side t [] h = absurd (omega arith)
hull_of side t (p ∷ []) h = absurd (omega arith)
hull_of side t (p ∷ q ∷ qs) h = (curve_point (IsOut side t) (out_of_ends side t) p q qs, point_curve (IsOut side t) p q qs)

-- if a place of the curve has P, a point of the contour has
pub of_curve : (P : Place → Type 0) → IsOfEnds P → (points : List OutlinePoint) → HaveAny P (curve_of points) → HavePoint P points
of_curve P d [] n = n
of_curve P d (p ∷ []) n = absurd n
of_curve P d (p ∷ q ∷ qs) h = curve_point P d p q qs h

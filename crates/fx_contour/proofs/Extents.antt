-- The least and the greatest coordinate of spans are reached by their points, and pass none: `least_reaches`, `greatest_reaches`.
-- For `dropout_frame_around`, the law `dropout`, and moved outlines in `fx_symmetry`.
use Rattle.std.proofs.Common.{◌≡◌, ◌⊎◌, inl, inr, refl, ℤ, ◌≤ℤ◌, neg_ℤ, List, [], ◌∷◌, ◌↔◌, arith}
use Rattle.std.proofs.lemmas.Int.{ints}
use Rattle.fx_fixed.proofs.Linear.{signed_linear}
use Rattle.fx_winding.specs.Area.{Place}
use Rattle.fx_winding.specs.Winding.{Span}
use Rattle.fx_contour.specs.Bounds.{Side, left_side, right_side, bottom_side, top_side, IsOut, ReachOf}
use Rattle.fx_contour.specs.DropoutFrames.{x_of, y_of, least_of, least, greatest}
use Rattle.fx_contour.specs.Frames.{HasAny, HaveAny}
use Rattle.fx_contour.proofs.Decided.{some_one, more}
use Rattle.fx_contour.proofs.Growing.{least_is}

-- ---- one of the points is at most t exactly if the least is

either_reaches : (A B X Y C : Type 0) → A ↔ X → B ↔ Y → C ↔ (X ⊎ Y) → (A ⊎ B) ↔ C
either_reaches A B X Y C h k m = (λ a. grind arith, λ c. grind arith)

span_reaches : (coord : Place → ℤ) (s : Span) (t : ℤ) → HasAny (λ q. coord q ≤ℤ t) s ↔ (least_of coord s ≤ℤ t)
span_reaches coord s t = grind (arith, signed_linear, either_reaches, least_is)

pub least_reaches : (coord : Place → ℤ) (s : Span) (ss : List Span) (t : ℤ)
    → HaveAny (λ q. coord q ≤ℤ t) (s ∷ ss) ↔ (least coord s ss ≤ℤ t)
least_reaches coord s [] t =
    let h = span_reaches coord s t in (λ k. elim k [ inl a ↦ h.0 a | inr n ↦ absurd n ], λ k. inl (h.1 k))
least_reaches coord s (u ∷ ss) t = either_reaches _ _ _ _ _ (span_reaches coord s t) (least_reaches coord u ss t)
    (least_is _ (least_of coord s) (least coord u ss) t refl)

pub greatest_reaches : (coord : Place → ℤ) (s : Span) (ss : List Span) (t : ℤ)
    → HaveAny (λ q. t ≤ℤ coord q) (s ∷ ss) ↔ (t ≤ℤ greatest coord s ss)
greatest_reaches coord s ss t =
    let h = least_reaches (λ q. neg_ℤ (coord q)) s ss (neg_ℤ t) in (
      λ k. let l = h.0 (more (λ q. t ≤ℤ coord q) (λ q. neg_ℤ (coord q) ≤ℤ neg_ℤ t) (s ∷ ss) k
          (λ q a. omega (arith, signed_linear, a))) in omega (arith, signed_linear, l),
      λ k. more (λ q. neg_ℤ (coord q) ≤ℤ neg_ℤ t) (λ q. t ≤ℤ coord q) (s ∷ ss) (h.1 (omega (arith, signed_linear, k)))
          (λ q a. omega (arith, signed_linear, a)),
    )

-- ---- of spans, of which there may be none

-- these are the least and the greatest
abbrev pub IsExtent : (Place → ℤ) → List Span → ℤ → ℤ → Type 0
IsExtent coord [] low high = ⊥
IsExtent coord (s ∷ ss) low high = (least coord s ss ≡ low) × (greatest coord s ss ≡ high)

-- a box that reaches as far as the points of the spans has their extents
pub box_extents : (l r d u : ℤ) (ss : List Span) → ((side : Side) (t : ℤ) → HaveAny (IsOut side t) ss ↔ ReachOf l r d u side t)
    → IsExtent x_of ss l r × IsExtent y_of ss d u
box_extents l r d u [] h = absurd ((h left_side l).1 (omega (arith, ints)))
box_extents l r d u (s ∷ ss) h = (
  (lows _ l _ (least_reaches x_of s ss) (h left_side), highs _ r _ (greatest_reaches x_of s ss) (h right_side)),
  (lows _ d _ (least_reaches y_of s ss) (h bottom_side), highs _ u _ (greatest_reaches y_of s ss) (h top_side)),
)
  where
    lows : (x y : ℤ) (P : ℤ → Type 0) → ((t : ℤ) → P t ↔ (x ≤ℤ t)) → ((t : ℤ) → P t ↔ (y ≤ℤ t)) → x ≡ y
    lows x y P h k =
        let a = (h y).0 ((k y).1 (omega (arith, ints))) in
        let b = (k x).0 ((h x).1 (omega (arith, ints))) in
        omega (arith, signed_linear, a, b)

    highs : (x y : ℤ) (P : ℤ → Type 0) → ((t : ℤ) → P t ↔ (t ≤ℤ x)) → ((t : ℤ) → P t ↔ (t ≤ℤ y)) → x ≡ y
    highs x y P h k =
        let a = (k x).0 ((h x).1 (omega (arith, ints))) in
        let b = (h y).0 ((k y).1 (omega (arith, ints))) in
        omega (arith, signed_linear, a, b)

pub low_at_most : (coord : Place → ℤ) (ss : List Span) (low high t : ℤ) → IsExtent coord ss low high
    → HaveAny (λ q. coord q ≤ℤ t) ss → low ≤ℤ t
low_at_most coord ss low high t h i = grind (arith, signed_linear, h, i, least_reaches)

pub high_at_least : (coord : Place → ℤ) (ss : List Span) (low high t : ℤ) → IsExtent coord ss low high
    → HaveAny (λ q. t ≤ℤ coord q) ss → t ≤ℤ high
high_at_least coord ss low high t h i = grind (arith, signed_linear, h, i, greatest_reaches)

-- each point lies in it
pub in_extent : (coord : Place → ℤ) (ss : List Span) (low high : ℤ) → IsExtent coord ss low high → (q : Place)
    → ((R : Place → Type 0) → R q → HaveAny R ss) → (low ≤ℤ coord q) × (coord q ≤ℤ high)
in_extent coord ss low high e q m = grind (arith, signed_linear, e, m, low_at_most, high_at_least)

-- both are coordinates of points
pub low_is : (coord : Place → ℤ) (ss : List Span) (low high : ℤ) → IsExtent coord ss low high → HaveAny (λ q. coord q ≡ low) ss
low_is coord [] low high e = absurd e
low_is coord (s ∷ ss) low high e =
    some_one (λ q. coord q ≤ℤ low) _ (s ∷ ss) ((least_reaches coord s ss low).1 (let f = e.0 in omega (arith, signed_linear, f)))
    (λ q k m. m (λ q. coord q ≡ low)
    (let i = (in_extent coord (s ∷ ss) low high e q m).0 in omega (arith, signed_linear, i, k)))

pub high_is : (coord : Place → ℤ) (ss : List Span) (low high : ℤ) → IsExtent coord ss low high → HaveAny (λ q. coord q ≡ high) ss
high_is coord [] low high e = absurd e
high_is coord (s ∷ ss) low high e = some_one (λ q. high ≤ℤ coord q) _ (s ∷ ss)
    ((greatest_reaches coord s ss high).1 (let f = e.1 in omega (arith, signed_linear, f)))
    (λ q k m. m (λ q. coord q ≡ high)
    (let i = (in_extent coord (s ∷ ss) low high e q m).1 in omega (arith, signed_linear, i, k)))

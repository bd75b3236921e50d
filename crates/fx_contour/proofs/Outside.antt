-- A pixel outside the frame is not covered (`nothing_outside_frame`): a covered place is in the bounding box (`in_box`).
-- For the clause `outside` of `frame`.
use Rattle.std.proofs.Common.{subst, ◌⊎◌, inl, inr, ◌≤ℤ◌, ◌<ℤ◌, List, [], ◌∷◌, Option, Some, None, All, arith}
use Rattle.std.proofs.lemmas.List.Elements.{All-nil, All-cons}
use Rattle.fx_fixed.proofs.Order.{below_or_not_ℤ}
use Rattle.fx_winding.specs.Area.{Place}
use Rattle.fx_winding.specs.Winding.{Span, centre, IsCovered}
use Rattle.fx_winding.specs.Outside.{HasAll, IsBeside, joined, AreOfOutline}
use Rattle.fx_winding.specs.declared.frame.Frame.{Frame}
use Rattle.fx_winding.proofs.Beside.{nothing_outside}
use Rattle.fx_contour.specs.Frames.{HasAny, HaveAny, IsInBoundingBox, IsFrameFor, NothingOutsideFrame}

pub piece_either : (P Q : Place → Type 0) → ((q : Place) → P q ⊎ Q q) → (s : Span) → HasAll P s ⊎ HasAny Q s
piece_either P Q d s = grind (arith, d)

pub either : (P Q : Place → Type 0) → ((q : Place) → P q ⊎ Q q) → (ss : List Span) → All (HasAll P) ss ⊎ HaveAny Q ss
either P Q d [] = inl (All-nil (HasAll P))
either P Q d (s ∷ ss) = grind (arith, piece_either P Q d s, either P Q d ss, All-cons)

-- a place is in the bounding box, or beside it
in_or_beside : (p : Place) (ss : List Span) → IsInBoundingBox p ss ⊎ IsBeside p ss
in_or_beside p ss =
    let a = either (λ q. p.x <ℤ q.x) (λ q. q.x ≤ℤ p.x) (λ q. below_or_not_ℤ p.x q.x) ss in
    let b = either (λ q. q.x <ℤ p.x) (λ q. p.x ≤ℤ q.x) (λ q. below_or_not_ℤ q.x p.x) ss in
    let c = either (λ q. p.y <ℤ q.y) (λ q. q.y ≤ℤ p.y) (λ q. below_or_not_ℤ p.y q.y) ss in
    let d = either (λ q. q.y <ℤ p.y) (λ q. p.y ≤ℤ q.y) (λ q. below_or_not_ℤ q.y p.y) ss in
    grind arith

-- a place that is covered is in the bounding box
pub in_box : (p : Place) (ss : List Span) → AreOfOutline ss → IsCovered p ss → IsInBoundingBox p ss
in_box p ss (contours, o, e) k =
    let P : List Span → Type 0 = λ xs. IsCovered p xs → IsInBoundingBox p xs in
    subst P e (λ c. elim (in_or_beside p (joined contours)) [ inl h ↦ h | inr b ↦ absurd (nothing_outside p contours o b c) ]) k

pub nothing_outside_frame : (ss : List Span) (f : Option Frame) → IsFrameFor f ss → NothingOutsideFrame f ss
nothing_outside_frame ss None h o col row n k = h col row (in_box (centre col row) ss o k)
nothing_outside_frame ss (Some f) h o col row n k = n ((h.pixels col row).1 (in_box (centre col row) ss o k))

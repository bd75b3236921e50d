-- The tests of an outline's limits decide the facts that they test: `reach_is_tested`, `large_is_tested`.
-- For the clauses `exact` of `pieces` and `frame`, and for the law `tested`.
use Rattle.std.proofs.Common.{◌≡◌, ◌↔◌, IsTrue, refl, sym, inl, inr, ℤ, pos, negsuc, neg_ℤ, ◌+ℤ◌, ◌*ℤ◌, ◌≤ℤ◌, int_le, ℕ, ◌⊎◌}
use Rattle.std.proofs.Common.{Bool, true, false, ◌&&◌, List, [], ◌∷◌, Option, All, Result, Ok, Err, Decides, IfOk, IfErr, arith}
use Rattle.std.proofs.lemmas.Int.{ints}
use Rattle.std.proofs.lemmas.Bool.Decides.{Decides-like, Decides-and, Decides-or, Decides-by_and}
use Rattle.std.specs.List.{list_all}
use Rattle.std.specs.Int.{int_div_euclid}
use Rattle.fx_fixed.specs.Chain.{map_ok}
use Rattle.fx_fixed.proofs.Linear.{signed_linear}
use Rattle.std.proofs.lemmas.Bool.{false_from_ne_true}
use Rattle.fx_winding.specs.declared.frame.Frame.{Frame}
use Rattle.fx_contour.specs.declared.fault.ContourFault.{ContourFault}
use Rattle.fx_contour.specs.declared.fault.ContourFault.TheVariants.{TooFar, TooLarge}
use Rattle.fx_contour.proofs.DrawnSpans.{drawn_from}
use Rattle.fx_contour.proofs.Framed.{frame_not_too_large}
use Rattle.fx_fixed.specs.Ranges.{IsWithin}
use Rattle.fx_winding.specs.Limits.{greatest_side}
use Rattle.fx_winding.specs.Area.{Place}
use Rattle.fx_winding.specs.Winding.{Span, centre}
use Rattle.fx_outline.specs.declared.points.OutlinePoint.{OutlinePoint}
use Rattle.fx_contour.specs.Contours.{farthest, IsInReach, is_within, is_in_reach, ReachIsTested, spans_of, drawn_of}
use Rattle.fx_contour.specs.Frames.{IsInBoundingBox, is_in_bounding_box, is_large_from, LargeIsTested, framed_of, outline_framed_of}
use Rattle.fx_contour.specs.Frames.{HasAny, HaveAny, AreTooLarge, has_any, have_any, first_from, is_too_large, IsFrameFor}

pub le_decides : (x y : ℤ) → Decides (int_le x y) (x ≤ℤ y)
le_decides x y = (λ t. omega (arith, ints), λ h. sym (omega (arith, ints)))

pub within_decides : (n : ℕ) (z : ℤ) → Decides (is_within n z) (IsWithin n z)
within_decides n z = Decides-and (int_le (neg_ℤ (pos n)) z) (int_le z (pos n)) (le_decides (neg_ℤ (pos n)) z) (le_decides z (pos n))

pub reach_is_tested : ReachIsTested
reach_is_tested points = Decides-by_and is_in_reach IsInReach (list_all is_in_reach)
    (λ p. Decides-and (is_within farthest p.x) (is_within farthest p.y) (within_decides farthest p.x)
    (within_decides farthest p.y)) refl (λ x xs. refl) points

has_decides : (t : Place → Bool) (P : Place → Type 0) → ((q : Place) → Decides (t q) (P q)) → (s : Span)
    → Decides (has_any t s) (HasAny P s)
has_decides t P d s = grind (arith, signed_linear, d)

pub have_decides : (t : Place → Bool) (P : Place → Type 0) → ((q : Place) → Decides (t q) (P q)) → (ss : List Span)
    → Decides (have_any t ss) (HaveAny P ss)
have_decides t P d [] = (λ e. absurd (cc), λ n. absurd n)
have_decides t P d (s ∷ ss) = Decides-or (has_any t s) (have_any t ss) (has_decides t P d s) (have_decides t P d ss)

box_decides : (p : Place) (ss : List Span) → Decides (is_in_bounding_box p ss) (IsInBoundingBox p ss)
box_decides p ss =
    Decides-like (is_in_bounding_box p ss) (λ h. record { left = h.0; right = h.1.0; bottom = h.1.1.0; top = h.1.1.1 })
    (λ h. (h.left, (h.right, (h.bottom, h.top))))
    (Decides-and (have_any (λ q. int_le q.x p.x) ss)
    (have_any (λ q. int_le p.x q.x) ss && (have_any (λ q. int_le q.y p.y) ss && have_any (λ q. int_le p.y q.y) ss))
    (have_decides (λ q. int_le q.x p.x) (λ q. q.x ≤ℤ p.x) (λ q. le_decides q.x p.x) ss)
    (Decides-and (have_any (λ q. int_le p.x q.x) ss) (have_any (λ q. int_le q.y p.y) ss && have_any (λ q. int_le p.y q.y) ss)
    (have_decides (λ q. int_le p.x q.x) (λ q. p.x ≤ℤ q.x) (λ q. le_decides p.x q.x) ss)
    (Decides-and (have_any (λ q. int_le q.y p.y) ss) (have_any (λ q. int_le p.y q.y) ss)
    (have_decides (λ q. int_le q.y p.y) (λ q. q.y ≤ℤ p.y) (λ q. le_decides q.y p.y) ss)
    (have_decides (λ q. int_le p.y q.y) (λ q. p.y ≤ℤ q.y) (λ q. le_decides p.y q.y) ss))))

abbrev IsLargeFrom : List Span → ℤ → ℤ → Type 0
IsLargeFrom ss i j = IsInBoundingBox (centre i j) ss × (IsInBoundingBox (centre (i +ℤ pos greatest_side) j) ss ⊎ IsInBoundingBox
    (centre i (j +ℤ pos greatest_side)) ss)

large_decides : (ss : List Span) (i j : ℤ) → Decides (is_large_from ss i j) (IsLargeFrom ss i j)
large_decides ss i j = grind (arith, signed_linear, box_decides)

-- a point that has P, and with it all that a point of the spans gives
pub some_one : (P : Place → Type 0) (X : Type 0) (ss : List Span) → HaveAny P ss
    → ((q : Place) → P q → ((R : Place → Type 0) → R q → HaveAny R ss) → X) → X
some_one P X [] h f = absurd h
some_one P X (s ∷ ss) (inr h) f = some_one P X ss h (λ q p m. f q p (λ R r. inr (m R r)))
some_one P X (s ∷ ss) (inl (inl a)) f = f s.a a (λ R r. inl (inl r))
some_one P X (s ∷ ss) (inl (inr (inr c))) f = f s.c c (λ R r. inl (inr (inr r)))
some_one P X (s ∷ ss) (inl (inr (inl b))) f = grind (arith, signed_linear, f)

pub more : (P Q : Place → Type 0) (ss : List Span) → HaveAny P ss → ((q : Place) → P q → Q q) → HaveAny Q ss
more P Q ss h f = some_one P (HaveAny Q ss) ss h (λ q p m. m Q (f q p))

floor_low : (z : ℤ) → (pos 128 *ℤ int_div_euclid z (pos 128)) ≤ℤ z
floor_low (pos n) = omega (arith, ints)
floor_low (negsuc n) = omega (arith, ints)

floor_high : (z : ℤ) → z ≤ℤ (pos 128 *ℤ int_div_euclid z (pos 128) +ℤ pos 127)
floor_high (pos n) = omega (arith, ints)
floor_high (negsuc n) = omega (arith, ints)

pub first_reaches : (z : ℤ) → z ≤ℤ (pos 128 *ℤ first_from z +ℤ pos 64)
first_reaches z =
    let h : (z +ℤ pos 63) ≤ℤ (pos 128 *ℤ first_from z +ℤ pos 127) = floor_high (z +ℤ pos 63) in omega (arith, signed_linear)

pub first_least : (z n : ℤ) → z ≤ℤ (pos 128 *ℤ n +ℤ pos 64) → first_from z ≤ℤ n
first_least z n h = let k : (pos 128 *ℤ first_from z) ≤ℤ (z +ℤ pos 63) = floor_low (z +ℤ pos 63) in omega (arith, ints)

-- a place no farther right and up than one in the box, and right of q and above r, is in the box
before : (p p' : Place) (ss : List Span) (q r : Place) → IsInBoundingBox p ss → ((R : Place → Type 0) → R q → HaveAny R ss)
    → ((R : Place → Type 0) → R r → HaveAny R ss) → q.x ≤ℤ p'.x → p'.x ≤ℤ p.x → r.y ≤ℤ p'.y → p'.y ≤ℤ p.y → IsInBoundingBox p' ss
before p p' ss q r h m n a b c d = record {
  left = m (λ s. s.x ≤ℤ p'.x) a;
  right = more (λ s. p.x ≤ℤ s.x) (λ s. p'.x ≤ℤ s.x) ss h.right (λ s k. omega (arith, ints));
  bottom = n (λ s. s.y ≤ℤ p'.y) c;
  top = more (λ s. p.y ≤ℤ s.y) (λ s. p'.y ≤ℤ s.y) ss h.top (λ s k. omega (arith, ints));
}

large_at : (ss : List Span) (i j i' j' : ℤ) (q r : Place) → IsLargeFrom ss i j → ((R : Place → Type 0) → R q → HaveAny R ss)
    → ((R : Place → Type 0) → R r → HaveAny R ss) → i' ≤ℤ i → j' ≤ℤ j → q.x ≤ℤ (pos 128 *ℤ i' +ℤ pos 64)
    → r.y ≤ℤ (pos 128 *ℤ j' +ℤ pos 64) → IsLargeFrom ss i' j'
large_at ss i j i' j' q r h m n x y kx ky = (
  before (centre i j) (centre i' j') ss q r h.0 m n (omega (arith, ints)) (omega (arith, ints)) (omega (arith, ints))
      (omega (arith, ints)),
  elim h.1 [
    | inl k ↦ inl (before (centre (i +ℤ pos greatest_side) j) (centre (i' +ℤ pos greatest_side) j') ss q r k m n
        (omega (arith, ints)) (omega (arith, ints)) (omega (arith, ints)) (omega (arith, ints)))
    | inr k ↦ inr (before (centre i (j +ℤ pos greatest_side)) (centre i' (j' +ℤ pos greatest_side)) ss q r k m n
        (omega (arith, ints)) (omega (arith, ints)) (omega (arith, ints)) (omega (arith, ints)))
  ],
)

abbrev Row : List Span → Place → Type 0
Row ss q = HaveAny (λ r. IsLargeFrom ss (first_from q.x) (first_from r.y)) ss

abbrev row : List Span → Place → Bool
row ss q = have_any (λ r. is_large_from ss (first_from q.x) (first_from r.y)) ss

pub large_is_tested : LargeIsTested
unfolding is_too_large
large_is_tested ss = Decides-like (have_any (row ss) ss) there back
    (have_decides (row ss) (Row ss) (λ q. have_decides (λ r. is_large_from ss (first_from q.x) (first_from r.y))
    (λ r. IsLargeFrom ss (first_from q.x) (first_from r.y)) (λ r. large_decides ss (first_from q.x) (first_from r.y)) ss) ss)
  where
    there : HaveAny (Row ss) ss → AreTooLarge ss
    there h = some_one (Row ss) (AreTooLarge ss) ss h
        (λ q k m. some_one (λ r. IsLargeFrom ss (first_from q.x) (first_from r.y)) (AreTooLarge ss) ss k
        (λ r l n. (first_from q.x, first_from r.y, l.0, l.1)))

    back : AreTooLarge ss → HaveAny (Row ss) ss
    back (i, j, h, k) = some_one (λ q. q.x ≤ℤ (centre i j).x) (HaveAny (Row ss) ss) ss h.left (λ q x m.
        some_one (λ r. r.y ≤ℤ (centre i j).y) (HaveAny (Row ss) ss) ss h.bottom (λ r y n.
        m (Row ss) (n (λ r. IsLargeFrom ss (first_from q.x) (first_from r.y))
        (large_at ss i j (first_from q.x) (first_from r.y) q r (h, k) m n (first_least q.x i x) (first_least r.y j y)
        (first_reaches q.x) (first_reaches r.y)))))

pub drawn_near : (ends : List ℕ) (points xs : List OutlinePoint) (r : Bool) (ss : List Span) → xs ≡ points
    → (IsTrue r ↔ All IsInReach xs) → r ≡ true → ss ≡ spans_of ends points → drawn_of ends points ≡ Ok ss
unfolding drawn_of
drawn_near ends points xs r ss e d t s = grind (arith, e, d, t, s, reach_is_tested)

pub drawn_far : (ends : List ℕ) (points xs : List OutlinePoint) (r : Bool) → xs ≡ points → (IsTrue r ↔ All IsInReach xs) → r ≡ false
    → drawn_of ends points ≡ Err TooFar
unfolding drawn_of
drawn_far ends points xs r e d f = grind (arith, e, d, f, false_from_ne_true, reach_is_tested)

pub framed_is : (r : Result (Option Frame) ContourFault) (ss : List Span) → IfOk r (λ f. IsFrameFor f ss)
    → IfErr r (λ e. (e ≡ TooLarge) × AreTooLarge ss) → map_ok (λ _. tt) r ≡ framed_of ss
unfolding framed_of
framed_is r ss h k = grind (arith, h, k, false_from_ne_true, frame_not_too_large, large_is_tested)

pub drawn_in_reach : (ends : List ℕ) (points : List OutlinePoint) → All IsInReach points
    → drawn_of ends points ≡ Ok (spans_of ends points)
drawn_in_reach ends points n = drawn_from ends points ((reach_is_tested points).1 n)

pub outline_framed_is : (ends : List ℕ) (points : List OutlinePoint) (f : Result (Option Frame) ContourFault)
    → All IsInReach points → IfOk f (λ x. IsFrameFor x (spans_of ends points))
    → IfErr f (λ e. (e ≡ TooLarge) × AreTooLarge (spans_of ends points)) → map_ok (λ _. tt) f ≡ outline_framed_of ends points
outline_framed_is ends points f n h k = rw (drawn_in_reach ends points n) (framed_is f (spans_of ends points) h k)

-- A bounding box grows by a span's points (`span_grows`), and after all pieces bounds them: `remains_end`.
-- For `PieceBounds` and `Extent` and their loops.
use Rattle.std.proofs.Common.{◌≡◌, subst, ℕ, ◌+◌, ◌<◌, ◌≤◌, drop, length, map, get_or, ◌⊎◌, inl, inr}
use Rattle.std.proofs.Common.{ℤ, pos, ◌*ℤ◌, ◌≤ℤ◌, List, [], ◌∷◌, Option, None, IsSomeAnd, drop_of_length-le, arith, ◌↔◌}
use Rattle.std.specs.Int.{int_min, int_max}
use Rattle.std.proofs.lemmas.Int.{ints, clamps, by_lt_z}
use Rattle.std.proofs.lemmas.List.{drop_more}
use Rattle.fx_winding.specs.Area.{Place}
use Rattle.fx_winding.specs.declared.point.Piece.{Piece}
use Rattle.fx_winding.specs.Winding.{Span, span_of}
use Rattle.fx_contour.specs.declared.bounds.PieceBounds.{PieceBounds}
use Rattle.fx_contour.specs.Frames.{HasAny, HaveAny}
use Rattle.fx_contour.specs.Bounds.{Side, left_side, right_side, bottom_side, top_side, IsOut, ReachOf, Reaches, Grows, AreBounds}
use Rattle.fx_contour.specs.Bounds.{AreBoundsOf}

pub least_is : (r l x t : ℤ) → r ≡ int_min l x → (r ≤ℤ t) ↔ ((l ≤ℤ t) ⊎ (x ≤ℤ t))
least_is r l x t e = (λ h. grind (arith, ints, clamps), λ h. grind (arith, ints, clamps))

greatest_is : (r l x t : ℤ) → r ≡ int_max l x → (t ≤ℤ r) ↔ ((t ≤ℤ l) ⊎ (t ≤ℤ x))
greatest_is r l x t e = (λ h. grind (arith, ints, clamps), λ h. grind (arith, ints, clamps))

pub doubled_least : (r l x : ℤ) → r ≡ int_min l x → pos 2 *ℤ r ≡ int_min (pos 2 *ℤ l) (pos 2 *ℤ x)
doubled_least r l x e = by_lt_z l x (λ k. omega (arith, ints, clamps)) (λ k. omega (arith, ints, clamps))

pub doubled_greatest : (r l x : ℤ) → r ≡ int_max l x → pos 2 *ℤ r ≡ int_max (pos 2 *ℤ l) (pos 2 *ℤ x)
doubled_greatest r l x e = by_lt_z l x (λ k. omega (arith, ints, clamps)) (λ k. omega (arith, ints, clamps))

pub point_grows : (l r d u l' r' d' u' : ℤ) (p : Place) → l' ≡ int_min l p.x → r' ≡ int_max r p.x → d' ≡ int_min d p.y
    → u' ≡ int_max u p.y → Grows (ReachOf l r d u) (ReachOf l' r' d' u') (λ P. P p)
point_grows l r d u l' r' d' u' p el er ed eu = record { sides = λ side t. at side t }
  where
    at : (side : Side) (t : ℤ) → ReachOf l' r' d' u' side t ↔ (ReachOf l r d u side t ⊎ IsOut side t p)
    at left_side t = least_is l' l p.x t el
    at right_side t = greatest_is r' r p.x t er
    at bottom_side t = least_is d' d p.y t ed
    at top_side t = greatest_is u' u p.y t eu

-- from a to b by R and on to c by S
two : (A B C R S : Type 0) → B ↔ (A ⊎ R) → C ↔ (B ⊎ S) → C ↔ (A ⊎ (R ⊎ S))
two A B C R S h k = (λ c. grind arith, λ x. grind arith)

-- a box that grows by R and then by S grows by both
pub then : (a b c : Side → ℤ → Type 0) (R S : (Place → Type 0) → Type 0) → Grows a b R → Grows b c S → Grows a c (λ P. R P ⊎ S P)
then a b c R S h k = grind (arith, h, k, two)

pub span_grows : (a b c d : Side → ℤ → Type 0) (s : Span) → Grows a b (λ P. P s.a) → Grows b c (λ P. IsSomeAnd s.b P)
    → Grows c d (λ P. P s.c) → Grows a d (λ P. HasAny P s)
span_grows a b c d s h k l =
    then a b d (λ P. P s.a) (λ P. IsSomeAnd s.b P ⊎ P s.c) h (then b c d (λ P. IsSomeAnd s.b P) (λ P. P s.c) k l)

-- a box stays as it is, if R tells of no point
pub stays : (a : Side → ℤ → Type 0) (R : (Place → Type 0) → Type 0) → ((P : Place → Type 0) → ¬ (R P)) → Grows a a R
stays a R n = record { sides = λ side t. (λ h. inl h, λ h. elim h [ inl x ↦ x | inr y ↦ absurd (n (IsOut side t) y) ]) }

pub no_control : (o : Option Place) → o ≡ None → (P : Place → Type 0) → ¬ (IsSomeAnd o P)
no_control o e P n = absurd (subst (λ (x : Option Place). IsSomeAnd x P) e n)

-- the box so far and the points of the spans that are left give the box of all
pub record Remains (b : PieceBounds) (ss rest : List Span) : Type 0 where
  pub sides : (side : Side) (t : ℤ) → HaveAny (IsOut side t) ss ↔ (Reaches b side t ⊎ HaveAny (IsOut side t) rest)

pub one_less : (X A B R S : Type 0) → X ↔ (A ⊎ (R ⊎ S)) → B ↔ (A ⊎ R) → X ↔ (B ⊎ S)
one_less X A B R S h k = (λ x. grind arith, λ y. grind arith)

pub remains_more : (b c : PieceBounds) (ps : List Piece) (n : ℕ) (s : Piece) → n < length ps → s ≡ get_or ps n s
    → Remains b (map span_of ps) (map span_of (drop n ps)) → Grows (Reaches b) (Reaches c) (λ P. HasAny P (span_of s))
    → Remains c (map span_of ps) (map span_of (drop (n + 1) ps))
remains_more b c ps n s h e r g = grind (arith, h, e, r, g, drop_more, one_less)

pub none_left : (X A : Type 0) → X ↔ (A ⊎ ⊥) → X ↔ A
none_left X A h = (λ x. grind arith, λ a. grind arith)

pub remains_end : (b : PieceBounds) (ps : List Piece) (n : ℕ) → length ps ≤ n → Remains b (map span_of ps) (map span_of (drop n ps))
    → AreBounds b (map span_of ps)
remains_end b ps n h r = grind (arith, h, r, drop_of_length-le, none_left)

pub first_too : (X A : Type 0) → (A → X) → X ↔ (A ⊎ X)
first_too X A f = (λ x. grind arith, λ y. grind arith)

-- the first piece's first point lies in the box of all
pub remains_first : (b : PieceBounds) (ps : List Piece) (d : Piece) → 0 < length ps → b.left ≡ (get_or ps 0 d).a.x
    → b.right ≡ (get_or ps 0 d).a.x → b.bottom ≡ (get_or ps 0 d).a.y → b.top ≡ (get_or ps 0 d).a.y
    → Remains b (map span_of ps) (map span_of ps)
remains_first b [] d h l r u v = absurd (omega arith)
remains_first b (s ∷ ps) d h l r u v = grind (arith, h, l, r, u, v, first_too)

-- no piece has no box
pub none_of : (ps : List Piece) → length ps ≡ 0 → AreBoundsOf None (map span_of ps)
none_of [] h = record { sides = λ side t. (λ n. n, λ n. n) }
none_of (s ∷ ps) h = absurd (omega arith)

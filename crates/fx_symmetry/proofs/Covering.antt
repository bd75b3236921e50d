-- Moved pieces of closed contours add up as the laws say, and cover the moved places: `adds_up`, `moves_cover`.
-- Serves the law `pieces`, and the bits of moved outlines.
use Rattle.std.proofs.Common.{◌≡◌, ◌≢◌, refl, sym, ap, ◌∙◌, subst, ◌↔◌, ◌⊎◌, inl, inr, ℤ, pos, negsuc, ◌+ℤ◌, ◌-ℤ◌, ◌*ℤ◌, neg_ℤ}
use Rattle.std.proofs.Common.{int_lt, ◌&&◌, if◌then◌else◌, List, [], ◌∷◌, ◌++◌, map, Any, arith}
use Rattle.std.specs.Ordering.{int_eq}
use Rattle.std.proofs.lemmas.Int.{ints}
use Rattle.fx_fixed.specs.Polynomial.{var, num, ◌⊞◌, ◌⊠◌, minus, ◌⊟◌}
use Rattle.fx_fixed.proofs.Ring.{ring}
use Rattle.fx_fixed.proofs.Linear.{signed_linear}
use Rattle.fx_winding.specs.Area.{Place}
use Rattle.fx_winding.specs.Meets.{turn}
use Rattle.fx_winding.specs.Outside.{Leads, IsOutline, joined}
use Rattle.fx_winding.specs.Winding.{Span, IsOn, winding, IsCovered, centre}
use Rattle.fx_winding.proofs.Covers.{any_map, any_unmap, any_here, any_there}
use Rattle.fx_raster.proofs.Covering.{any_on}
use Rattle.fx_symmetry.specs.Symmetries.{Symmetry, Mirror, Flip, Exchange, place_in, span_in, col_in, row_in}
use Rattle.fx_symmetry.specs.Pieces.{end_in, AddsUp, MovesCover, MovesBits}
use Rattle.fx_symmetry.proofs.Exchanged.{exchanged_turn}
use Rattle.fx_symmetry.proofs.Mirrored.{mirrored_turn}
use Rattle.fx_symmetry.proofs.OnPieces.{on_moved, span_twice, turned_mirrored}

-- ---- what a moved piece adds
-- an end counts upside down what it counts in the three steps
ends : (px py ex ey : ℤ) → ((if int_lt px ex && int_lt (neg_ℤ py) (neg_ℤ ey) then pos 1 else pos 0)
    -ℤ (if int_lt px ex then pos 1 else pos 0)) +ℤ (if int_lt py ey && int_lt px ex then pos 1 else pos 0)
    ≡ (if int_eq ey py && int_lt px ex then negsuc 0 else pos 0)
ends px py ex ey = grind (arith, ints)

-- upside down is exchanged, mirrored and exchanged
pub turn_in : (m : Symmetry) (p : Place) (s : Span) → ¬ (IsOn p s)
    → turn (place_in m p) (span_in m s) ≡ (end_in m p s.c -ℤ end_in m p s.a) -ℤ turn p s
turn_in Mirror p s off = mirrored_turn p s off
turn_in Exchange p s off = exchanged_turn p s off
turn_in Flip p s off = ap (turn (place_in Flip p)) (sym (turned_mirrored t ∙ ap (span_in Flip) (span_twice Exchange s)))
    ∙ sum (end_in Exchange r u.a) (end_in Exchange r u.c) (end_in Mirror q t.a) (end_in Mirror q t.c) (end_in Exchange p s.a)
    (end_in Exchange p s.c) (end_in Flip p s.a) (end_in Flip p s.c) (turn p s) (turn q t) (turn r u) _ (ends p.x p.y s.a.x s.a.y)
    (ends p.x p.y s.c.x s.c.y) (exchanged_turn p s off) (mirrored_turn q t off_t) (exchanged_turn r u off_u)
  where
    q : Place
    q = place_in Exchange p

    t : Span
    t = span_in Exchange s

    r : Place
    r = place_in Mirror q

    u : Span
    u = span_in Mirror t

    off_t : ¬ (IsOn q t)
    off_t h = off ((on_moved Exchange p s).0 h)

    off_u : ¬ (IsOn r u)
    off_u h = off_t ((on_moved Mirror q t).0 h)

    sum : (a c b d e f g h x y z w : ℤ) → (a -ℤ b) +ℤ e ≡ g → (c -ℤ d) +ℤ f ≡ h → y ≡ (f -ℤ e) -ℤ x → z ≡ (d -ℤ b) -ℤ y
        → w ≡ (c -ℤ a) -ℤ z → w ≡ (h -ℤ g) -ℤ x
    sum a c b d e f g h x y z w i j k l m = omega (arith, signed_linear, i, j, k, l, m)

pub adds_up : AddsUp
adds_up m p s = (on_moved m p s, turn_in m p s)

-- ---- closed contours
-- a chain of pieces rises from its start to its end
chain_moved : (m : Symmetry) (p : Place) (ss rest : List Span) (x y : Place) → Leads x ss y → ¬ (Any (IsOn p) (ss ++ rest))
    → (¬ (Any (IsOn p) rest) → winding (place_in m p) (map (span_in m) rest) ≡ neg_ℤ (winding p rest))
    → winding (place_in m p) (map (span_in m) (ss ++ rest)) ≡ (end_in m p y -ℤ end_in m p x) -ℤ winding p (ss ++ rest)
chain_moved m p [] rest x y e off more = more off ∙ level (end_in m p x) (end_in m p y) (winding p rest) (ap (end_in m p) e)
  where
    level : (x y z : ℤ) → x ≡ y → neg_ℤ z ≡ (y -ℤ x) -ℤ z
    level x y z e = omega (arith, signed_linear, e)
chain_moved m p (s ∷ ss) rest x y (e, l) off more =
    sum (turn (place_in m p) (span_in m s)) (turn p s) (winding (place_in m p) (map (span_in m) (ss ++ rest)))
    (winding p (ss ++ rest)) (end_in m p x) (end_in m p s.a) (end_in m p s.c) (end_in m p y) (ap (end_in m p) e)
    (turn_in m p s (λ h. off (any_here (IsOn p) s (ss ++ rest) h)))
    (chain_moved m p ss rest s.c y l (λ h. off (any_there (IsOn p) s (ss ++ rest) h)) more)
  where
    sum : (t' t w' w x a c y : ℤ) → x ≡ a → t' ≡ (c -ℤ a) -ℤ t → w' ≡ (y -ℤ c) -ℤ w → t' +ℤ w' ≡ (y -ℤ x) -ℤ (t +ℤ w)
    sum t' t w' w x a c y e f g = omega (arith, signed_linear, e, f, g)

wound_moved : (m : Symmetry) (p : Place) (contours : List (List Span)) → IsOutline contours → ¬ (Any (IsOn p) (joined contours))
    → winding (place_in m p) (map (span_in m) (joined contours)) ≡ neg_ℤ (winding p (joined contours))
wound_moved m p [] o off = refl
wound_moved m p (ss ∷ contours) ((x, l), o) off = chain_moved m p ss (joined contours) x x l off (wound_moved m p contours o)
    ∙ closed (end_in m p x) (winding p (ss ++ joined contours))
  where
    closed : (x z : ℤ) → (x -ℤ x) -ℤ z ≡ neg_ℤ z
    closed x z = omega (arith, signed_linear)

-- ---- what they cover
-- places on pieces are moved, and elsewhere the winding number changes its sign
cover_by : (A B : Type 0) (w w' : ℤ) → A ⊎ ¬ A → B ↔ A → (¬ A → w' ≡ neg_ℤ w) → (B ⊎ (w' ≢ pos 0)) ↔ (A ⊎ (w ≢ pos 0))
cover_by A B w w' known same turned = (from known, to known)
  where
    from : A ⊎ ¬ A → B ⊎ (w' ≢ pos 0) → A ⊎ (w ≢ pos 0)
    from k (inl b) = inl (same.0 b)
    from (inl a) (inr n) = inl a
    from (inr off) (inr n) = inr (λ e. n (turned off ∙ ap neg_ℤ e))

    to : A ⊎ ¬ A → A ⊎ (w ≢ pos 0) → B ⊎ (w' ≢ pos 0)
    to k (inl a) = inl (same.1 a)
    to (inl a) (inr n) = inl (same.1 a)
    to (inr off) (inr n) = inr (λ e. n (let f = turned off in omega (arith, signed_linear, e, f)))

cover_of : (m : Symmetry) (p : Place) (contours : List (List Span)) → IsOutline contours
    → IsCovered (place_in m p) (map (span_in m) (joined contours)) ↔ IsCovered p (joined contours)
unfolding IsCovered
cover_of m p contours o =
    let ss = joined contours in
    cover_by (Any (IsOn p) ss) (Any (IsOn (place_in m p)) (map (span_in m) ss)) (winding p ss)
    (winding (place_in m p) (map (span_in m) ss)) (any_on p ss) (
      any_unmap (span_in m) (IsOn p) (IsOn (place_in m p)) (λ s. (on_moved m p s).0) ss,
      any_map (span_in m) (IsOn p) (IsOn (place_in m p)) (λ s. (on_moved m p s).1) ss,
    ) (wound_moved m p contours o)

pub moves_cover : MovesCover
moves_cover m p ss (contours, o, e) =
    subst (λ xs. IsCovered (place_in m p) (map (span_in m) xs) ↔ IsCovered p xs) e (cover_of m p contours o)

-- ---- pixels
-- the column, or the row, of the mirrored pixel
abbrev pub mirror : ℤ → ℤ
mirror i = negsuc 0 -ℤ i

pub axis_mirrored : (i : ℤ) → neg_ℤ (pos 128 *ℤ i +ℤ pos 64) ≡ pos 128 *ℤ mirror i +ℤ pos 64
axis_mirrored i = ring (i ∷ []) (minus (num (pos 128) ⊠ var 0 ⊞ num (pos 64)))
    (num (pos 128) ⊠ (num (negsuc 0) ⊟ var 0) ⊞ num (pos 64)) tt

pub centre_in : (m : Symmetry) (i j : ℤ) → place_in m (centre i j) ≡ centre (col_in m i j) (row_in m i j)
centre_in Mirror i j = λ t. record { x = axis_mirrored i t; y = pos 128 *ℤ j +ℤ pos 64 }
centre_in Flip i j = λ t. record { x = pos 128 *ℤ i +ℤ pos 64; y = axis_mirrored j t }
centre_in Exchange i j = refl

pub moves_bits : MovesBits
moves_bits m i j ss h =
    subst (λ q. IsCovered q (map (span_in m) ss) ↔ IsCovered (centre i j) ss) (centre_in m i j) (moves_cover m (centre i j) ss h)

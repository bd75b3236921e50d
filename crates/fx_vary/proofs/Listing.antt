-- Before any tuple the sums of a glyph's points are 0, as `begun_within` says, and contours end at points, as `ends_inside` says.
-- For `sum` and `push_ends`.
use Rattle.std.proofs.Common.{◌≡◌, ℕ, zero, suc, ◌+◌, ◌<◌, Bool, false, ℤ, pos, List, [], ◌∷◌, ◌++◌, length, map, get_or}
use Rattle.std.proofs.Common.{refl, sym, ap, ◌∙◌, arith, unsigned_abs}
use Rattle.std.proofs.lemmas.List.{length-append, length-map}
use Rattle.std.proofs.lemmas.Int.{ints}
use Rattle.std.specs.List.{All}
use Rattle.fx_glyf.specs.Grammar.{AreEnds}
use Rattle.fx_glyf.specs.Shapes.{SimpleView}
use Rattle.fx_glyf.specs.declared.glyph.Glyph.{Glyph}
use Rattle.fx_glyf.specs.declared.glyph.Glyph.TheVariants.{Empty, Simple, Composite}
use Rattle.fx_glyf.proofs.EndPoints.{ends_reach}
use Rattle.fx_moves.specs.declared.point.GivenPoint.{GivenPoint}
use Rattle.fx_moves.specs.Adding.{AreWithin, sums}
use Rattle.fx_vary.specs.Shape.{point_at, blank, phantoms, along, own_points, points_before, ends_of, sum_at}

-- ---- sums

unfoldable pub Still : List GivenPoint → Type 0
Still [] = Unit {0}
Still (p ∷ ps) = (p.sum ≡ pos 0) × Still ps

still_map : {A : Type 0} (f : A → GivenPoint) (h : (a : A) → (f a).sum ≡ pos 0) (xs : List A) → Still (map f xs)
unfolding Still
still_map f h [] = tt
still_map f h (x ∷ xs) = (h x, still_map f h xs)

still_append : (xs ys : List GivenPoint) → Still xs → Still ys → Still (xs ++ ys)
unfolding Still
still_append [] ys h g = g
still_append (x ∷ xs) ys h g = (h.0, still_append xs ys h.1 g)

still_at : (ps : List GivenPoint) (k : ℕ) (d : ℤ) → Still ps → k < length (sums ps) → get_or (sums ps) k d ≡ pos 0
unfolding Still
still_at [] k d h j = absurd (omega (arith, j))
still_at (p ∷ ps) zero d h j = h.0
still_at (p ∷ ps) (suc k) d h j = still_at ps k d h.1 (omega (arith, j))

pub still_within : (ps : List GivenPoint) → Still ps → AreWithin 0 (sums ps)
still_within ps h = record { each = λ k d j. omega (arith, ints, ap unsigned_abs (still_at ps k d h j)) }

own_still : (second : Bool) (glyph : Glyph) → Still (own_points second glyph)
unfolding own_points Still
own_still second Empty = tt
own_still second (Simple s) = still_map (λ p. point_at (along second p)) (λ p. refl) s.points
own_still second (Composite c) = still_map (λ _. blank) (λ p. refl) c.components

phantoms_still : Still phantoms
unfolding Still
phantoms_still = (refl, (refl, (refl, (refl, tt))))

pub begun_within : (second : Bool) (glyph : Glyph) (ps : List GivenPoint) → ps ≡ points_before second glyph → AreWithin 0 (sums ps)
begun_within second glyph ps e =
    rw e (still_within (points_before second glyph)
    (still_append (own_points second glyph) phantoms (own_still second glyph) phantoms_still))

still_sum : (ps : List GivenPoint) (k : ℕ) → Still ps → (get_or ps k blank).sum ≡ pos 0
unfolding Still
still_sum [] k h = refl
still_sum (p ∷ ps) zero h = h.0
still_sum (p ∷ ps) (suc k) h = still_sum ps k h.1

pub still_before : (second : Bool) (glyph : Glyph) (j : ℕ) → sum_at (points_before second glyph) j ≡ pos 0
still_before second glyph j = still_sum (points_before second glyph) j
    (still_append (own_points second glyph) phantoms (own_still second glyph) phantoms_still)

-- ---- numbers of points

own_long : (second : Bool) (glyph : Glyph) → length (own_points second glyph) ≡ length (own_points false glyph)
unfolding own_points
own_long second Empty = refl
own_long second (Simple s) =
    length-map s.points (λ p. point_at (along second p)) ∙ sym (length-map s.points (λ p. point_at (along false p)))
own_long second (Composite c) = refl

pub before_long : (second : Bool) (glyph : Glyph) (ps : List GivenPoint) → ps ≡ points_before second glyph
    → length ps ≡ length (own_points second glyph) + 4
before_long second glyph ps e = ap length e ∙ length-append (own_points second glyph) phantoms

-- ---- ends

-- each end is below the number of points
ends_below : (start : ℕ) (es : List ℕ) (n : ℕ) → AreEnds start es n → All (λ e. e < n) es
ends_below start [] n h k d lt = absurd (omega arith)
ends_below start (e ∷ es) n h zero d lt = let r = ends_reach (e + 1) es n h.1 in omega arith
ends_below start (e ∷ es) n h (suc k) d lt = ends_below (e + 1) es n h.1 k d (omega arith)

pub ends_given : (es given : List ℕ) (n : ℕ) → AreEnds 0 given n → es ≡ given → All (λ e. e < n) es
ends_given es given n h e = rw e (ends_below 0 given n h)

-- those of a glyph
pub own_ends : (s : SimpleView) → All (λ e. e < length s.points) s.ends
    → All (λ e. e < length (own_points false (Simple s))) s.ends
unfolding own_points
own_ends s h = λ k d j. omega (arith, h k d j, length-map s.points (λ p. point_at (along false p)))

pub no_ends : (n : ℕ) → All (λ e. e < n) []
no_ends n k d j = absurd (omega (arith, j))

pub ends_inside : (second : Bool) (glyph : Glyph) (es : List ℕ) (ps : List GivenPoint) → es ≡ ends_of glyph
    → ps ≡ points_before second glyph → All (λ e. e < length (own_points false glyph)) (ends_of glyph) → All (λ e. e < length ps) es
ends_inside second glyph es ps e g h =
    rw e (λ k d j. omega (arith, h k d j, before_long second glyph ps g, own_long second glyph))

pub ruleset ends_steps = (own_ends, no_ends)

-- If an arc has halves, they are the two arcs over the middles of its points: `halves_are`.
-- Serves `halves`, and the law of halves.
use Rattle.std.proofs.Common.{◌≡◌, refl, sym, ap, ◌∙◌, ℤ, pos, ◌+ℤ◌, ◌-ℤ◌, ◌*ℤ◌, Option, Some, None, option_map, arith}
use Rattle.std.specs.Prelude.{option_and_then}
use Rattle.std.proofs.lemmas.Int.{ints}
use Rattle.std.proofs.lemmas.Option.{option_and_then_some}
use Rattle.fx_winding.specs.Area.{Place, place}
use Rattle.fx_winding.specs.Winding.{Span}
use Rattle.fx_symmetry.specs.Halving.{half_of, middle_of, two_arcs, halves_of_part}

pub middle_without_x : (p q : Place) → half_of (p.x +ℤ q.x) ≡ None → middle_of p q ≡ None
middle_without_x p q h = ap (option_and_then (λ x. option_map (place x) (half_of (p.y +ℤ q.y)))) h

pub middle_without_y : (p q : Place) (x : ℤ) → half_of (p.x +ℤ q.x) ≡ Some x → half_of (p.y +ℤ q.y) ≡ None → middle_of p q ≡ None
middle_without_y p q x h k = ap (option_and_then (λ x. option_map (place x) (half_of (p.y +ℤ q.y)))) h ∙ ap (option_map (place x)) k

pub middle_with : (p q : Place) (x y : ℤ) → half_of (p.x +ℤ q.x) ≡ Some x → half_of (p.y +ℤ q.y) ≡ Some y
    → middle_of p q ≡ Some (place x y)
middle_with p q x y h k = ap (option_and_then (λ x. option_map (place x) (half_of (p.y +ℤ q.y)))) h ∙ ap (option_map (place x)) k

-- ---- what halves are
-- the place as far past q as q is from p
abbrev pub beyond : Place → Place → Place
beyond p q = place ((q.x +ℤ q.x) -ℤ p.x) ((q.y +ℤ q.y) -ℤ p.y)

pub half_is : (z h : ℤ) → half_of z ≡ Some h → pos 2 *ℤ h ≡ z
half_is z h e = grind (arith, e)

map_some : {A B P : Type 0} (f : A → B) (o : Option A) (y : B) → option_map f o ≡ Some y → ((x : A) → o ≡ Some x → f x ≡ y → P) → P
map_some f None y e k = absurd (cc)
map_some f (Some x) y e k = k x refl (cc)

-- a middle's second place is as far past it as the first is before it
middle_is : (p q r : Place) → middle_of p q ≡ Some r → q ≡ beyond p r
middle_is p q r e = option_and_then_some (λ x. option_map (place x) (half_of (p.y +ℤ q.y))) (half_of (p.x +ℤ q.x)) r e
    (λ x h s. map_some (place x) (half_of (p.y +ℤ q.y)) r s (λ y k t i. record {
      x = apart p.x q.x x r.x (ap (λ t. t.x) t) (half_is (p.x +ℤ q.x) x h) i;
      y = apart p.y q.y y r.y (ap (λ t. t.y) t) (half_is (p.y +ℤ q.y) y k) i;
    }))
  where
    apart : (x y z u : ℤ) → z ≡ u → pos 2 *ℤ z ≡ x +ℤ y → y ≡ (u +ℤ u) -ℤ x
    apart x y z u s e = omega (arith, ints)

-- the middles of an arc that has halves
pub record Cut (a b c m n j : Place) : Type 0 where
  pub b_is : b ≡ beyond a m
  pub n_is : n ≡ beyond m j
  pub c_is : c ≡ beyond b n

pub halves_are : (a b c : Place) (f g : Span) → halves_of_part a (Some b) c ≡ Some (f, g)
    → (m : Place) × (n : Place) × (j : Place) × Cut a b c m n j × ((f, g) ≡ two_arcs a m j n c)
halves_are a b c f g e = option_and_then_some
    (λ m. option_and_then (λ n. option_map (λ j. two_arcs a m j n c) (middle_of m n)) (middle_of b c)) (middle_of a b) (f, g) e
    (λ m h r. option_and_then_some (λ n. option_map (λ j. two_arcs a m j n c) (middle_of m n)) (middle_of b c) (f, g) r
    (λ n k s. map_some (λ j. two_arcs a m j n c) (middle_of m n) (f, g) s (λ j l t.
    (m, n, j, record { b_is = middle_is a b m h; n_is = middle_is m n j l; c_is = middle_is b c n k }, sym t))))
